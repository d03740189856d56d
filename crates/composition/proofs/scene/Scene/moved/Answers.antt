use Rattle.std.proofs.Common.{◌∙◌, sym, ap, option_copied}
use Rattle.composition.proofs.HomeSteps.{moved_home, own_home}
use Rattle.composition.proofs.scene.Scene.moved.Goals as goal

pub returns-in-Some : goal.returns-in-Some
returns-in-Some c =
    moved_home c.args.path.now c.args.self.now.bindings c.in-Some.binding.now c.moved_on.result (ap option_copied (sym c.in-Some.is) ∙ c.in_ok-binding.ensures)
    c.moved_on.ensures

pub returns-in-None : goal.returns-in-None
returns-in-None c = own_home c.args.path.now c.args.self.now.bindings c.copy.result (ap option_copied (sym c.in-None.is) ∙ c.in_ok-binding.ensures) c.copy.ensures

use Rattle.std.proofs.Common.{◌∙◌, sym, ap}
use Rattle.std.specs.Prelude.{option_and_then, slice_get}
use Rattle.keep_rules.proofs.of_path_index.Firsts.{find_is, item_is}
use Rattle.composition.specs.SeenHomes.{leads}
use Rattle.composition.proofs.scene.Scene.first_binding.Goals as goal

pub returns-in-Some : goal.returns-in-Some
returns-in-Some c =
    item_is c.as_slice.result.now c.in-Some.place c.get.result c.get.ensures.lookup
    ∙ ap (λ bs. slice_get bs c.in-Some.place) c.as_slice.ensures
    ∙ ap (option_and_then (slice_get c.args.self.now.bindings)) (sym c.in-Some.is ∙ c.in_ok-place.ensures)
    ∙ sym (find_is (leads c.args.path.now.steps) c.args.self.now.bindings)

pub returns-in-None : goal.returns-in-None
returns-in-None c =
    ap (option_and_then (slice_get c.args.self.now.bindings)) (sym c.in-None.is ∙ c.in_ok-place.ensures)
    ∙ sym (find_is (leads c.args.path.now.steps) c.args.self.now.bindings)

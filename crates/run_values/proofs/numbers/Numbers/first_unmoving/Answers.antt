use Rattle.std.proofs.Common.{◌∙◌, sym, ap, not}
use Rattle.std.specs.List.{list_all}
use Rattle.field_flatten.specs.composition.Items.{motion_holds}
use Rattle.field_flatten.specs.composition.Slots.{ticks_of}
use Rattle.run_values.specs.SeenNumbers.{scene_in, run_in}
use Rattle.run_values.proofs.Rows.{find_next}
use Rattle.run_values.proofs.numbers.Numbers.first_unmoving.Goals as goal

pub loop-rest-preserved : goal.loop-rest-preserved
loop-rest-preserved c =
    find_next (λ v. not (list_all (motion_holds (scene_in c.args.self.now) (run_in c.args.self.now) v) (ticks_of (scene_in c.args.self.now).setting)))
    c.loop-rest.rest.now c.vehicle-item.result c.in-len1-up.len_at_least c.vehicle-item.is (ap not (sym c.in_ok-moves.ensures ∙ c.if-not-branch.false))
    ∙ c.loop-rest.invariant

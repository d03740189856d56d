-- A modifier of single ticks holds in a run exactly if it does by its row.
use Rattle.std.proofs.Common.{◌≡◌, refl, ap, ◌∙◌, Bool, true, false, ◌&&◌, ◌||◌, not, ℕ}
use Rattle.std.specs.Prelude.{pos}
use Rattle.expr_nodes.specs.osc_base.Modifiers.{holds_of, is_moment}
use Rattle.expr_nodes.proofs.of_osc_base.RelationsToday.{today_asks}
use Rattle.composition.specs.declared.run.Run.{Run}
use Rattle.composition.specs.Scenes.{Scene, ModifierSpot}
use Rattle.composition.specs.There.{are_met, modifier_presence}
use Rattle.composition.specs.Items.{times_of, sample_of, end_value, other_of, modifier_holds}
use Rattle.composition.specs.RowSpots.{sight_of, row_holds, row_spot}

both_asked : (met moment held : Bool) → not met || (not moment || held) ≡ not (met && moment) || held
both_asked true moment held = refl
both_asked false moment held = refl

pub today_spot : (scene : Scene) (run : Run) (m : ModifierSpot) (tick : ℕ) → row_holds scene run (row_spot m) tick ≡ modifier_holds scene run m tick
today_spot scene run m tick =
    ap (λ b. not (are_met run (modifier_presence scene m)) || b)
    (today_asks m.kind m.moment (end_value scene run m.low) (end_value scene run m.high) (sight_of scene run (row_spot m)) tick)
    ∙ both_asked (are_met run (modifier_presence scene m)) (is_moment m.moment ((times_of run).start m.phase) ((times_of run).end m.phase) (pos tick))
    (holds_of m.kind (end_value scene run m.low) (end_value scene run m.high) (sample_of run m.own tick) (sample_of run (other_of m) tick))

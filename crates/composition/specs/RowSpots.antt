-- A modifier by its row of the table, and whether it holds in a run.
use Rattle.std.specs.Prelude.{ℕ, ◌||◌, Bool, not, List, ◌∷◌, ◌++◌, Option, flat_map, option_to_list, unwrap_or}
use Rattle.expr_nodes.specs.osc_base.declared.fault.Place.{Place}
use Rattle.expr_nodes.specs.osc_base.declared.path.Path.{Path}
use Rattle.expr_nodes.specs.osc_base.declared.modifier.Moment.{Moment}
use Rattle.expr_nodes.specs.osc_base.declared.relation.Relation.{Relation}
use Rattle.expr_nodes.specs.osc_base.Relations.{Sight, asks, relation_of}
use Rattle.expr_nodes.specs.Typed.{Typed}
use Rattle.composition.specs.declared.guard.Guard.{Guard}
use Rattle.composition.specs.declared.run.Run.{Run}
use Rattle.composition.specs.Scenes.{Scene, ModifierSpot, guards}
use Rattle.composition.specs.There.{are_met, once, read_by}
use Rattle.composition.specs.Items.{times_of, sample_of, end_value}

-- A modifier: where it is written, its phase, its own and its other vehicle, what it asks, its moments, and the ends of its range.
pub record RowSpot : Type 0 where
  pub place : Place
  pub phase : Path
  pub own : Path
  pub other : Option Path
  pub relation : Relation
  pub moment : Moment
  pub low : Option Typed
  pub high : Option Typed

-- the conditions under which it is there: those of its phase, of its vehicles, and of each path that it reads
abbrev pub row_presence : Scene → RowSpot → List Guard
row_presence scene m = once (flat_map (guards scene) (m.phase ∷ m.own ∷ option_to_list m.other ++ read_by m.low ++ read_by m.high))

-- what it looks at in a run; a relation without another vehicle doesn't ask for it
abbrev pub sight_of : Scene → Run → RowSpot → Sight
sight_of scene run m = record {
  length = run.tick;
  ticks = scene.setting.ticks;
  start = (times_of run).start m.phase;
  end = (times_of run).end m.phase;
  own = sample_of run m.own;
  other = sample_of run (unwrap_or m.other m.own);
}

-- a modifier that is there has what it asks at a tick
abbrev pub row_holds : Scene → Run → RowSpot → ℕ → Bool
row_holds scene run m tick =
    not (are_met run (row_presence scene m)) || asks m.relation m.moment (end_value scene run m.low) (end_value scene run m.high) (sight_of scene run m) tick

-- a modifier of single ticks by its row
abbrev pub row_spot : ModifierSpot → RowSpot
row_spot m = record {
  place = m.place;
  phase = m.phase;
  own = m.own;
  other = m.other;
  relation = relation_of m.kind;
  moment = m.moment;
  low = m.low;
  high = m.high;
}

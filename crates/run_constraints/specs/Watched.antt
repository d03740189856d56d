-- Whether modifiers hold at ticks, of samples in a row.
use Rattle.std.specs.Prelude.{◌≡◌, ℕ, ℤ, pos, ◌*◌, ◌<◌, ◌≤◌, ◌≤ℤ◌, ◌||◌, Bool, not, Option, unsigned_abs}
use Rattle.osc_base.specs.Number.{Number, IsSame}
use Rattle.osc_base.specs.Fraction.{value}
use Rattle.osc_base.specs.Comparisons.{greatest_part}
use Rattle.osc_base.specs.Modifiers.{holds_of, is_moment}
use Rattle.expr_nodes.specs.Typed.{Typed}
use Rattle.run_values.specs.modifier_rules.Ends.{HasEnds}
use Rattle.run_values.specs.field_flatten.Rules.{scale_of}
use Rattle.run_values.specs.field_flatten.Exactness.{end_reach}
use Rattle.scene_conditions.specs.composition.declared.run.Run.{Run}
use Rattle.scene_conditions.specs.composition.Scenes.{Scene, ModifierSpot}
use Rattle.scene_conditions.specs.composition.Items.{times_of, end_value, sample_of, other_of}
use Rattle.run_values.specs.SeenCourses.{sample_at}
use Rattle.run_constraints.specs.declared.modifiers.Watch.{Watch}

-- what is watched holds at a tick, if that is one of its moments
abbrev pub watch_holds : Watch → ℕ → Bool
watch_holds w tick =
    not (is_moment w.moment (pos w.start) (pos w.end) (pos tick))
    || holds_of w.kind (value w.low) (value w.high) (sample_at w.own.now tick) (sample_at w.other.now tick)

-- a modifier that is there holds at a tick, if that is one of its moments
abbrev pub watched_holds : Scene → Run → ModifierSpot → ℕ → Bool
watched_holds scene run m tick =
    not (is_moment m.moment ((times_of run).start m.phase) ((times_of run).end m.phase) (pos tick))
    || holds_of m.kind (end_value scene run m.low) (end_value scene run m.high) (sample_of run m.own tick) (sample_of run (other_of m) tick)

-- two numbers with denominators above 0 are one number
pub record IsEnd (x y : Number) : Type 0 where
  pub above : pos 1 ≤ℤ x.denominator
  pub other_above : pos 1 ≤ℤ y.denominator
  pub same : IsSame x y

-- over a common multiple of denominators, a fraction's numerator passes no limit
pub record IsNarrow (common : ℕ) (x : Number) : Type 0 where
  pub share : ℕ
  pub above : pos 1 ≤ℤ x.denominator
  pub is : unsigned_abs x.denominator * share ≡ common
  pub small : unsigned_abs x.numerator * share ≤ greatest_part

-- a number is that of an end, and it is narrow at each multiple of the end's scale at which the end is
pub record IsEndOf (scene : Scene) (run : Run) (typed : Option Typed) (x : Number) : Type 0 where
  pub end : IsEnd x (end_value scene run typed)
  pub narrow : (common share : ℕ) → 0 < common → scale_of typed * share ≡ common → end_reach typed * share ≤ greatest_part → IsNarrow common x

-- the ends can be compared with what the modifier looks at, at each tick
pub record CanCompare (w : Watch) : Type 0 where
  pub at : (tick : ℕ) → HasEnds w.kind (sample_at w.own.now tick) (sample_at w.other.now tick) (value w.low) (value w.high)

-- this is what is watched of a modifier that is there
pub record IsWatch (scene : Scene) (run : Run) (m : ModifierSpot) (w : Watch) : Type 0 where
  pub same : (tick : ℕ) → watch_holds w tick ≡ watched_holds scene run m tick
  pub comparable : CanCompare w

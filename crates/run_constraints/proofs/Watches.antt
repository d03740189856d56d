-- What is watched of a modifier.
use Rattle.std.proofs.Common.{◌≡◌, ◌∙◌, refl, sym, ap, ap₂, arith, ℕ, Bool, true, false, ◌&&◌, ◌||◌, not, List, [], ◌∷◌, Option}
use Rattle.std.proofs.lemmas.Int.{ints, by_lt_z}
use Rattle.std.specs.Prelude.{ℤ, pos, ◌*ℤ◌, ◌≤ℤ◌, int_le, unwrap_or, slice_get, option_and_then}
use Rattle.std.specs.List.{list_all}
use Rattle.osc_base.specs.declared.fraction.Fraction.{Fraction}
use Rattle.osc_base.specs.declared.modifier.Kind.{Kind}
use Rattle.osc_base.specs.declared.sample.Sample.{Sample}
use Rattle.osc_base.specs.Number.{Number}
use Rattle.osc_base.specs.Comparisons.{is_at_most, is_between}
use Rattle.osc_base.specs.Fraction.{value}
use Rattle.osc_base.specs.Modifiers.{holds_of, is_moment}
use Rattle.osc_base.proofs.Integers.{swap_last, le_times, le_cancel}
use Rattle.scene_conditions.specs.composition.declared.run.Run.{Run}
use Rattle.scene_conditions.specs.composition.RunParts.{samples_in}
use Rattle.scene_conditions.specs.composition.Scenes.{Scene, ModifierSpot}
use Rattle.scene_conditions.specs.composition.Invariants.{has_range}
use Rattle.scene_conditions.specs.composition.There.{are_met, modifier_presence}
use Rattle.scene_conditions.specs.composition.Items.{times_of, end_value, sample_of, other_of, still, modifier_holds}
use Rattle.run_values.specs.SeenCourses.{sample_at}
use Rattle.run_values.proofs.Courses.{samples_seen, all_there, all_absent}
use Rattle.run_constraints.specs.Watched.{IsEnd, watch_holds, watched_holds}
use Rattle.run_constraints.specs.declared.modifiers.Watch.{Watch}

le_same : (x y u v : ℤ) → (x ≤ℤ y → u ≤ℤ v) → (u ≤ℤ v → x ≤ℤ y) → int_le x y ≡ int_le u v
le_same x y u v f g = by_lt_z y x
    (λ e. by_lt_z v u (λ h. grind (arith, ints)) (λ h. absurd (let k : x ≤ℤ y = g h in omega (arith, ints))))
    (λ e. let h : u ≤ℤ v = f e in grind (arith, ints))

scaled : (x y d : ℤ) → pos 1 ≤ℤ d → int_le x y ≡ int_le (x *ℤ d) (y *ℤ d)
scaled x y d above = le_same x y (x *ℤ d) (y *ℤ d) (le_times x y d above) (le_cancel x y d above)

module _ (x y : Number) (is : IsEnd x y) (z : Number) where
  widened : (x.numerator *ℤ z.denominator) *ℤ y.denominator ≡ (y.numerator *ℤ z.denominator) *ℤ x.denominator
  widened =
      swap_last x.numerator z.denominator y.denominator ∙ ap (λ t. t *ℤ z.denominator) is.same
      ∙ swap_last y.numerator x.denominator z.denominator

  other : (z.numerator *ℤ x.denominator) *ℤ y.denominator ≡ (z.numerator *ℤ y.denominator) *ℤ x.denominator
  other = swap_last z.numerator x.denominator y.denominator

  below_same : is_at_most x z ≡ is_at_most y z
  below_same =
      scaled (x.numerator *ℤ z.denominator) (z.numerator *ℤ x.denominator) y.denominator is.other_above
      ∙ ap₂ int_le widened other
      ∙ sym (scaled (y.numerator *ℤ z.denominator) (z.numerator *ℤ y.denominator) x.denominator is.above)

  above_same : is_at_most z x ≡ is_at_most z y
  above_same =
      scaled (z.numerator *ℤ x.denominator) (x.numerator *ℤ z.denominator) y.denominator is.other_above
      ∙ ap₂ int_le other widened
      ∙ sym (scaled (z.numerator *ℤ y.denominator) (y.numerator *ℤ z.denominator) x.denominator is.above)

between_same : (l m h k : Number) → IsEnd l m → IsEnd h k → (z : Number) → is_between l h z ≡ is_between m k z
between_same l m h k a b z = ap₂ (λ p q. p && q) (below_same l m a z) (above_same h k b z)

-- a modifier sees no more of its ends than which numbers they are
holds_same : (kind : Kind) (l m h k : Number) → (has_range kind ≡ true → IsEnd l m) → (has_range kind ≡ true → IsEnd h k) → (own other : Sample)
    → holds_of kind l h own other ≡ holds_of kind m k own other
holds_same Kind.Speed l m h k a b own other = between_same l m h k (a refl) (b refl) _
holds_same Kind.FasterThan l m h k a b own other = between_same l m h k (a refl) (b refl) _
holds_same Kind.SlowerThan l m h k a b own other = between_same l m h k (a refl) (b refl) _
holds_same Kind.SameSpeed l m h k a b own other = refl
holds_same Kind.Lane l m h k a b own other = between_same l m h k (a refl) (b refl) _
holds_same Kind.SameLane l m h k a b own other = refl
holds_same Kind.LeftOf l m h k a b own other = refl
holds_same Kind.RightOf l m h k a b own other = refl
holds_same Kind.Position l m h k a b own other = between_same l m h k (a refl) (b refl) _
holds_same Kind.AheadOf l m h k a b own other = between_same l m h k (a refl) (b refl) _
holds_same Kind.Behind l m h k a b own other = between_same l m h k (a refl) (b refl) _

samples_same : (samples : List Sample) (o : Option (List Sample)) (tick : ℕ) → samples ≡ unwrap_or o []
    → sample_at samples tick ≡ unwrap_or (option_and_then (λ ss. slice_get ss tick) o) still
samples_same samples o tick e = ap (λ ss. unwrap_or (slice_get ss tick) still) e ∙ samples_seen o tick

pub watch_same : (scene : Scene) (run : Run) (m : ModifierSpot) (start end : ℕ) (low high : Fraction) (own other : List Sample)
    → pos start ≡ (times_of run).start m.phase → pos end ≡ (times_of run).end m.phase
    → (has_range m.kind ≡ true → IsEnd (value low) (end_value scene run m.low)) → (has_range m.kind ≡ true → IsEnd (value high) (end_value scene run m.high))
    → own ≡ unwrap_or (samples_in run m.own) [] → other ≡ unwrap_or (samples_in run (other_of m)) [] → (tick : ℕ)
    → (not (is_moment m.moment (pos start) (pos end) (pos tick)) || holds_of m.kind (value low) (value high) (sample_at own tick) (sample_at other tick))
    ≡ watched_holds scene run m tick
watch_same scene run m start end low high own other s e l h own_is other_is tick =
    λ i. not (is_moment m.moment (s i) (e i) (pos tick)) || held i
  where
    held : holds_of m.kind (value low) (value high) (sample_at own tick) (sample_at other tick)
        ≡ holds_of m.kind (end_value scene run m.low) (end_value scene run m.high) (sample_of run m.own tick) (sample_of run (other_of m) tick)
    held =
        holds_same m.kind (value low) (end_value scene run m.low) (value high) (end_value scene run m.high) l h (sample_at own tick) (sample_at other tick)
        ∙ ap₂ (holds_of m.kind (end_value scene run m.low) (end_value scene run m.high))
        (samples_same own (samples_in run m.own) tick own_is) (samples_same other (samples_in run (other_of m)) tick other_is)

-- a modifier that is there, and one that isn't
joined : (a b c : Bool) → not (a && b) || c ≡ not a || (not b || c)
joined true b c = refl
joined false b c = refl

all_same : (s t : ℕ → Bool) → ((i : ℕ) → s i ≡ t i) → (is : List ℕ) → list_all s is ≡ list_all t is
all_same s t e [] = refl
all_same s t e (i ∷ is) = ap₂ (λ a b. a && b) (e i) (all_same s t e is)

module _ (scene : Scene) (run : Run) (m : ModifierSpot) (ticks : List ℕ) where
  abbrev met : Bool
  met = are_met run (modifier_presence scene m)

  under_met : list_all (λ t. not met || watched_holds scene run m t) ticks ≡ list_all (modifier_holds scene run m) ticks
  under_met =
      all_same (λ t. not met || watched_holds scene run m t) (modifier_holds scene run m)
      (λ t. sym (joined met (is_moment m.moment ((times_of run).start m.phase) ((times_of run).end m.phase) (pos t))
      (holds_of m.kind (end_value scene run m.low) (end_value scene run m.high) (sample_of run m.own t) (sample_of run (other_of m) t)))) ticks

  pub there_holds : (w : Watch) → met ≡ true → ((t : ℕ) → watch_holds w t ≡ watched_holds scene run m t) → list_all (watch_holds w) ticks ≡ list_all (modifier_holds scene run m) ticks
  there_holds w e same = all_same (watch_holds w) (watched_holds scene run m) same ticks ∙ all_there met (watched_holds scene run m) ticks e ∙ under_met

  pub absent_holds : met ≡ false → true ≡ list_all (modifier_holds scene run m) ticks
  absent_holds e = all_absent met (watched_holds scene run m) ticks e ∙ under_met

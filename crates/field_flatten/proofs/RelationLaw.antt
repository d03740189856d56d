-- The relation of a modifier at a point is what the modifier says of the two samples there.
use Rattle.std.proofs.Common.{◌≡◌, ℕ, ◌*◌, ◌/◌, ◌<◌, refl, sym, ap, ap₂, ◌∙◌, subst, List, Bool, true, false, ◌&&◌, not, arith, true≢false}
use Rattle.std.specs.Prelude.{ℤ, pos, negsuc, ◌+ℤ◌, ◌-ℤ◌, ◌*ℤ◌, int_le, int_lt}
use Rattle.std.specs.List.{list_all}
use Rattle.std.proofs.Math.Nat.{mul_assoc}
use Rattle.std.proofs.Math.IntN.{*ℤ_comm}
use Rattle.std.proofs.lemmas.Int.{ints}
use Rattle.osc_base.specs.declared.sample.Sample.{Sample}
use Rattle.osc_base.specs.declared.sample.SampleSlots.{SampleSlots}
use Rattle.osc_base.specs.declared.modifier.Kind.{Kind}
use Rattle.osc_base.specs.declared.modifier.Moment.{Moment}
use Rattle.osc_base.specs.Number.{Number}
use Rattle.osc_base.specs.Comparisons.{same_number, is_between}
use Rattle.osc_base.specs.LowestTerms.{lcm}
use Rattle.osc_base.specs.Modifiers.{holds_of, is_moment}
use Rattle.box_eval.specs.FlatRules.{FlatTerm, Slot, worth_at, holds_at, times}
use Rattle.modifier_rules.specs.Relations.{position_scale, between, apart, relation_at, moment_at}
use Rattle.composition.specs.Invariants.{has_range, has_other}
use Rattle.field_flatten.proofs.Multiples.{common, share_of}
use Rattle.field_flatten.proofs.Times.{IsTimes, widened, at_most_is}
use Rattle.field_flatten.proofs.JoinedRows.{times_worth}

module _ (point : List ℤ) where
  -- a number over a unit, at a multiple of the unit
  unit_times : (q : ℤ) (unit k : ℕ) → 0 < unit → IsTimes (record { numerator = q; denominator = pos unit }) (unit * k) (q *ℤ pos k)
  unit_times q unit k above = widened (record { numerator = q; denominator = pos unit }) unit k q (record { above = omega (arith, ints); same = refl })

  -- a quantity whose scale is a divisor of that of positions, and ends at a scale
  pub between_law : (unit c : ℕ) (quantity low high : FlatTerm) (e : ℕ) (x y : Number) → 0 < unit → position_scale ≡ unit * c → 0 < e
      → IsTimes x e (worth_at point low) → IsTimes y e (worth_at point high)
      → holds_at point (between unit quantity low high e) ≡ is_between x y (record { numerator = worth_at point quantity; denominator = pos unit })
  between_law unit c quantity low high e x y above is positive f g =
      let m = common position_scale e (omega arith) positive in
      let own : lcm position_scale e ≡ unit * (c * m.left) = m.left_is ∙ ap (λ n. n * m.left) is ∙ mul_assoc unit c m.left in
      let share : lcm position_scale e / unit ≡ c * m.left = ap (λ n. n / unit) own ∙ share_of unit (c * m.left) above in
      let share' : lcm position_scale e / e ≡ m.right = ap (λ n. n / e) m.right_is ∙ share_of e m.right positive in
      let q : Number = record { numerator = worth_at point quantity; denominator = pos unit } in
      let middle : IsTimes q (lcm position_scale e) (worth_at point (times (lcm position_scale e / unit) quantity)) =
      subst (IsTimes q (lcm position_scale e))
      (*ℤ_comm (worth_at point quantity) (pos (c * m.left)) ∙ ap (λ n. pos n *ℤ worth_at point quantity) (sym share) ∙ sym (times_worth point (lcm position_scale e / unit) quantity))
      (subst (λ n. IsTimes q n (worth_at point quantity *ℤ pos (c * m.left))) (sym own) (unit_times (worth_at point quantity) unit (c * m.left) above)) in
      let first : IsTimes x (lcm position_scale e) (worth_at point (times (lcm position_scale e / e) low)) = wide x low m.right f m.right_is share' in
      let last : IsTimes y (lcm position_scale e) (worth_at point (times (lcm position_scale e / e) high)) = wide y high m.right g m.right_is share' in
      ap₂ (◌&&◌)
      (sym (at_most_is x q (lcm position_scale e) (worth_at point (times (lcm position_scale e / e) low)) (worth_at point (times (lcm position_scale e / unit) quantity)) m.above first middle))
      (sym (at_most_is q y (lcm position_scale e) (worth_at point (times (lcm position_scale e / unit) quantity)) (worth_at point (times (lcm position_scale e / e) high)) m.above middle last))
    where
      wide : (z : Number) (term : FlatTerm) (k : ℕ) → IsTimes z e (worth_at point term) → lcm position_scale e ≡ e * k → lcm position_scale e / e ≡ k
          → IsTimes z (lcm position_scale e) (worth_at point (times (lcm position_scale e / e) term))
      wide z term k h whole part =
          subst (IsTimes z (lcm position_scale e))
          (*ℤ_comm (worth_at point term) (pos k) ∙ ap (λ n. pos n *ℤ worth_at point term) (sym part) ∙ sym (times_worth point (lcm position_scale e / e) term))
          (subst (λ n. IsTimes z n (worth_at point term *ℤ pos k)) (sym whole) (widened z e k (worth_at point term) h))

  abbrev sample_at : SampleSlots → Sample
  sample_at s = record { lane = worth_at point (Slot s.lane); position = worth_at point (Slot s.position); speed = worth_at point (Slot s.speed) }

  less_one : (a b : ℤ) → same_number a (b +ℤ negsuc 0) ≡ same_number a (b -ℤ pos 1)
  less_one a b = let e : b +ℤ negsuc 0 ≡ b -ℤ pos 1 = omega (arith, ints) in ap (same_number a) e

  pub relation_law : (kind : Kind) (own other : SampleSlots) (low high : FlatTerm) (e : ℕ) (x y : Number)
      → (has_range kind ≡ true → (0 < e) × IsTimes x e (worth_at point low) × IsTimes y e (worth_at point high))
      → holds_at point (relation_at kind own other low high e) ≡ holds_of kind x y (sample_at own) (sample_at other)
  relation_law Kind.Speed own other low high e x y f = between_law 1000 1000 (Slot own.speed) low high e x y (omega arith) refl (f refl).0 (f refl).1 (f refl).2
  relation_law Kind.FasterThan own other low high e x y f = between_law 1000 1000 (apart own.speed other.speed) low high e x y (omega arith) refl (f refl).0 (f refl).1 (f refl).2
  relation_law Kind.SlowerThan own other low high e x y f = between_law 1000 1000 (apart other.speed own.speed) low high e x y (omega arith) refl (f refl).0 (f refl).1 (f refl).2
  relation_law Kind.SameSpeed own other low high e x y f = refl
  relation_law Kind.Lane own other low high e x y f = between_law 1 1000000 (Slot own.lane) low high e x y (omega arith) refl (f refl).0 (f refl).1 (f refl).2
  relation_law Kind.SameLane own other low high e x y f = refl
  relation_law Kind.LeftOf own other low high e x y f = refl
  relation_law Kind.RightOf own other low high e x y f = less_one (worth_at point (Slot own.lane)) (worth_at point (Slot other.lane))
  relation_law Kind.Position own other low high e x y f = between_law 1000000 1 (Slot own.position) low high e x y (omega arith) refl (f refl).0 (f refl).1 (f refl).2
  relation_law Kind.AheadOf own other low high e x y f = between_law 1000000 1 (apart own.position other.position) low high e x y (omega arith) refl (f refl).0 (f refl).1 (f refl).2
  relation_law Kind.Behind own other low high e x y f = between_law 1000000 1 (apart other.position own.position) low high e x y (omega arith) refl (f refl).0 (f refl).1 (f refl).2

  pub moment_law : (moment : Moment) (start end : FlatTerm) (tick : ℕ) → list_all (holds_at point) (moment_at moment start end tick) ≡ is_moment moment (worth_at point start) (worth_at point end) (pos tick)
  moment_law Moment.Start start end tick = and_unit (same_number (worth_at point start) (pos tick))
    where
      and_unit : (b : Bool) → (b && true) ≡ b
      and_unit true = refl
      and_unit false = refl
  moment_law Moment.End start end tick = and_unit (same_number (worth_at point end) (pos tick))
    where
      and_unit : (b : Bool) → (b && true) ≡ b
      and_unit true = refl
      and_unit false = refl
  moment_law Moment.All start end tick = ap (λ b. int_le (worth_at point start) (pos tick) && b) (before (pos tick) (worth_at point end))
    where
      before : (a b : ℤ) → (int_lt a b && true) ≡ not (int_le b a)
      before a b = grind (arith, ints)

-- the other vehicle's sample doesn't count where there is none
pub without_other : (kind : Kind) (x y : Number) (own one two : Sample) → has_other kind ≡ false → holds_of kind x y own one ≡ holds_of kind x y own two
without_other Kind.Speed x y own one two h = refl
without_other Kind.Lane x y own one two h = refl
without_other Kind.Position x y own one two h = refl
without_other _ x y own one two h = absurd (true≢false h)

-- nor do ends where there is no range
pub without_range : (kind : Kind) (x y u v : Number) (own other : Sample) → has_range kind ≡ false → holds_of kind x y own other ≡ holds_of kind u v own other
without_range Kind.SameSpeed x y u v own other h = refl
without_range Kind.SameLane x y u v own other h = refl
without_range Kind.LeftOf x y u v own other h = refl
without_range Kind.RightOf x y u v own other h = refl
without_range _ x y u v own other h = absurd (true≢false h)

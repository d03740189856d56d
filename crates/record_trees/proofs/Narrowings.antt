-- A cut narrows exactly when its first part is a close by a rule that is false on no longer first part that leaves the second a value.
use Rattle.std.proofs.Common.{◌≡◌, refl, subst, ◌∙◌, ap, ℕ, ◌<◌, Bool, true, false, not, ◌||◌, List, length, Option, Some, None, ℤ, pos, ◌+ℤ◌, ◌-ℤ◌, ◌≤ℤ◌, ◌<ℤ◌, int_le, arith}
use Rattle.std.proofs.lemmas.Int.{ints, by_lt_z}
use Rattle.std.proofs.lemmas.Bool.{false≢true}
use Rattle.std.specs.Option.{option_map_or}
use Rattle.box_eval.specs.declared.rule.Rule.{Rule}
use Rattle.box_eval.specs.declared.bounds.Pair.{Pair}
use Rattle.box_eval.specs.declared.cut.Cut.{Cut}
use Rattle.box_eval.specs.declared.cut.Side.{Side}
use Rattle.box_eval.specs.declared.cut.Side.TheVariants.{Low, High}
use Rattle.box_eval.specs.Box.{low_at, high_at, IsBox, IsInside, up_to, from, first_at, IsCutOf}
use Rattle.box_eval.specs.Verdict.{verdict_of}
use Rattle.record_trees.specs.Record.{Tree, is_false, may_close}
use Rattle.record_trees.specs.Guided.{closing_rule, longer_at, is_whole_at, is_longest, narrows}
use Rattle.box_eval.proofs.Smaller.{smaller_keeps}
use Rattle.box_eval.proofs.Parts.{up_to_box, up_to_longer, from_box, from_longer}
use Rattle.record_trees.proofs.Empty.{close_facts}

-- what closes a box closes each smaller one
pub may_close_inside : (rules : List Rule) (smaller ends : List Pair) (k : ℕ) → IsBox smaller → IsInside smaller ends → may_close rules ends k ≡ true → may_close rules smaller k ≡ true
may_close_inside rules smaller ends k box inside h =
    let c = close_facts rules ends k h in
    ap (λ (o : Option Rule). option_map_or (λ r. is_false (verdict_of smaller r)) o false) c.there ∙ ap is_false ((smaller_keeps smaller ends box inside c.rule).no c.says)

-- a value at which the cut has a longer first part, which leaves the second part a value
abbrev pub IsFurther : Side → List Pair → ℕ → ℤ → ℤ → Type 0
IsFurther Low ends slot v w = (v <ℤ w) × (w <ℤ high_at ends slot)
IsFurther High ends slot v w = (low_at ends slot ≤ℤ w) × (w <ℤ v)

-- the first part is a close by a rule that is false on no longer first part
pub record IsNarrowing (rules : List Rule) (ends : List Pair) (cut : Cut) (first : Tree) : Type 0 where
  pub rule : ℕ
  pub closes : closing_rule first ≡ Some rule
  pub longest : (w : ℤ) → IsFurther cut.side ends cut.slot cut.value w → may_close rules (first_at cut.side ends cut.slot w) rule ≡ false

is_not_true : (b : Bool) → (b ≡ true → ⊥) → b ≡ false
is_not_true true h = absurd (h refl)
is_not_true false h = refl

not_both : (a b : Bool) → a || not b ≡ true → b ≡ true → a ≡ true
not_both true b h k = refl
not_both false true h k = h
not_both false false h k = absurd (false≢true k)

module _ (rules : List Rule) (ends : List Pair) (slot : ℕ) (v : ℤ) (box : IsBox ends) (there : slot < length ends) (low : low_at ends slot ≤ℤ v) (high : v <ℤ high_at ends slot) (k : ℕ) where
  abbrev longest : Side → Bool
  longest side = is_whole_at side ends slot v || not (may_close rules (longer_at side ends slot v) k)

  longest_says : (side : Side) → longest side ≡ true → (w : ℤ) → IsFurther side ends slot v w → may_close rules (first_at side ends slot w) k ≡ false
  longest_says Low h w further = is_not_true (may_close rules (up_to ends slot w) k) (λ closes.
      let more : v <ℤ w = further.0 in
      let less : w <ℤ high_at ends slot = further.1 in
      let next = may_close_inside rules (up_to ends slot (v +ℤ pos 1)) (up_to ends slot w) k
      (up_to_box ends slot (v +ℤ pos 1) there box (omega (arith, ints))) (up_to_longer ends slot (v +ℤ pos 1) there w (omega (arith, ints))) closes in
      let end = not_both (int_le (high_at ends slot) (v +ℤ pos 1)) (may_close rules (up_to ends slot (v +ℤ pos 1)) k) h next in
      absurd (grind (arith, ints)))
  longest_says High h w further = is_not_true (may_close rules (from ends slot (w +ℤ pos 1)) k) (λ closes.
      let more : low_at ends slot ≤ℤ w = further.0 in
      let less : w <ℤ v = further.1 in
      let next = may_close_inside rules (from ends slot v) (from ends slot (w +ℤ pos 1)) k
      (from_box ends slot v there box (omega (arith, ints))) (from_longer ends slot v there (w +ℤ pos 1) (omega (arith, ints))) closes in
      let end = not_both (int_le v (low_at ends slot)) (may_close rules (from ends slot v) k) h next in
      absurd (grind (arith, ints)))

  longest_told : (side : Side) → ((w : ℤ) → IsFurther side ends slot v w → may_close rules (first_at side ends slot w) k ≡ false) → longest side ≡ true
  longest_told Low h = by_lt_z (v +ℤ pos 1) (high_at ends slot)
      (λ less. let e = h (v +ℤ pos 1) (omega (arith, ints), less) in grind (arith, ints))
      (λ last. grind (arith, ints))
  longest_told High h = by_lt_z (low_at ends slot) v
      (λ less.
      let same : v -ℤ pos 1 +ℤ pos 1 ≡ v = omega (arith, ints) in
      let e = subst (λ (w : ℤ). may_close rules (from ends slot w) k ≡ false) same (h (v -ℤ pos 1) (omega (arith, ints), omega (arith, ints))) in
      grind (arith, ints))
      (λ last. grind (arith, ints))

module _ (rules : List Rule) (ends : List Pair) (cut : Cut) (box : IsBox ends) (is : IsCutOf ends cut) where
  narrowing_of : (first : Tree) (o : Option ℕ) → closing_rule first ≡ o → option_map_or (is_longest rules ends cut) o false ≡ true → IsNarrowing rules ends cut first
  narrowing_of first None closes h = absurd (false≢true h)
  narrowing_of first (Some k) closes h = record { rule = k; closes = closes; longest = longest_says rules ends cut.slot cut.value box is.slot_there is.low is.high k cut.side h }

  pub narrows-says : (first : Tree) → narrows rules ends cut first ≡ true → IsNarrowing rules ends cut first
  narrows-says first h = narrowing_of first (closing_rule first) refl h

  pub narrows-told : (first : Tree) → IsNarrowing rules ends cut first → narrows rules ends cut first ≡ true
  narrows-told first n =
      ap (λ (o : Option ℕ). option_map_or (is_longest rules ends cut) o false) n.closes
      ∙ longest_told rules ends cut.slot cut.value box is.slot_there is.low is.high n.rule cut.side n.longest

-- The longest first part on which a rule is false, by halving.
use Rattle.std.proofs.Common.{◌≡◌, ◌≢◌, refl, sym, ap, ◌∙◌, subst, ⊎_elim, ℕ, ◌+◌, ◌-◌, ◌<◌, ◌≤◌, Bool, true, false, not, ◌||◌, List, length, slice_get, slice_set, Option, Some, ℤ, pos, ◌+ℤ◌, ◌-ℤ◌, ◌<ℤ◌, ◌≤ℤ◌, int_le, arith}
use Rattle.std.proofs.lemmas.Int.{ints}
use Rattle.std.proofs.lemmas.Bool.{false≢true, or_cases}
use Rattle.std.proofs.lemmas.Bool.Decides.{nat_tests}
use Rattle.std.specs.Option.{option_map_or}
use Rattle.std.specs.Prelude.{nat_le, unsigned_abs}
use Rattle.box_eval.specs.declared.rule.Rule.{Rule}
use Rattle.box_eval.specs.declared.bounds.Pair.{Pair}
use Rattle.box_eval.specs.declared.cut.Cut.{Cut}
use Rattle.box_eval.specs.declared.cut.Side.{Side}
use Rattle.box_eval.specs.declared.cut.Side.TheVariants.{Low, High}
use Rattle.box_eval.specs.declared.verdict.Verdict.TheVariants.{True, False}
use Rattle.box_eval.specs.Box.{pair, low_at, high_at, fixed, end_at, first_at, cut_at, IsBox, first_part}
use Rattle.box_eval.specs.Verdict.{verdict_of}
use Rattle.record_trees.specs.Record.{is_false, may_close}
use Rattle.record_trees.specs.Guided.{longer_at, is_whole_at, IsDeadEnd}
use Rattle.box_eval.proofs.Smaller.{smaller_keeps}
use Rattle.box_eval.proofs.Parts.{first_part_box, first_part_inside}
use Rattle.record_trees.proofs.Empty.{close_facts}
use Rattle.search_laws.specs.Halves.{value_at, first_pair, width, part_of, IsHalved, IsLongest}

-- ---- parts by their number of values

-- a part as the box with the slot's ends changed
pub part_set : (side : Side) (ends : List Pair) (slot : ℕ) (v : ℤ) → slice_set ends slot (first_pair side (pair (low_at ends slot) (high_at ends slot)) v) ≡ first_at side ends slot v
part_set Low ends slot v = refl
part_set High ends slot v = refl

-- one value is the end alone
pub part_one : (side : Side) (ends : List Pair) (slot : ℕ) → part_of side ends slot 1 ≡ fixed ends slot (end_at side ends slot)
part_one Low ends slot = ap (λ v. slice_set ends slot (pair (low_at ends slot) v)) (one_low (low_at ends slot))
  where
    one_low : (n : ℤ) → n +ℤ pos 1 -ℤ pos 1 ≡ n
    one_low n = omega (arith, ints)
part_one High ends slot = ap (λ v. slice_set ends slot (pair v (high_at ends slot))) (one_high (high_at ends slot))
  where
    one_high : (n : ℤ) → n -ℤ pos 1 +ℤ pos 1 ≡ n
    one_high n = omega (arith, ints)

-- the next longer part has one value more
longer_part : (side : Side) (ends : List Pair) (slot count : ℕ) → longer_at side ends slot (value_at side (low_at ends slot) (high_at ends slot) count) ≡ part_of side ends slot (count + 1)
longer_part Low ends slot count = ap (λ v. slice_set ends slot (pair (low_at ends slot) v)) (one_more (low_at ends slot) count)
  where
    one_more : (n : ℤ) (k : ℕ) → n +ℤ pos k -ℤ pos 1 +ℤ pos 1 ≡ n +ℤ pos (k + 1) -ℤ pos 1
    one_more n k = omega (arith, ints)
longer_part High ends slot count = ap (λ v. slice_set ends slot (pair v (high_at ends slot))) (one_more (high_at ends slot) count)
  where
    one_more : (n : ℤ) (k : ℕ) → n -ℤ pos k ≡ n -ℤ pos (k + 1) +ℤ pos 1
    one_more n k = omega (arith, ints)

whole_at : (side : Side) (ends : List Pair) (slot count : ℕ) → low_at ends slot ≤ℤ high_at ends slot → width ends slot ≤ count → is_whole_at side ends slot (value_at side (low_at ends slot) (high_at ends slot) count) ≡ true
whole_at Low ends slot count ordered all = by_ints (low_at ends slot) (high_at ends slot) count ordered all
  where
    by_ints : (n m : ℤ) (k : ℕ) → n ≤ℤ m → unsigned_abs (m -ℤ n) ≤ k → int_le m (n +ℤ pos k -ℤ pos 1 +ℤ pos 1) ≡ true
    by_ints n m k o a = let le : m ≤ℤ (n +ℤ pos k -ℤ pos 1 +ℤ pos 1) = omega (arith, ints) in grind (arith, ints)
whole_at High ends slot count ordered all = by_ints (low_at ends slot) (high_at ends slot) count ordered all
  where
    by_ints : (n m : ℤ) (k : ℕ) → n ≤ℤ m → unsigned_abs (m -ℤ n) ≤ k → int_le (m -ℤ pos k) n ≡ true
    by_ints n m k o a = let le : (m -ℤ pos k) ≤ℤ n = omega (arith, ints) in grind (arith, ints)

value_between : (side : Side) (low high : ℤ) (count : ℕ) → 0 < count → count ≤ unsigned_abs (high -ℤ low) → low ≤ℤ high → (low ≤ℤ value_at side low high count) × (value_at side low high count <ℤ high)
value_between Low low high count some most ordered = (omega (arith, ints), omega (arith, ints))
value_between High low high count some most ordered = (omega (arith, ints), omega (arith, ints))

-- ---- halving

module _ (ends : List Pair) (rule : Rule) (slot : ℕ) (side : Side) where
  abbrev says_false : ℕ → Bool
  says_false count = is_false (verdict_of (part_of side ends slot count) rule)

  -- at first one value is known, and all but one are left
  pub half_start : 0 < width ends slot → says_false 1 ≡ true → IsHalved ends rule slot side 1 (width ends slot)
  half_start some says = record { some = omega arith; ordered = omega arith; within = omega arith; false_there = says; not_after = all (width ends slot) (not (says_false (width ends slot + 1))) }
    where
      all : (n : ℕ) (b : Bool) → nat_le n n || b ≡ true
      all n b = let le : nat_le n n ≡ true = grind (arith, nat_tests) in ap (λ c. c || b) le

  pub half_yes : (least most half : ℕ) → IsHalved ends rule slot side least most → least < half → half ≤ most → says_false half ≡ true → IsHalved ends rule slot side half most
  half_yes least most half h more le says = record { some = omega arith; ordered = le; within = h.within; false_there = says; not_after = h.not_after }

  pub half_no : (least most half : ℕ) → IsHalved ends rule slot side least most → least < half → half ≤ most → says_false half ≡ false → IsHalved ends rule slot side least (half - 1)
  half_no least most half h more le says = record {
    some = h.some;
    ordered = omega arith;
    within = omega (arith, h.within);
    false_there = h.false_there;
    not_after = subst (λ (n : ℕ). nat_le (width ends slot) (half - 1) || not (says_false n) ≡ true) {x = half} {y = half - 1 + 1} (omega arith) (past (nat_le (width ends slot) (half - 1)) (says_false half) says);
  }
    where
      past : (a b : Bool) → b ≡ false → a || not b ≡ true
      past true b e = refl
      past false b e = ap not e

  -- if both meet, the part is the longest
  pub half_done : (rules : List Rule) (number least : ℕ) → IsBox ends → slot < length ends → slice_get rules number ≡ Some rule → IsHalved ends rule slot side least least
      → IsLongest rules ends number (cut_at side slot (value_at side (low_at ends slot) (high_at ends slot) least))
  half_done rules number least box there is h =
      let v = value_at side (low_at ends slot) (high_at ends slot) least in
      let ordered = box.ordered slot in
      let between = value_between side (low_at ends slot) (high_at ends slot) least h.some h.within ordered in
      let may : (b : List Pair) → may_close rules b number ≡ is_false (verdict_of b rule) = λ b. ap (λ (o : Option Rule). option_map_or (λ r. is_false (verdict_of b r)) o false) is in
      record {
        cuts = record { slot_there = there; low = between.0; high = between.1 };
        closes = may (part_of side ends slot least) ∙ h.false_there;
        longest = ⊎_elim
            (λ all. left (is_whole_at side ends slot v) (not (may_close rules (longer_at side ends slot v) number)) (whole_at side ends slot least ordered (le_of (width ends slot) least all)))
            (λ past. right (is_whole_at side ends slot v) (not (may_close rules (longer_at side ends slot v) number))
            (ap not (may (longer_at side ends slot v) ∙ ap (λ b. is_false (verdict_of b rule)) (longer_part side ends slot least)) ∙ past))
            (or_cases (nat_le (width ends slot) least) (not (says_false (least + 1))) h.not_after);
      }
    where
      left : (a b : Bool) → a ≡ true → a || b ≡ true
      left true b e = refl
      left false b e = absurd (false≢true e)

      right : (a b : Bool) → b ≡ true → a || b ≡ true
      right true b e = refl
      right false b e = e

      le_of : (n m : ℕ) → nat_le n m ≡ true → n ≤ m
      le_of n m e = grind (arith, nat_tests)

  -- without a dead end there is nothing to cut off
  pub no_dead_end : says_false 1 ≡ false → ¬ IsDeadEnd ends rule side slot
  no_dead_end says d =
      let dead : verdict_of (part_of side ends slot 1) rule ≡ False = ap (λ b. verdict_of b rule) (part_one side ends slot) ∙ d.dead in
      false≢true (sym says ∙ ap is_false dead)

  pub narrow_wide : width ends slot ≡ 0 → ¬ IsDeadEnd ends rule side slot
  narrow_wide none d = absurd (no_width (low_at ends slot) (high_at ends slot) none d.wide)
    where
      no_width : (n m : ℤ) → unsigned_abs (m -ℤ n) ≡ 0 → n <ℤ m → ⊥
      no_width n m e less = omega (arith, ints)

-- a rule that closes a part of a box isn't true on the box
pub longest_open : (rules : List Rule) (ends : List Pair) (number : ℕ) (rule : Rule) (cut : Cut) → IsBox ends → slice_get rules number ≡ Some rule → IsLongest rules ends number cut → verdict_of ends rule ≢ True
longest_open rules ends number rule cut box is longest says =
    let c = close_facts rules (first_part cut ends) number longest.closes in
    let same : Some c.rule ≡ Some rule = sym c.there ∙ is in
    let e : c.rule ≡ rule = cc in
    let false_here : verdict_of (first_part cut ends) rule ≡ False = ap (verdict_of (first_part cut ends)) (sym e) ∙ c.says in
    let keeps = smaller_keeps (first_part cut ends) ends (first_part_box ends cut longest.cuts box) (first_part_inside ends cut longest.cuts) rule in
    let h : True ≡ False = sym (keeps.yes says) ∙ false_here in cc

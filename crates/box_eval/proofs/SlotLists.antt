-- The list of the slots that a rule reads.
use Rattle.std.proofs.Common.{◌≡◌, refl, sym, ap, ◌∙◌, subst, ℕ, Bool, true, false, eqb, List, [], IsPermutation, IsSorted}
use Rattle.std.proofs.lemmas.Bool.{eqb-true}
use Rattle.std.proofs.lemmas.List.Filters.{dedup_is}
use Rattle.std.proofs.lemmas.List.Kept.{Contains-dedup_nat, Contains-from_dedup}
use Rattle.std.proofs.lemmas.List.Sorted.{list_any-IsPermutation}
use Rattle.std.proofs.lemmas.Map.Keys.{IsStrictlyIncreasing-dedup}
use Rattle.std.proofs.lemmas.Map.Views.{list_any-from_Contains, Contains-from_any}
use Rattle.std.specs.Cmp.{nat_eq_equiv}
use Rattle.std.specs.List.{list_any, Contains, dedup}
use Rattle.std.specs.List.Retain.{IsFiltered, DiffersFromLast}
use Rattle.std.specs.List.Sorted.{IsStrictlyIncreasing}
use Rattle.std.specs.Ordering.{nat_cmp}
use Rattle.box_eval.specs.declared.rule.Rule.{Rule}
use Rattle.box_eval.specs.Reads.{slots_read, IsSlotList}

same_test : (a b : Bool) → (a ≡ true → b ≡ true) → (b ≡ true → a ≡ true) → a ≡ b
same_test true true h k = refl
same_test true false h k = sym (h refl)
same_test false true h k = k refl
same_test false false h k = refl

-- a number that is found in a list is one of its items
pub contained : (k : ℕ) (xs : List ℕ) → list_any (eqb k) xs ≡ true → Contains xs k
contained k xs h = Contains-from_any {eq = eqb} (λ x y e. eqb-true x y e) k xs h

is_contained : (k : ℕ) (xs : List ℕ) → Contains xs k → list_any (eqb k) xs ≡ true
is_contained k xs h = list_any-from_Contains nat_eq_equiv k xs h

in_dedup : (k : ℕ) (xs : List ℕ) → list_any (eqb k) (dedup eqb xs) ≡ list_any (eqb k) xs
in_dedup k xs = same_test (list_any (eqb k) (dedup eqb xs)) (list_any (eqb k) xs)
    (λ h. is_contained k xs (Contains-from_dedup eqb xs k (contained k (dedup eqb xs) h)))
    (λ h. is_contained k (dedup eqb xs) (Contains-dedup_nat xs k (contained k xs h)))

-- what is read, sorted, and then kept once each
pub slot_list : (rule : Rule) (pushed sorted kept : List ℕ) → pushed ≡ slots_read rule → IsPermutation pushed sorted → IsSorted nat_cmp sorted → IsFiltered (DiffersFromLast eqb) [] sorted kept → IsSlotList rule kept
slot_list rule pushed sorted kept read moved in_order filtered =
    let once : kept ≡ dedup eqb sorted = dedup_is eqb sorted kept filtered in
    record {
      told = λ slot. ap (list_any (eqb slot)) once ∙ (in_dedup slot sorted ∙ (sym (list_any-IsPermutation (eqb slot) pushed sorted moved) ∙ ap (list_any (eqb slot)) read));
      ascending = subst IsStrictlyIncreasing (sym once) (IsStrictlyIncreasing-dedup sorted in_order);
    }

-- What ranks show of near steps, they show of the conditional subtypes on which one depends.
use Rattle.std.proofs.Common.{◌≡◌, ◌∙◌, refl, sym, ap, ℕ, zero, suc, Bool, true, false, cond, List, [], ◌∷◌, Option, Some, None, filter, length}
use Rattle.std.specs.Prelude.{option_to_list}
use Rattle.std.specs.List.{list_all}
use Rattle.std.proofs.lemmas.List.Folds.{list_all-append}
use Rattle.type_members.specs.type_heads.Table.{TypeHead, base, bases, line_within}
use Rattle.type_members.specs.type_heads.Types.{TypeBody, Member}
use Rattle.type_members.specs.type_heads.Members.{is_conditional}
use Rattle.type_members.specs.type_heads.MemberFaults.{depends_on}
use Rattle.member_faults.specs.ListedRows.{field_under, near_depended, types_with}
use Rattle.fault_sets.specs.Ranking.{HasLevels, IsShown, rank}
use Rattle.fault_sets.specs.declared.returning.Ranking.{Ranking}
use Rattle.member_faults.proofs.ConditionSteps.{depends_is}
use Rattle.fault_sets.proofs.Ranked.{Below, both, is_below, left_of, never_back, right_of, shown_below}

all_kept : (low p : ℕ → Bool) (xs : List ℕ) → list_all low xs ≡ true → list_all low (filter p xs) ≡ true
all_kept low p [] h = refl
all_kept low p (x ∷ xs) h = by (p x) (all_kept low p xs (right_of (low x) (list_all low xs) h))
  where
    by : (b : Bool) → list_all low (filter p xs) ≡ true → list_all low (cond b (x ∷ filter p xs) (filter p xs)) ≡ true
    by true rest = both (low x) (list_all low (filter p xs)) (left_of (low x) (list_all low xs) h) rest
    by false rest = rest

-- what near steps don't leave isn't left

module _ (heads : List TypeHead) (bodies : List TypeBody) (members : List (List Member)) (low : ℕ → Bool) (stays : (x : ℕ) → low x ≡ true → list_all low (near_depended heads bodies members x) ≡ true) where
  base_low : (x : ℕ) → list_all low (near_depended heads bodies members x) ≡ true → list_all low (option_to_list (base heads x)) ≡ true
  base_low x h =
      right_of (list_all low (field_under heads bodies members x)) (list_all low (option_to_list (base heads x)))
      (sym (list_all-append low (field_under heads bodies members x) (option_to_list (base heads x))) ∙ h)

  under_low : (x : ℕ) → list_all low (near_depended heads bodies members x) ≡ true → list_all low (field_under heads bodies members x) ≡ true
  under_low x h =
      left_of (list_all low (field_under heads bodies members x)) (list_all low (option_to_list (base heads x)))
      (sym (list_all-append low (field_under heads bodies members x) (option_to_list (base heads x))) ∙ h)

  -- each type on a line is the base of the one before
  line_low : (n : ℕ) (o : Option ℕ) → list_all low (option_to_list o) ≡ true → list_all low (line_within n heads o) ≡ true
  line_low zero o h = refl
  line_low (suc n) None h = refl
  line_low (suc n) (Some b) h =
      let first : low b ≡ true = left_of (low b) true h in
      both (low b) (list_all low (line_within n heads (base heads b))) first (line_low n (base heads b) (base_low b (stays b first)))

  depends_low : (x : ℕ) → list_all low (near_depended heads bodies members x) ≡ true → list_all low (depends_on (types_with heads bodies members) x) ≡ true
  depends_low x h =
      ap (list_all low) (sym (depends_is heads bodies members x))
      ∙ list_all-append low (field_under heads bodies members x) (filter (is_conditional bodies) (bases heads x))
      ∙ both (list_all low (field_under heads bodies members x)) (list_all low (filter (is_conditional bodies) (bases heads x))) (under_low x h)
      (all_kept low (is_conditional bodies) (bases heads x) (line_low (length heads) (base heads x) (base_low x h)))

pub near_shows : (heads : List TypeHead) (bodies : List TypeBody) (members : List (List Member)) (r : Ranking) → HasLevels (length heads) (near_depended heads bodies members) r →
    IsShown (length heads) (depends_on (types_with heads bodies members)) r
near_shows heads bodies members r levels t shown =
    let low : ℕ → Bool = is_below (length heads) r.ranks.items (rank r.ranks.items t) in
    let b : Below (near_depended heads bodies members) low t = shown_below (near_depended heads bodies members) (length heads) r levels t shown in
    never_back low (depends_on (types_with heads bodies members)) (λ x h. depends_low heads bodies members low b.stays x (b.stays x h)) (length heads) t
    (depends_low heads bodies members low b.stays t b.start) b.out

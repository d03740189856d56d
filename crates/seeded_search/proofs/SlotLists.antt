-- Lists of slots and of rules as they are made.
use Rattle.std.proofs.Common.{◌≡◌, refl, sym, ap, ◌∙◌, subst, ⊎_elim, ℕ, zero, suc, ◌+◌, ◌<◌, Bool, true, false, ◌||◌, cond, eqb, List, [], ◌∷◌, ◌++◌, length, get_or, set, take, slice_get, Some, arith, length-append}
use Rattle.std.proofs.Math.ListN.{get_or-append}
use Rattle.std.proofs.Math.Seq.{get_or-append_seam}
use Rattle.std.proofs.lemmas.Bool.{or_left, or_right, eq-eqb, ne_eqb, cases_eq, cases_lt}
use Rattle.std.proofs.lemmas.Option.{slice_get_within}
use Rattle.std.proofs.lemmas.List.{length-set, get_or-set_same, get_or-set_other, take_more, get_or-take, length-take-le}
use Rattle.std.proofs.lemmas.List.Folds.{list_any-append}
use Rattle.std.proofs.lemmas.Map.Keys.{sorted_from_strictly_increasing, below_from_sorted}
use Rattle.std.specs.List.Sorted.{IsStrictlyIncreasing}
use Rattle.wake_ring.specs.Queue.{is_in}
use Rattle.wake_ring.specs.Order.{AllBelow}
use Rattle.wake_ring.proofs.Members.{not_in, end_lacks, AllBelow-push}
use Rattle.box_eval.specs.declared.rule.Rule.{Rule}
use Rattle.box_eval.specs.Reads.{reads, IsSlotList}
use Rattle.box_eval.proofs.SlotLists.{contained}
use Rattle.seeded_search.specs.SlotLists.{AreSlotLists, AreFirstSlotLists, IsRuleList, AreRuleLists, IsEntered}

-- ---- one for each rule

pub slot_lists_more : (rules : List Rule) (n : ℕ) (lists : List (List ℕ)) (rule : Rule) (slots : List ℕ) (lists' : List (List ℕ)) → AreFirstSlotLists rules n lists → slice_get rules n ≡ Some rule → IsSlotList rule slots → lists' ≡ lists ++ slots ∷ []
    → AreFirstSlotLists rules (n + 1) lists'
slot_lists_more rules n lists rule slots lists' first is one more =
    subst (AreFirstSlotLists rules (n + 1)) (sym more) (record { long = omega (arith, length-append lists (slots ∷ []), first.long); each = each_more })
  where
    each_more : (k : ℕ) (r : Rule) → k < n + 1 → slice_get rules k ≡ Some r → IsSlotList r (get_or (lists ++ slots ∷ []) k [])
    each_more k r less at = ⊎_elim
        (λ before. subst (IsSlotList r) (sym (get_or-append lists (slots ∷ []) [] k (omega (arith, before, first.long)))) (first.each k r before at))
        (λ past.
        let same : k ≡ n = omega arith in
        let e : Some r ≡ Some rule = sym at ∙ (ap (slice_get rules) same ∙ is) in
        let rule_is : r ≡ rule = cc in
        let last : get_or (lists ++ slots ∷ []) k [] ≡ slots = ap (λ j. get_or (lists ++ slots ∷ []) j []) (same ∙ sym first.long) ∙ get_or-append_seam lists slots [] [] in
        subst (λ (s : Rule). IsSlotList s (get_or (lists ++ slots ∷ []) k [])) (sym rule_is) (subst (IsSlotList rule) (sym last) one))
        (cases_lt k n)

pub slot_lists_all : (rules : List Rule) (n : ℕ) (lists : List (List ℕ)) → n ≡ length rules → AreFirstSlotLists rules n lists → AreSlotLists rules lists
slot_lists_all rules n lists all first = record { long = first.long ∙ all; each = λ k rule is. first.each k rule (omega (arith, slice_get_within rules k rule is, all)) is }

-- an item that is read from a list
pub item_at : {A : Type 0} (xs : List A) (i : ℕ) (x : A) → i < length xs → x ≡ get_or xs i x → slice_get xs i ≡ Some x
item_at [] i x less is = absurd (omega arith)
item_at (y ∷ ys) zero x less is = ap Some (sym is)
item_at (y ∷ ys) (suc i) x less is = item_at ys i x (omega arith) is

list_default : (ls : List (List ℕ)) (i : ℕ) (d e : List ℕ) → i < length ls → get_or ls i d ≡ get_or ls i e
list_default [] i d e less = absurd (omega arith)
list_default (l ∷ ls) zero d e less = refl
list_default (l ∷ ls) (suc i) d e less = list_default ls i d e (omega arith)

-- the list of a rule, as it is read
pub slot_list_read : (rules : List Rule) (lists : List (List ℕ)) (n : ℕ) (rule : Rule) (items : List (List ℕ)) (item slots : List ℕ) → AreSlotLists rules lists → slice_get rules n ≡ Some rule → items ≡ lists → n < length items
    → item ≡ get_or items n item → slots ≡ item → IsSlotList rule slots
slot_list_read rules lists n rule items item slots all is same less read at =
    subst (IsSlotList rule) (sym (at ∙ (read ∙ (list_default items n item [] less ∙ ap (λ (ls : List (List ℕ)). get_or ls n []) same)))) (all.each n rule is)

-- ---- rules of slots

all_below_from : (n : ℕ) (xs : List ℕ) → ((k : ℕ) → is_in k xs ≡ true → k < n) → AllBelow n xs
all_below_from n [] each = tt
all_below_from n (x ∷ xs) each = (each x (or_left (eqb x x) (is_in x xs) (eq-eqb x x refl)), all_below_from n xs (λ k h. each k (or_right (eqb k x) (is_in k xs) h)))

pub slots_below : (rule : Rule) (slots : List ℕ) (n : ℕ) → IsSlotList rule slots → ((slot : ℕ) → reads rule slot ≡ true → slot < n) → AllBelow n slots
slots_below rule slots n list each = all_below_from n slots (λ k h. each k (sym (list.told k) ∙ h))

not_earlier : (xs : List ℕ) (i : ℕ) → IsStrictlyIncreasing xs → i < length xs → is_in (get_or xs i 0) (take i xs) ≡ false
not_earlier xs i rising less = by_test (is_in (get_or xs i 0) (take i xs)) refl
  where
    by_test : (b : Bool) → is_in (get_or xs i 0) (take i xs) ≡ b → b ≡ false
    by_test false e = refl
    by_test true e =
        let c = contained (get_or xs i 0) (take i xs) e in
        let long : length (take i xs) ≡ i = length-take-le i xs (omega arith) in
        let before : c.0 < i = omega (arith, c.1) in
        let below = below_from_sorted xs c.0 i (get_or xs i 0) (sorted_from_strictly_increasing xs rising) before less in
        let same : get_or xs i (get_or xs i 0) ≡ get_or xs i 0 = default_free xs i (get_or xs i 0) 0 less in
        absurd (omega (arith, below, same, sym (get_or-take i xs c.0 (get_or xs i 0) before) ∙ c.2))
      where
        default_free : (ys : List ℕ) (j d e : ℕ) → j < length ys → get_or ys j d ≡ get_or ys j e
        default_free [] j d e h = absurd (omega arith)
        default_free (y ∷ ys) zero d e h = refl
        default_free (y ∷ ys) (suc j) d e h = default_free ys j d e (omega arith)

in_more : (k x : ℕ) (xs : List ℕ) → is_in k (xs ++ x ∷ []) ≡ is_in k xs || (eqb k x || false)
in_more k x xs = list_any-append (eqb k) xs (x ∷ [])

or_true : (b : Bool) → b || true ≡ true
or_true true = refl
or_true false = refl

or_false : (b : Bool) → b || false ≡ b
or_false true = refl
or_false false = refl

-- the number was put at the end of list k, if that is one of these
abbrev IsEnteredAt : ℕ → List ℕ → List (List ℕ) → List (List ℕ) → ℕ → Type 0
IsEnteredAt number slots old new k = get_or new k [] ≡ cond (is_in k slots) (get_or old k [] ++ number ∷ []) (get_or old k [])

-- a number is put at the end of one more list
pub entered_more : (number : ℕ) (slots : List ℕ) (i x : ℕ) (old mid : List (List ℕ)) (row row' : List ℕ) → IsStrictlyIncreasing slots → i < length slots → x ≡ get_or slots i 0 → x < length old
    → IsEntered number (take i slots) old mid → row ≡ get_or mid x row → row' ≡ row ++ number ∷ [] → IsEntered number (take (i + 1) slots) old (set mid x row')
entered_more number slots i x old mid row row' rising less is there entered read more = record {
  long = length-set mid x row' ∙ entered.long;
  each = λ k. ⊎_elim (λ (same : k ≡ x). subst (λ (j : ℕ). IsEnteredAt number (take (i + 1) slots) old (set mid x row') j) (sym same) at_x) (λ n. at_other k n) (cases_eq k x);
}
  where
    longer : take (i + 1) slots ≡ take i slots ++ x ∷ []
    longer = take_more slots i 0 less ∙ ap (λ y. take i slots ++ y ∷ []) (sym is)

    in_mid : x < length mid
    in_mid = omega (arith, there, entered.long)

    row_is : row ≡ get_or old x []
    row_is = read ∙ (list_default mid x row [] in_mid ∙ (entered.each x ∙ ap (λ b. cond b (get_or old x [] ++ number ∷ []) (get_or old x [])) (ap (λ j. is_in j (take i slots)) is ∙ not_earlier slots i rising less)))

    at_x : IsEnteredAt number (take (i + 1) slots) old (set mid x row') x
    at_x = get_or-set_same mid x row' [] in_mid ∙ (more ∙ (ap (λ l. l ++ number ∷ []) row_is
        ∙ sym (ap (λ b. cond b (get_or old x [] ++ number ∷ []) (get_or old x [])) (ap (is_in x) longer ∙ (in_more x x (take i slots) ∙ (ap (λ b. is_in x (take i slots) || (b || false)) (eq-eqb x x refl) ∙ or_true (is_in x (take i slots))))))))

    at_other : (k : ℕ) → (k ≡ x → ⊥) → IsEnteredAt number (take (i + 1) slots) old (set mid x row') k
    at_other k n = get_or-set_other mid x k row' [] n ∙ (entered.each k
        ∙ sym (ap (λ b. cond b (get_or old k [] ++ number ∷ []) (get_or old k [])) (ap (is_in k) longer ∙ (in_more k x (take i slots) ∙ (ap (λ b. is_in k (take i slots) || (b || false)) (ne_eqb k x n) ∙ or_false (is_in k (take i slots)))))))

-- ---- the rules of a slot, one more at a time

AllBelow-more : (n : ℕ) (xs : List ℕ) → AllBelow n xs → AllBelow (n + 1) xs
AllBelow-more n [] h = tt
AllBelow-more n (x ∷ xs) h = (omega (arith, h.0), AllBelow-more n xs h.1)

below_at : (n : ℕ) (xs : List ℕ) (i : ℕ) → AllBelow n xs → i < length xs → get_or xs i 0 < n
below_at n [] i below less = absurd (omega arith)
below_at n (x ∷ xs) zero below less = below.0
below_at n (x ∷ xs) (suc i) below less = below_at n xs i below.1 (omega arith)

rising_push : (n : ℕ) (xs : List ℕ) → IsStrictlyIncreasing xs → AllBelow n xs → IsStrictlyIncreasing (xs ++ n ∷ [])
rising_push n xs rising below k less = ⊎_elim
    (λ before. omega (arith, rising k before, get_or-append xs (n ∷ []) 0 k (omega arith), get_or-append xs (n ∷ []) 0 (k + 1) before))
    (λ past.
    let long = length-append xs (n ∷ []) in
    let at : k + 1 ≡ length xs = omega arith in
    let last : get_or (xs ++ n ∷ []) (k + 1) 0 ≡ n = ap (λ j. get_or (xs ++ n ∷ []) j 0) at ∙ get_or-append_seam xs n [] 0 in
    omega (arith, last, below_at n xs k below (omega arith), get_or-append xs (n ∷ []) 0 k (omega arith)))
    (cases_lt (k + 1) (length xs))

module _ (rules : List Rule) (n slot : ℕ) (rule : Rule) (is : slice_get rules n ≡ Some rule) (numbers : List ℕ) (list : IsRuleList rules n slot numbers) where
  lacks_n : is_in n numbers ≡ false
  lacks_n = not_in n numbers (end_lacks n numbers list.below)

  -- the rule of this number
  rule_of : (k : ℕ) (r : Rule) → k ≡ n → slice_get rules k ≡ Some r → r ≡ rule
  rule_of k r same at = let e : Some r ≡ Some rule = sym at ∙ (ap (slice_get rules) same ∙ is) in cc

  rule_list_more : (b : Bool) → b ≡ reads rule slot → IsRuleList rules (n + 1) slot (cond b (numbers ++ n ∷ []) numbers)
  rule_list_more true here = record {
    told = λ k r less at. ⊎_elim
        (λ before.
        let apart : k ≡ n → ⊥ = λ e. omega arith in
        in_more k n numbers ∙ (ap (λ b. is_in k numbers || (b || false)) (ne_eqb k n apart) ∙ (or_false (is_in k numbers) ∙ list.told k r before at)))
        (λ past.
        let same : k ≡ n = omega arith in
        in_more k n numbers ∙ (ap (λ b. is_in k numbers || (b || false)) (eq-eqb k n same) ∙ (or_true (is_in k numbers) ∙ (here ∙ ap (λ (s : Rule). reads s slot) (sym (rule_of k r same at))))))
        (cases_lt k n);
    below = AllBelow-push (n + 1) n numbers (omega arith) (AllBelow-more n numbers list.below);
    ascending = rising_push n numbers list.ascending list.below;
  }
  rule_list_more false here = record {
    told = λ k r less at. ⊎_elim
        (λ before. list.told k r before at)
        (λ past. let same : k ≡ n = omega arith in ap (λ j. is_in j numbers) same ∙ (lacks_n ∙ (here ∙ ap (λ (s : Rule). reads s slot) (sym (rule_of k r same at)))))
        (cases_lt k n);
    below = AllBelow-more n numbers list.below;
    ascending = list.ascending;
  }

pub rule_lists_more : (rules : List Rule) (n count : ℕ) (rule : Rule) (slots : List ℕ) (old new : List (List ℕ)) → slice_get rules n ≡ Some rule → IsSlotList rule slots → AreRuleLists rules n count old → IsEntered n slots old new → AreRuleLists rules (n + 1) count new
rule_lists_more rules n count rule slots old new is list lists entered = record {
  long = entered.long ∙ lists.long;
  each = λ slot less. subst (IsRuleList rules (n + 1) slot) (sym (entered.each slot)) (rule_list_more rules n slot rule is (get_or old slot []) (lists.each slot less) (is_in slot slots) (list.told slot));
}

-- Which entry comes next.
use Rattle.std.proofs.Common.{rules, ◌≡◌, refl, sym, ap, ◌∙◌, subst, ℕ, zero, suc, ◌+◌, ◌-◌, ◌<◌, Bool, true, false, cond, List, [], ◌∷◌, ◌++◌, map, length, Option, Some, None, is_some, IfSome, IfNone, arith, ℤ, ◌<ℤ◌}
use Rattle.std.proofs.lemmas.Bool.{cond-false, true≢false, cases_Bool}
use Rattle.std.proofs.lemmas.Int.{ints}
use Rattle.std.specs.Prelude.{find, option_map, int_lt}
use Rattle.std.specs.List.{range_with_len}
use Rattle.std.specs.Option.{option_or}
use Rattle.box_eval.specs.declared.bounds.Pair.{Pair}
use Rattle.box_eval.specs.declared.cut.Cut.{Cut}
use Rattle.box_eval.specs.Box.{low_at, high_at, IsCutOf}
use Rattle.search_plans.specs.Drawn.{drawn}
use Rattle.search_plans.specs.declared.wish.Entry.{Entry}
use Rattle.search_plans.specs.Plans.{free, all_free, open_entry, next_entry, chosen}
use Rattle.search_plans.specs.Wishes.{is_wide, wished}
use Rattle.box_eval.proofs.Parts.{wide_there}
use Rattle.search_plans.proofs.Splits.{wished_cuts}

-- ---- two rows

find_or : (test : Entry → Bool) (xs ys : List Entry) → find test (xs ++ ys) ≡ option_or (find test xs) (find test ys)
find_or test [] ys = refl
find_or test (x ∷ xs) ys = by (test x) (find_or test xs ys)
  where
    by : (b : Bool) → find test (xs ++ ys) ≡ option_or (find test xs) (find test ys)
        → cond b (Some x) (find test (xs ++ ys)) ≡ option_or (cond b (Some x) (find test xs)) (find test ys)
    by true h = refl
    by false h = h

pub in_plan : (plan : List Entry) (ends : List Pair) (found : Option Entry) (e : Entry) → found ≡ open_entry plan ends → found ≡ Some e → Some e ≡ next_entry plan ends
in_plan plan ends found e is some = sym (find_or (λ e. is_wide ends e.slot) plan (all_free ends) ∙ ap (λ o. option_or o (open_entry (all_free ends) ends)) (sym is ∙ some))

pub past_plan : (plan : List Entry) (ends : List Pair) (found rest : Option Entry) → found ≡ open_entry plan ends → found ≡ None → rest ≡ open_entry (all_free ends) ends → rest ≡ next_entry plan ends
past_plan plan ends found rest is none more =
    more ∙ sym (find_or (λ e. is_wide ends e.slot) plan (all_free ends) ∙ ap (λ o. option_or o (open_entry (all_free ends) ends)) (sym is ∙ none))

-- ---- slots in turn

-- a slot with one value is passed over
pub passed : (ends : List Pair) (slot end : ℕ) → slot < end → is_wide ends slot ≡ false
    → open_entry (map free (range_with_len slot (end - slot))) ends ≡ open_entry (map free (range_with_len (slot + 1) (end - (slot + 1)))) ends
passed ends slot end less narrow =
    let e : end - slot ≡ suc (end - (slot + 1)) = omega arith in
    ap (λ n. open_entry (map free (range_with_len slot n)) ends) e
    ∙ cond-false (is_wide ends slot) (Some (free slot)) (open_entry (map free (range_with_len (slot + 1) (end - (slot + 1)))) ends) narrow

-- if none is found, each slot has one value
row_fixed : (ends : List Pair) (n first k : ℕ) → open_entry (map free (range_with_len first n)) ends ≡ None → k < n → is_wide ends (first + k) ≡ false
row_fixed ends zero first k h less = absurd (omega arith)
row_fixed ends (suc n) first k h less =
    by (is_wide ends first) k less refl h (λ j. row_fixed ends n (first + 1) j)
  where
    by : (b : Bool) (k : ℕ) → k < suc n → is_wide ends first ≡ b → cond b (Some (free first)) (open_entry (map free (range_with_len (first + 1) n)) ends) ≡ None
        → ((j : ℕ) → open_entry (map free (range_with_len (first + 1) n)) ends ≡ None → j < n → is_wide ends ((first + 1) + j) ≡ false)
        → is_wide ends (first + k) ≡ false
    by true k less is h later = absurd (true≢false (ap is_some h))
    by false zero less is h later = let e : first + 0 ≡ first = omega arith in ap (is_wide ends) e ∙ is
    by false (suc k) less is h later = let e : first + suc k ≡ (first + 1) + k = omega arith in ap (is_wide ends) e ∙ later k h (omega arith)

all_fixed : (ends : List Pair) → open_entry (all_free ends) ends ≡ None → (slot : ℕ) → is_wide ends slot ≡ false
all_fixed ends h slot = by (is_wide ends slot) refl
  where
    by : (b : Bool) → is_wide ends slot ≡ b → is_wide ends slot ≡ false
    by false is = is
    by true is = let e : 0 + slot ≡ slot = omega arith in ap (is_wide ends) (sym e) ∙ row_fixed ends (length ends) 0 slot h (wide_there ends slot (omega (arith, ints, is)))

-- ---- what is found

found_wide : (plan : List Entry) (ends : List Pair) → IfSome (open_entry plan ends) (λ e. is_wide ends e.slot ≡ true)
found_wide [] ends = search rules
found_wide (x ∷ xs) ends = by (is_wide ends x.slot) refl (found_wide xs ends)
  where
    by : (b : Bool) → is_wide ends x.slot ≡ b → IfSome (open_entry xs ends) (λ e. is_wide ends e.slot ≡ true) → IfSome (cond b (Some x) (open_entry xs ends)) (λ e. is_wide ends e.slot ≡ true)
    by true is later = is
    by false is later = later

pub next_wide : (plan : List Entry) (ends : List Pair) (found : Option Entry) → found ≡ next_entry plan ends → IfSome found (λ e. low_at ends e.slot <ℤ high_at ends e.slot)
next_wide plan ends found is = by found (subst (λ o. IfSome o (λ e. is_wide ends e.slot ≡ true)) (sym is) (found_wide (plan ++ all_free ends) ends))
  where
    by : (o : Option Entry) → IfSome o (λ e. is_wide ends e.slot ≡ true) → IfSome o (λ e. low_at ends e.slot <ℤ high_at ends e.slot)
    by None h = h
    by (Some e) h = omega (arith, ints, h)

-- if nothing is found in two rows, nothing is in the second
second_none : (a b : Option Entry) → option_or a b ≡ None → b ≡ None
second_none None b h = h
second_none (Some e) b h = absurd (true≢false (ap is_some h))

pub next_none : (plan : List Entry) (ends : List Pair) → next_entry plan ends ≡ None → (slot : ℕ) → is_wide ends slot ≡ false
next_none plan ends h =
    all_fixed ends (second_none (open_entry plan ends) (open_entry (all_free ends) ends) (sym (find_or (λ e. is_wide ends e.slot) plan (all_free ends)) ∙ h))

-- the chosen cut cuts the box
pub chosen_cuts : (plan : List Entry) (number : ℕ) (ends : List Pair) (cut : Cut) → chosen plan number ends ≡ Some cut → IsCutOf ends cut
chosen_cuts plan number ends cut h = by (next_entry plan ends) (next_wide plan ends (next_entry plan ends) refl) h
  where
    by : (o : Option Entry) → IfSome o (λ e. low_at ends e.slot <ℤ high_at ends e.slot) → option_map (λ e. wished e.wish ends e.slot number) o ≡ Some cut → IsCutOf ends cut
    by None wide h = absurd (true≢false (sym (ap is_some h)))
    by (Some e) wide h = subst (λ o. IfSome o (IsCutOf ends)) h (wished_cuts e.wish ends e.slot number wide)

-- if a slot is open, a cut is chosen
pub chosen_there : (plan : List Entry) (number : ℕ) (ends : List Pair) (slot : ℕ) → is_wide ends slot ≡ true → is_some (chosen plan number ends) ≡ true
chosen_there plan number ends slot wide = by (next_entry plan ends) refl
  where
    by : (o : Option Entry) → next_entry plan ends ≡ o → is_some (option_map (λ e. wished e.wish ends e.slot number) o) ≡ true
    by (Some e) is = refl
    by None is = absurd (true≢false (sym wide ∙ next_none plan ends is slot))

-- ---- without a plan

wide_is : (low high : ℤ) → low <ℤ high → int_lt low high ≡ true
wide_is low high wide = by (int_lt low high) refl
  where
    by : (b : Bool) → int_lt low high ≡ b → int_lt low high ≡ true
    by true is = is
    by false is = absurd (omega (arith, ints, is, wide))

narrow_is : (low high : ℤ) → low ≡ high → int_lt low high ≡ false
narrow_is low high same = by (int_lt low high) refl
  where
    by : (b : Bool) → int_lt low high ≡ b → int_lt low high ≡ false
    by false is = is
    by true is = absurd (omega (arith, ints, is, same))

-- the first open slot is found
row_first : (ends : List Pair) (n first k : ℕ) → k < n → is_wide ends (first + k) ≡ true → ((j : ℕ) → j < k → is_wide ends (first + j) ≡ false)
    → open_entry (map free (range_with_len first n)) ends ≡ Some (free (first + k))
row_first ends zero first k less wide earlier = absurd (omega arith)
row_first ends (suc n) first zero less wide earlier =
    let e : first + 0 ≡ first = omega arith in
    let w : is_wide ends first ≡ true = ap (is_wide ends) (sym e) ∙ wide in
    ap (λ b. cond b (Some (free first)) (open_entry (map free (range_with_len (first + 1) n)) ends)) w ∙ ap (λ s. Some (free s)) (sym e)
row_first ends (suc n) first (suc k) less wide earlier =
    let e : first + 0 ≡ first = omega arith in
    let s : first + suc k ≡ (first + 1) + k = omega arith in
    let w : is_wide ends first ≡ false = ap (is_wide ends) (sym e) ∙ earlier 0 (omega arith) in
    ap (λ b. cond b (Some (free first)) (open_entry (map free (range_with_len (first + 1) n)) ends)) w
    ∙ row_first ends n (first + 1) k (omega arith) (ap (is_wide ends) (sym s) ∙ wide)
    (λ j less. let t : (first + 1) + j ≡ first + suc j = omega arith in ap (is_wide ends) t ∙ earlier (suc j) (omega arith))
    ∙ ap (λ x. Some (free x)) (sym s)

-- the cut of the first open slot, as it is drawn without a plan
pub empty_plan : (number : ℕ) (ends : List Pair) (slot : ℕ) → low_at ends slot <ℤ high_at ends slot
    → ((before : ℕ) → before < slot → low_at ends before ≡ high_at ends before) → chosen [] number ends ≡ Some (drawn number slot (low_at ends slot) (high_at ends slot))
empty_plan number ends slot wide earlier =
    let e : 0 + slot ≡ slot = omega arith in
    ap (option_map (λ e. wished e.wish ends e.slot number))
    (row_first ends (length ends) 0 slot (wide_there ends slot wide) (ap (is_wide ends) e ∙ wide_is (low_at ends slot) (high_at ends slot) wide)
    (λ j less. let t : 0 + j ≡ j = omega arith in ap (is_wide ends) t ∙ narrow_is (low_at ends j) (high_at ends j) (earlier j less)))
    ∙ ap (λ s. Some (wished (free s).wish ends s number)) e

pub none_found : (plan : List Entry) (ends : List Pair) (found : Option Entry) → found ≡ next_entry plan ends → IfNone found ((slot : ℕ) → is_wide ends slot ≡ false)
none_found plan ends None is = next_none plan ends (sym is)
none_found plan ends (Some e) is = search rules

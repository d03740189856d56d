-- Rows none of which holds, and tests that nothing passes.
use Rattle.std.proofs.Common.{◌≡◌, ◌∙◌, refl, sym, ap, ◌&&◌, ◌||◌, Bool, true, false, not, cond, List, [], ◌∷◌, ◌++◌, Option, Some, None, flat_map, true≢false}
use Rattle.std.specs.Prelude.{is_none, is_some}
use Rattle.std.specs.List.{list_any}
use Rattle.std.proofs.lemmas.List.Folds.{list_all-append, list_any-append}
use Rattle.type_members.specs.osc_base.declared.fault.Fault.{Fault}
use Rattle.type_members.specs.osc_base.FaultRows.{FaultRow, first_fault, first_from, first_of, is_before, row_fault}
use Rattle.member_faults.specs.RowFacts.{quiet}
use Rattle.fault_sets.proofs.Ranked.{both, left_of, right_of}

some_kept : (f : Fault) (o : Option Fault) → is_none (first_of (Some f) o) ≡ false
some_kept f None = refl
some_kept f (Some g) = by (is_before g f)
  where
    by : (b : Bool) → is_none (cond b (Some g) (Some f)) ≡ false
    by true = refl
    by false = refl

never_none : (first : Option Fault) (rs : List FaultRow) → is_none first ≡ false → is_none (first_from first rs) ≡ false
never_none first [] some = some
never_none None (r ∷ rs) some = absurd (true≢false some)
never_none (Some f) (r ∷ rs) some = never_none (first_of (Some f) (row_fault r)) rs (some_kept f (row_fault r))

pub none_quiet : (rs : List FaultRow) → is_none (first_fault rs) ≡ true → quiet rs ≡ true
none_quiet [] none = refl
none_quiet (r ∷ rs) none = by r.holds none (none_quiet rs)
  where
    by : (b : Bool) → is_none (first_from (first_of None (cond b (Some r.fault) None)) rs) ≡ true → (is_none (first_fault rs) ≡ true → quiet rs ≡ true) → (not b && quiet rs) ≡ true
    by true h rest = absurd (true≢false (sym h ∙ never_none (Some r.fault) rs refl))
    by false h rest = rest h

nothing_first : (first : Option Fault) → first_of first None ≡ first
nothing_first None = refl
nothing_first (Some f) = refl

pub quiet_stays : (first : Option Fault) (rs : List FaultRow) → quiet rs ≡ true → first_from first rs ≡ first
quiet_stays first [] h = refl
quiet_stays first (r ∷ rs) h = by r.holds (left_of (not r.holds) (quiet rs) h) ∙ quiet_stays first rs (right_of (not r.holds) (quiet rs) h)
  where
    by : (b : Bool) → not b ≡ true → first_from (first_of first (cond b (Some r.fault) None)) rs ≡ first_from first rs
    by true no_more = absurd (true≢false (sym no_more))
    by false no_more = ap (λ o. first_from o rs) (nothing_first first)

pub quiet_both : (rs ss : List FaultRow) → quiet rs ≡ true → quiet ss ≡ true → quiet (rs ++ ss) ≡ true
quiet_both rs ss h k = list_all-append (λ (r : FaultRow). not r.holds) rs ss ∙ both (quiet rs) (quiet ss) h k

pub quiet_left : (rs ss : List FaultRow) → quiet (rs ++ ss) ≡ true → quiet rs ≡ true
quiet_left rs ss h = left_of (quiet rs) (quiet ss) (sym (list_all-append (λ (r : FaultRow). not r.holds) rs ss) ∙ h)

pub quiet_right : (rs ss : List FaultRow) → quiet (rs ++ ss) ≡ true → quiet ss ≡ true
quiet_right rs ss h = right_of (quiet rs) (quiet ss) (sym (list_all-append (λ (r : FaultRow). not r.holds) rs ss) ∙ h)

-- Tests

pub told_none : {X : Type 0} (o : Option X) (b : Bool) → is_some o ≡ not b → b ≡ is_none o
told_none None true h = refl
told_none None false h = absurd (true≢false (sym h))
told_none (Some x) true h = absurd (true≢false h)
told_none (Some x) false h = refl

pub not_false : (b : Bool) → not b ≡ true → b ≡ false
not_false true h = absurd (true≢false (sym h))
not_false false h = refl

pub left_false : (a b : Bool) → (a || b) ≡ false → a ≡ false
left_false true b h = h
left_false false b h = refl

pub right_false : (a b : Bool) → (a || b) ≡ false → b ≡ false
right_false true b h = absurd (true≢false h)
right_false false b h = h

pub both_false : (a b : Bool) → a ≡ false → b ≡ false → (a || b) ≡ false
both_false true b h k = h
both_false false b h k = k

pub or_left : (a b : Bool) → a ≡ true → (a || b) ≡ true
or_left true b h = refl
or_left false b h = absurd (true≢false (sym h))

pub or_right : (a b : Bool) → b ≡ true → (a || b) ≡ true
or_right true b h = refl
or_right false b h = h

pub any_weaker : {X : Type 0} (f g : X → Bool) → ((x : X) → f x ≡ false → g x ≡ false) → (xs : List X) → list_any f xs ≡ false → list_any g xs ≡ false
any_weaker f g weaker [] h = refl
any_weaker f g weaker (x ∷ xs) h =
    both_false (g x) (list_any g xs) (weaker x (left_false (f x) (list_any f xs) h)) (any_weaker f g weaker xs (right_false (f x) (list_any f xs) h))

pub any_flat : {X Y : Type 0} (f : Y → Bool) (h : X → List Y) (xs : List X) → list_any f (flat_map h xs) ≡ list_any (λ x. list_any f (h x)) xs
any_flat f h [] = refl
any_flat f h (x ∷ xs) = list_any-append f (h x) (flat_map h xs) ∙ ap (λ b. list_any f (h x) || b) (any_flat f h xs)

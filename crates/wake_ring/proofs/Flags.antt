-- Which numbers are flagged, and what a change of one flag makes of them.
use Rattle.std.proofs.Common.{◌≡◌, ℕ, zero, suc, ◌+◌, ◌-◌, ◌<◌, ◌≤◌, Bool, true, false, ◌||◌, eqb, List, [], ◌∷◌, length, get_or, set, replicate, refl, sym, ap, subst, ◌∙◌, inl, inr, arith, length-set, get_or-set_same, get_or-set_other}
use Rattle.std.proofs.lemmas.Bool.{cases_eq, eq-eqb, ne_eqb, or_left, or_from}
use Rattle.std.proofs.lemmas.List.{get_or_default}
use Rattle.wake_ring.specs.Queue.{Queue, queue, is_in, without}
use Rattle.wake_ring.specs.Flags.{flag_at, flagged_from, flagged, IsFlagged}
use Rattle.wake_ring.proofs.Order.{without_first, without_other, without_absent}
use Rattle.wake_ring.proofs.Members.{lacks_from}

-- ---- which are there

lacks_below : (x n : ℕ) (flags : List Bool) → x < n → is_in x (flagged_from n flags) ≡ false
lacks_below x n [] less = refl
lacks_below x n (true ∷ bs) less = or_from (eqb x n) (is_in x (flagged_from (n + 1) bs)) (ne_eqb x n (omega arith)) (lacks_below x (n + 1) bs (omega arith))
lacks_below x n (false ∷ bs) less = lacks_below x (n + 1) bs (omega arith)

in_from : (n k x : ℕ) (flags : List Bool) → n + k ≡ x → is_in x (flagged_from n flags) ≡ flag_at flags k
in_from n k x [] is = refl
in_from n zero x (true ∷ bs) is = or_left (eqb x n) (is_in x (flagged_from (n + 1) bs)) (eq-eqb x n (omega arith))
in_from n zero x (false ∷ bs) is = lacks_below x (n + 1) bs (omega arith)
in_from n (suc k) x (true ∷ bs) is =
    ap (λ (b : Bool). b || is_in x (flagged_from (n + 1) bs)) (ne_eqb x n (omega arith)) ∙ in_from (n + 1) k x bs (omega arith)
in_from n (suc k) x (false ∷ bs) is = in_from (n + 1) k x bs (omega arith)

-- a number is among the flagged ones as its flag says
pub in_flagged : (k : ℕ) (flags : List Bool) → is_in k (flagged flags) ≡ flag_at flags k
in_flagged k flags = in_from 0 k k flags (omega arith)

none_from : (n : ℕ) (flags : List Bool) → ((k : ℕ) → k < length flags → flag_at flags k ≡ false) → flagged_from n flags ≡ []
none_from n [] none = refl
none_from n (true ∷ bs) none = absurd (never (none 0 (omega arith)))
  where
    never : true ≡ false → ⊥
    never e = cc
none_from n (false ∷ bs) none = none_from (n + 1) bs (λ k less. none (suc k) (omega (arith, less)))

pub none_flagged : (flags : List Bool) → ((k : ℕ) → k < length flags → flag_at flags k ≡ false) → flagged flags ≡ []
none_flagged flags none = none_from 0 flags none

fresh_from : (n count : ℕ) → flagged_from n (replicate count false) ≡ []
fresh_from n zero = refl
fresh_from n (suc count) = fresh_from (n + 1) count

pub fresh : (count : ℕ) → flagged (replicate count false) ≡ []
fresh count = fresh_from 0 count

few_from : (n : ℕ) (flags : List Bool) → length (flagged_from n flags) ≤ length flags
few_from n [] = omega arith
few_from n (true ∷ bs) = omega (arith, few_from (n + 1) bs)
few_from n (false ∷ bs) = omega (arith, few_from (n + 1) bs)

-- there are no more of them than flags
pub few_flagged : (flags : List Bool) → length (flagged flags) ≤ length flags
few_flagged flags = few_from 0 flags

pub none_counted : (xs : List ℕ) → length xs ≡ 0 → xs ≡ []
none_counted [] e = refl
none_counted (x ∷ xs) e = absurd (omega (arith, e))

-- ---- one flag is set

pub in_more : (flags : List Bool) (i k : ℕ) → i < length flags → is_in k (flagged (set flags i true)) ≡ is_in k (i ∷ flagged flags)
in_more flags i k less = in_flagged k (set flags i true) ∙ elim (cases_eq k i) [
  | inl e ↦ ap (λ j. get_or (set flags i true) j false) e ∙ get_or-set_same flags i true false less
      ∙ sym (or_left (eqb k i) (is_in k (flagged flags)) (eq-eqb k i e))
  | inr ne ↦ get_or-set_other flags i k true false ne ∙ sym (in_flagged k flags)
      ∙ ap (λ (b : Bool). b || is_in k (flagged flags)) (sym (ne_eqb k i ne))
]

more_from : (n i : ℕ) (flags : List Bool) → i < length flags → flag_at flags i ≡ false → length (flagged_from n (set flags i true)) ≡ suc (length (flagged_from n flags))
more_from n i [] less e = absurd (omega arith)
more_from n zero (true ∷ bs) less e = cc
more_from n zero (false ∷ bs) less e = refl
more_from n (suc i) (true ∷ bs) less e = ap suc (more_from (n + 1) i bs (omega (arith, less)) e)
more_from n (suc i) (false ∷ bs) less e = more_from (n + 1) i bs (omega (arith, less)) e

pub one_more : (flags : List Bool) (i : ℕ) → i < length flags → flag_at flags i ≡ false → length (flagged (set flags i true)) ≡ suc (length (flagged flags))
one_more flags i less e = more_from 0 i flags less e

-- ---- one flag is taken away

without_from : (n i x : ℕ) (flags : List Bool) → n + i ≡ x → flagged_from n (set flags i false) ≡ without x (flagged_from n flags)
without_from n i x [] is = refl
without_from n zero x (true ∷ bs) is =
    let same : x ≡ n = omega arith in
    sym (ap (λ j. without x (j ∷ flagged_from (n + 1) bs)) (sym same) ∙ without_first x (flagged_from (n + 1) bs)
    ∙ without_absent x (flagged_from (n + 1) bs) (lacks_from x (flagged_from (n + 1) bs) (lacks_below x (n + 1) bs (omega arith))))
without_from n zero x (false ∷ bs) is =
    sym (without_absent x (flagged_from (n + 1) bs) (lacks_from x (flagged_from (n + 1) bs) (lacks_below x (n + 1) bs (omega arith))))
without_from n (suc i) x (true ∷ bs) is =
    ap (λ (xs : List ℕ). n ∷ xs) (without_from (n + 1) i x bs (omega arith)) ∙ sym (without_other x n (flagged_from (n + 1) bs) (omega arith))
without_from n (suc i) x (false ∷ bs) is = without_from (n + 1) i x bs (omega arith)

pub without_flag : (flags : List Bool) (i : ℕ) → flagged (set flags i false) ≡ without i (flagged flags)
without_flag flags i = without_from 0 i i flags (omega arith)

less_from : (n i : ℕ) (flags : List Bool) → flag_at flags i ≡ true → suc (length (flagged_from n (set flags i false))) ≡ length (flagged_from n flags)
less_from n i [] e = cc
less_from n zero (true ∷ bs) e = refl
less_from n zero (false ∷ bs) e = cc
less_from n (suc i) (true ∷ bs) e = ap suc (less_from (n + 1) i bs e)
less_from n (suc i) (false ∷ bs) e = less_from (n + 1) i bs e

pub one_less : (flags : List Bool) (i : ℕ) → flag_at flags i ≡ true → suc (length (flagged (set flags i false))) ≡ length (flagged flags)
one_less flags i e = less_from 0 i flags e

-- ---- what a ring has after a call

-- each number below the bound has a flag
pub has_flag : (q : Queue) (flags : List Bool) (i : ℕ) → queue (length flags) (flagged flags) ≡ q → i < q.bound → i < length flags
has_flag q flags i is less = subst (λ (r : Queue). i < r.bound) (sym is) less

-- what is read of the flags within their row
pub is_flagged : (flags : List Bool) (i : ℕ) (b : Bool) → i < length flags → b ≡ get_or flags i b → b ≡ true → flag_at flags i ≡ true
is_flagged flags i b less read e = get_or_default flags i false b less ∙ sym read ∙ e

-- where a number isn't flagged, fewer are flagged than there are flags
pub one_free : (flags : List Bool) (i : ℕ) → i < length flags → flag_at flags i ≡ false → length (flagged flags) < length flags
one_free flags i less e = omega (arith, one_more flags i less e, few_flagged (set flags i true), length-set flags i true)

pub more_waits : (flags : List Bool) (counted i : ℕ) (q q' : Queue) → IsFlagged flags counted q → i < length flags → flag_at flags i ≡ false
    → q'.bound ≡ q.bound → IsFlagged (set flags i true) (counted + 1) q'
more_waits flags counted i q q' is less e bound = record {
  few = omega (arith, is.few, length-set flags i true);
  count = omega (arith, is.count, one_more flags i less e);
  bound = bound ∙ is.bound ∙ sym (length-set flags i true);
}

pub fewer_wait : (flags : List Bool) (counted i : ℕ) (q q' : Queue) → IsFlagged flags counted q → flag_at flags i ≡ true
    → q'.bound ≡ q.bound → IsFlagged (set flags i false) (counted - 1) q'
fewer_wait flags counted i q q' is e bound = record {
  few = omega (arith, is.few, length-set flags i false);
  count = omega (arith, is.count, one_less flags i e);
  bound = bound ∙ is.bound ∙ sym (length-set flags i false);
}

pub left_out : (q : Queue) (flags : List Bool) (i : ℕ) → queue (length flags) (flagged flags) ≡ q
    → queue (length (set flags i false)) (flagged (set flags i false)) ≡ queue q.bound (without i q.items)
left_out q flags i is =
    ap (λ n. queue n (flagged (set flags i false))) (length-set flags i false)
    ∙ ap (λ xs. queue (length flags) xs) (without_flag flags i)
    ∙ ap (λ (r : Queue). queue r.bound (without i r.items)) is

-- leaving out a number that doesn't wait changes nothing
pub as_before : (q : Queue) (flags : List Bool) (i : ℕ) → queue (length flags) (flagged flags) ≡ q → flag_at flags i ≡ false
    → q ≡ queue q.bound (without i q.items)
as_before q flags i is e =
    let gone = ap (λ (r : Queue). is_in i r.items) (sym is) ∙ in_flagged i flags ∙ e in
    ap (λ xs. queue q.bound xs) (sym (without_absent i q.items (lacks_from i q.items gone)))

-- A text with `\u003c` in place of each `<`, from what stands around the first one.
use Rattle.std.proofs.Common.{◌≡◌, ◌∙◌, suc, refl, sym, ap, ap₂, append_assoc, take, drop, ℕ, ◌+◌, ◌<◌, ◌==◌, Bool, true, false, arith, List, [], ◌∷◌, ◌++◌, length, codes, if◌then◌else◌, is_ok, Result, Ok, Err, OnOk}
use Rattle.std.specs.Prelude.{flat_map}
use Rattle.std.specs.List.{after_first, before_first, position_or_len}
use Rattle.run_exports.specs.PageText.{marked}

abbrev pub is_mark : ℕ → Bool
is_mark b = b == 60

-- without a `<` it is the text itself
pub unmarked_all : (s : List ℕ) → position_or_len is_mark s ≡ length s → flat_map marked s ≡ s
unmarked_all [] none = refl
unmarked_all (b ∷ bs) none = go (b == 60) refl (unmarked_all bs)
  where
    go : (t : Bool) → (b == 60) ≡ t → (position_or_len is_mark bs ≡ length bs → flat_map marked bs ≡ bs) → flat_map marked (b ∷ bs) ≡ b ∷ bs
    go true is onward = let bad : 0 ≡ length (b ∷ bs) = rw is at none in absurd (omega (arith, bad))
    go false is onward =
        let later : 1 + position_or_len is_mark bs ≡ suc (length bs) = rw is at none in
        rw is (ap (λ t. b ∷ t) (onward (omega (arith, later))))

one_more : (n : ℕ) → suc n ≡ 1 + n
one_more n = omega arith

two_more : (n : ℕ) → suc (n + 1) ≡ 1 + n + 1
two_more n = omega arith

-- what stands before the first `<`, that, and the rest
pub marked_first : (s : List ℕ) → position_or_len is_mark s < length s
    → flat_map marked s ≡ before_first is_mark s ++ (codes "\\u003c" ++ flat_map marked (after_first is_mark s))
marked_first [] some = absurd (omega (arith, some))
marked_first (b ∷ bs) some = go (b == 60) refl (marked_first bs)
  where
    go : (t : Bool) → (b == 60) ≡ t
        → (position_or_len is_mark bs < length bs → flat_map marked bs ≡ before_first is_mark bs ++ (codes "\\u003c" ++ flat_map marked (after_first is_mark bs)))
        → flat_map marked (b ∷ bs) ≡ before_first is_mark (b ∷ bs) ++ (codes "\\u003c" ++ flat_map marked (after_first is_mark (b ∷ bs)))
    go true is onward = rw is refl
    go false is onward =
        let later : 1 + position_or_len is_mark bs < suc (length bs) = rw is at some in
        let n = position_or_len is_mark bs in
        rw is (ap (λ t. b ∷ t) (onward (omega (arith, later)))
        ∙ ap₂ (λ j k. take j (b ∷ bs) ++ (codes "\\u003c" ++ flat_map marked (drop k (b ∷ bs)))) (one_more n) (two_more n))

-- a step over what stands before the first `<`, and the step over what is left
pub step_marked : (s text new old front back all : List ℕ) → position_or_len is_mark s < length s → front ≡ before_first is_mark s → back ≡ after_first is_mark s
    → new ≡ text ++ (front ++ codes "\\u003c") → text ++ flat_map marked s ≡ old ++ all → new ++ flat_map marked back ≡ old ++ all
step_marked s text new old front back all some at behind put held =
    ap (λ t. t ++ flat_map marked back) put ∙ append_assoc text (front ++ codes "\\u003c") (flat_map marked back)
    ∙ ap (λ t. text ++ t) (append_assoc front (codes "\\u003c") (flat_map marked back) ∙ ap (λ t. t ++ (codes "\\u003c" ++ flat_map marked back)) at
    ∙ ap (λ t. before_first is_mark s ++ (codes "\\u003c" ++ flat_map marked t)) behind ∙ sym (marked_first s some))
    ∙ held

-- the last piece, which has no `<`
pub whole_marked : {E : Type 0} (s text new old all : List ℕ) (r : Result (Unit {0}) E) → position_or_len is_mark s ≡ length s
    → new ≡ (if is_ok r then text ++ s else text) → text ++ flat_map marked s ≡ old ++ all → OnOk r (new ≡ old ++ all)
whole_marked s text new old all (Ok x) none put held = put ∙ ap (λ t. text ++ t) (sym (unmarked_all s none)) ∙ held
whole_marked s text new old all (Err e) none put held = tt

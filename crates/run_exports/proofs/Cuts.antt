-- What is read from a text that was joined of pieces.
use Rattle.std.proofs.Common.{◌≡◌, ◌∙◌, refl, sym, ap, true≢false, arith, ℕ, Bool, true, false, not, cond, ◌&&◌, ◌||◌, List, [], ◌∷◌, ◌++◌, eq-eqb, eqb-true}
use Rattle.std.specs.Prelude.{nat_eq}
use Rattle.std.specs.List.{list_all}
use Rattle.std.proofs.lemmas.List.Folds.{list_all-append}
use Rattle.run_exports.specs.Reading.{before, behind, put_in_front, ended_by}

pub both : (a b : Bool) → a && b ≡ true → (a ≡ true) × (b ≡ true)
both true b h = (refl, h)
both false b h = absurd (true≢false (sym h))

pub joined : (p : ℕ → Bool) (xs ys : List ℕ) → list_all p xs ≡ true → list_all p ys ≡ true → list_all p (xs ++ ys) ≡ true
joined p xs ys h g = list_all-append p xs ys ∙ (λ i. h i && g i)

-- ---- texts without a byte of some kind

abbrev pub free : ℕ → List ℕ → Bool
free mark xs = list_all (λ b. not (nat_eq b mark)) xs

-- bytes of one kind are none that isn't of it
pub kind_free : (p : ℕ → Bool) (mark : ℕ) → p mark ≡ false → (xs : List ℕ) → list_all p xs ≡ true → free mark xs ≡ true
kind_free p mark other [] h = refl
kind_free p mark other (x ∷ xs) h =
    let parts = both (p x) (list_all p xs) h in
    λ i. not (apart (nat_eq x mark) refl parts.0 i) && kind_free p mark other xs parts.1 i
  where
    apart : (b : Bool) → nat_eq x mark ≡ b → p x ≡ true → b ≡ false
    apart true e h = absurd (true≢false (sym h ∙ ap p (eqb-true x mark e) ∙ other))
    apart false e h = refl

pub free_then : (mark c : ℕ) (xs ys : List ℕ) → free mark xs ≡ true → nat_eq c mark ≡ false → free mark ys ≡ true → free mark (xs ++ c ∷ ys) ≡ true
free_then mark c xs ys h other g = joined (λ b. not (nat_eq b mark)) xs (c ∷ ys) h (λ i. not (other i) && g i)

-- ---- readers at the first such byte

same : (n : ℕ) → nat_eq n n ≡ true
same n = eq-eqb n n refl

pub before_mark : (mark : ℕ) (xs ys : List ℕ) → free mark xs ≡ true → before mark (xs ++ mark ∷ ys) ≡ xs
before_mark mark [] ys h = ap (λ b. cond b [] (mark ∷ before mark ys)) (same mark)
before_mark mark (x ∷ xs) ys h = by (nat_eq x mark) h (before_mark mark xs ys)
  where
    by : (b : Bool) → not b && free mark xs ≡ true → (free mark xs ≡ true → before mark (xs ++ mark ∷ ys) ≡ xs)
        → cond b [] (x ∷ before mark (xs ++ mark ∷ ys)) ≡ x ∷ xs
    by true g rest = absurd (true≢false (sym g))
    by false g rest = ap (λ l. x ∷ l) (rest g)

pub behind_mark : (mark : ℕ) (xs ys : List ℕ) → free mark xs ≡ true → behind mark (xs ++ mark ∷ ys) ≡ ys
behind_mark mark [] ys h = ap (λ b. cond b ys (behind mark ys)) (same mark)
behind_mark mark (x ∷ xs) ys h = by (nat_eq x mark) h (behind_mark mark xs ys)
  where
    by : (b : Bool) → not b && free mark xs ≡ true → (free mark xs ≡ true → behind mark (xs ++ mark ∷ ys) ≡ ys)
        → cond b (xs ++ mark ∷ ys) (behind mark (xs ++ mark ∷ ys)) ≡ ys
    by true g rest = absurd (true≢false (sym g))
    by false g rest = rest g

pub before_none : (mark : ℕ) (xs : List ℕ) → free mark xs ≡ true → before mark xs ≡ xs
before_none mark [] h = refl
before_none mark (x ∷ xs) h = by (nat_eq x mark) h (before_none mark xs)
  where
    by : (b : Bool) → not b && free mark xs ≡ true → (free mark xs ≡ true → before mark xs ≡ xs) → cond b [] (x ∷ before mark xs) ≡ x ∷ xs
    by true g rest = absurd (true≢false (sym g))
    by false g rest = ap (λ l. x ∷ l) (rest g)

pub ended_mark : (mark : ℕ) (xs ys : List ℕ) → free mark xs ≡ true → ended_by mark (xs ++ mark ∷ ys) ≡ xs ∷ ended_by mark ys
ended_mark mark [] ys h = ap (λ b. cond b ([] ∷ ended_by mark ys) (put_in_front mark (ended_by mark ys))) (same mark)
ended_mark mark (x ∷ xs) ys h = by (nat_eq x mark) h (ended_mark mark xs ys)
  where
    by : (b : Bool) → not b && free mark xs ≡ true → (free mark xs ≡ true → ended_by mark (xs ++ mark ∷ ys) ≡ xs ∷ ended_by mark ys)
        → cond b ([] ∷ ended_by mark (xs ++ mark ∷ ys)) (put_in_front x (ended_by mark (xs ++ mark ∷ ys))) ≡ (x ∷ xs) ∷ ended_by mark ys
    by true g rest = absurd (true≢false (sym g))
    by false g rest = ap (put_in_front x) (rest g)

-- Lists that are gone through from the front.
use Rattle.std.proofs.Common.{◌≡◌, ◌∙◌, refl, sym, ap, ap₂, arith, suc, ◌-◌, ◌≤◌, Bool, true, false, ◌&&◌, cond, List, [], ◌∷◌, Some, length, take, drop, get_or, map}
use Rattle.std.specs.Prelude.{find}
use Rattle.std.specs.List.{list_all}
use Rattle.std.proofs.Math.Seq.{take-length}

-- what is left after the first
abbrev pub later : {A : Type 0} → List A → List A
later xs = take (length xs - 1) (drop 1 xs)

pub first_and_later : {A : Type 0} (xs : List A) (x : A) → 1 ≤ length xs → x ≡ get_or xs 0 x → xs ≡ x ∷ later xs
first_and_later [] x h e = absurd (omega (arith, h))
first_and_later (y ∷ ys) x h e =
    let k : suc (length ys) - 1 ≡ length ys = omega arith in
    ap₂ (λ a b. a ∷ b) (sym e) (sym (ap (λ n. take n ys) k ∙ take-length ys))

-- the first doesn't pass
pub find_next : {A : Type 0} (p : A → Bool) (xs : List A) (x : A) → 1 ≤ length xs → x ≡ get_or xs 0 x → p x ≡ false → find p (later xs) ≡ find p xs
find_next p xs x h i e = sym (ap (find p) (first_and_later xs x h i) ∙ ap (λ b. cond b (Some x) (find p (later xs))) e)

module _ {A B : Type 0} (f : A → B) where
  pub mapped : (xs : List A) (x : A) → 1 ≤ length xs → x ≡ get_or xs 0 x → map f xs ≡ f x ∷ map f (later xs)
  mapped xs x h i = ap (map f) (first_and_later xs x h i)

  pub find_later : (p : B → Bool) (xs : List A) (x : A) → 1 ≤ length xs → x ≡ get_or xs 0 x → p (f x) ≡ false → find p (map f (later xs)) ≡ find p (map f xs)
  find_later p xs x h i e = sym (ap (find p) (mapped xs x h i) ∙ ap (λ b. cond b (Some (f x)) (find p (map f (later xs)))) e)

  pub find_first : (p : B → Bool) (xs : List A) (x : A) → 1 ≤ length xs → x ≡ get_or xs 0 x → p (f x) ≡ true → Some (f x) ≡ find p (map f xs)
  find_first p xs x h i e = sym (ap (find p) (mapped xs x h i) ∙ ap (λ b. cond b (Some (f x)) (find p (map f (later xs)))) e)

  left_of : (a b : Bool) → a && b ≡ true → a ≡ true
  left_of true b h = refl
  left_of false b h = h

  right_of : (a b : Bool) → a && b ≡ true → b ≡ true
  right_of true b h = h
  right_of false true h = refl
  right_of false false h = h

  pub all_first : (q : B → Bool) (xs : List A) (x : A) → 1 ≤ length xs → x ≡ get_or xs 0 x → list_all q (map f xs) ≡ true → q (f x) ≡ true
  all_first q xs x h i e = left_of (q (f x)) (list_all q (map f (later xs))) (sym (ap (list_all q) (mapped xs x h i)) ∙ e)

  pub all_later : (q : B → Bool) (xs : List A) (x : A) → 1 ≤ length xs → x ≡ get_or xs 0 x → list_all q (map f xs) ≡ true → list_all q (map f (later xs)) ≡ true
  all_later q xs x h i e = right_of (q (f x)) (list_all q (map f (later xs))) (sym (ap (list_all q) (mapped xs x h i)) ∙ e)

  pub all_mapped : (t : B → Bool) (xs : List A) → list_all (λ x. t (f x)) xs ≡ list_all t (map f xs)
  all_mapped t [] = refl
  all_mapped t (x ∷ xs) = ap (λ b. t (f x) && b) (all_mapped t xs)

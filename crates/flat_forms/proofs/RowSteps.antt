-- Rows that are made one thing after another.
use Rattle.std.proofs.Common.{◌≡◌, ℕ, zero, suc, ◌+◌, ◌<◌, sym, ap, ap₂, ◌∙◌, subst, Bool, true, List, [], ◌∷◌, ◌++◌, map, take, length, get_or, arith}
use Rattle.std.specs.List.{list_all, range_with_len}
use Rattle.std.proofs.lemmas.List.{append_assoc, map-append, take_more}
use Rattle.box_eval.specs.declared.rule.Rule.{Rule}
use Rattle.box_eval.specs.FlatRules.{FlatRule, flat_rule}
use Rattle.slot_ends.proofs.of_field_flatten.Tests.{left_of, right_of}

-- what holds of all holds of each
pub item_of : {A B : Type 0} (see : A → B) (p : B → Bool) (xs : List A) (i : ℕ) (x : A) → i < length xs → x ≡ get_or xs i x → list_all p (map see xs) ≡ true → p (see x) ≡ true
item_of see p [] i x less is h = absurd (omega (arith, less))
item_of see p (y ∷ ys) zero x less is h = subst (λ z. p (see z) ≡ true) (sym is) (left_of (p (see y)) (list_all p (map see ys)) h)
item_of see p (y ∷ ys) (suc i) x less is h = item_of see p ys i x (omega (arith, less)) is (right_of (p (see y)) (list_all p (map see ys)) h)

-- the rules of one thing more
pub rule_more : {A : Type 0} (f : A → FlatRule) (xs : List A) (i : ℕ) (x : A) (old now new : List Rule) (rule : Rule) → i < length xs → x ≡ get_or xs i x
    → map flat_rule now ≡ map flat_rule old ++ map f (take i xs) → new ≡ now ++ rule ∷ [] → flat_rule rule ≡ f x → map flat_rule new ≡ map flat_rule old ++ map f (take (i + 1) xs)
rule_more f xs i x old now new rule less at is pushed made =
    ap (map flat_rule) pushed ∙ map-append flat_rule now (rule ∷ []) ∙ ap₂ (λ rs r. rs ++ r ∷ []) is made
    ∙ append_assoc (map flat_rule old) (map f (take i xs)) (f x ∷ [])
    ∙ ap (λ rs. map flat_rule old ++ rs) (sym (ap (map f) (take_more xs i x less ∙ ap (λ y. take i xs ++ y ∷ []) (sym at)) ∙ map-append f (take i xs) (x ∷ [])))

-- up to one tick more
module _ {X : Type 0} (f : ℕ → X) where
  tick_more : (a n j : ℕ) → a + n ≡ j → map f (range_with_len a (suc n)) ≡ map f (range_with_len a n) ++ f j ∷ []
  tick_more a zero j is = ap (λ m. f m ∷ []) (omega (arith, is))
  tick_more a (suc n) j is = ap (λ xs. f a ∷ xs) (tick_more (a + 1) n j (omega (arith, is)))

  to_tick : (t : ℕ) → map f (range_with_len 0 (t + 1)) ≡ map f (range_with_len 0 t) ++ f t ∷ []
  to_tick t =
      let e : t + 1 ≡ suc t = omega arith in
      let z : 0 + t ≡ t = omega arith in
      ap (λ n. map f (range_with_len 0 n)) e ∙ tick_more 0 t t z

  -- what a tick more gives
  pub at_tick : (old now new : List X) (t : ℕ) (x : X) → now ≡ old ++ map f (range_with_len 0 t) → new ≡ now ++ x ∷ [] → x ≡ f t → new ≡ old ++ map f (range_with_len 0 (t + 1))
  at_tick old now new t x is pushed made =
      pushed ∙ ap₂ (λ xs y. xs ++ y ∷ []) is made ∙ append_assoc old (map f (range_with_len 0 t)) (f t ∷ []) ∙ ap (λ xs. old ++ xs) (sym (to_tick t))

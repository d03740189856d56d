-- Lists of codes, and the first tokens that have them.
use Rattle.std.proofs.Common.{◌≡◌, ◌⊎◌, ℕ, List, [], ◌∷◌, ◌++◌, Bool, true, false, refl, sym, ◌∙◌, inl, inr, ◌||◌, ◌&&◌, eqb, not, arith}
use Rattle.std.proofs.lemmas.Bool.{eqb-true, false≢true}
use Rattle.dsl_tree.specs.declared.token.Token.{Token}
use Rattle.dsl_tree.specs.Codes.{code, has}
use Rattle.dsl_tree.specs.Lookahead.{subset, apart}
use Rattle.dsl_tree.specs.Reading.{starts, Starts, Stops}

pub two_ways : (b : Bool) → (b ≡ true) ⊎ (b ≡ false)
two_ways true = inl refl
two_ways false = inr refl

-- a Bool that is both
pub both_ways : {G : Type 0} (b : Bool) → b ≡ true → b ≡ false → G
both_ways b t f = absurd (false≢true (sym f ∙ t))

pub not_true : (b : Bool) → not b ≡ true → b ≡ false
not_true b h = grind arith

-- a Bool of which truth can't be is false
pub is_false : (b : Bool) → (b ≡ true → ⊥) → b ≡ false
is_false true h = absurd (h refl)
is_false false h = refl

pub or_left : (a b : Bool) → a ≡ true → (a || b) ≡ true
or_left a b h = grind arith

pub or_right : (a b : Bool) → b ≡ true → (a || b) ≡ true
or_right a b h = grind arith

pub and_both : (a b : Bool) → a ≡ true → b ≡ true → (a && b) ≡ true
and_both a b h k = grind arith

-- from `not a || b`
pub implied : (a b : Bool) → (not a || b) ≡ true → a ≡ true → b ≡ true
implied a b h e = grind arith

pub has-subset : (xs ys : List ℕ) (k : ℕ) → subset xs ys ≡ true → has xs k ≡ true → has ys k ≡ true
has-subset [] ys k s h = absurd (false≢true h)
has-subset (x ∷ xs) ys k s h =
    grind (arith, has-subset xs ys k, eqb-true x k)

pub has-apart : (xs ys : List ℕ) (k : ℕ) → apart xs ys ≡ true → has xs k ≡ true → has ys k ≡ false
has-apart [] ys k s h = absurd (false≢true h)
has-apart (x ∷ xs) ys k s h =
    grind (arith, has-apart xs ys k, eqb-true x k)

pub has-append_left : (xs ys : List ℕ) (k : ℕ) → has xs k ≡ true → has (xs ++ ys) k ≡ true
has-append_left [] ys k h = absurd (false≢true h)
has-append_left (x ∷ xs) ys k h =
    grind (arith, has-append_left xs ys k)

pub has-append_right : (xs ys : List ℕ) (k : ℕ) → has ys k ≡ true → has (xs ++ ys) k ≡ true
has-append_right [] ys k h = h
has-append_right (x ∷ xs) ys k h = or_right (eqb x k) (has (xs ++ ys) k) (has-append_right xs ys k h)

-- The first token

pub starts-cons : (cs : List ℕ) (t : Token) (ts : List Token) → starts cs (t ∷ ts) ≡ has cs (code t.kind)
starts-cons [] t ts = refl
starts-cons (c ∷ cs) t ts = refl

pub starts-nil : (cs : List ℕ) → starts cs [] ≡ false
starts-nil [] = refl
starts-nil (c ∷ cs) = refl

pub Starts-subset : (xs ys : List ℕ) (ts : List Token) → subset xs ys ≡ true → Starts xs ts → Starts ys ts
Starts-subset xs ys [] s h = both_ways (starts xs []) h (starts-nil xs)
Starts-subset xs ys (t ∷ ts) s h = starts-cons ys t ts ∙ has-subset xs ys (code t.kind) s (sym (starts-cons xs t ts) ∙ h)

pub Stops-subset : (xs ys : List ℕ) (ts : List Token) → subset xs ys ≡ true → Stops ys ts → Stops xs ts
Stops-subset xs ys ts s h = is_false (starts xs ts) (λ e. both_ways (starts ys ts) (Starts-subset xs ys ts s e) h)

pub Stops-apart : (xs ys : List ℕ) (ts : List Token) → apart xs ys ≡ true → Starts xs ts → Stops ys ts
Stops-apart xs ys [] s h = starts-nil ys
Stops-apart xs ys (t ∷ ts) s h = starts-cons ys t ts ∙ has-apart xs ys (code t.kind) s (sym (starts-cons xs t ts) ∙ h)

pub Starts-append_left : (xs ys : List ℕ) (ts : List Token) → Starts xs ts → Starts (xs ++ ys) ts
Starts-append_left xs ys [] h = both_ways (starts xs []) h (starts-nil xs)
Starts-append_left xs ys (t ∷ ts) h = starts-cons (xs ++ ys) t ts ∙ has-append_left xs ys (code t.kind) (sym (starts-cons xs t ts) ∙ h)

pub Starts-append_right : (xs ys : List ℕ) (ts : List Token) → Starts ys ts → Starts (xs ++ ys) ts
Starts-append_right xs ys [] h = both_ways (starts ys []) h (starts-nil ys)
Starts-append_right xs ys (t ∷ ts) h = starts-cons (xs ++ ys) t ts ∙ has-append_right xs ys (code t.kind) (sym (starts-cons ys t ts) ∙ h)

pub Stops-left : (xs ys : List ℕ) (ts : List Token) → Stops (xs ++ ys) ts → Stops xs ts
Stops-left xs ys ts h = is_false (starts xs ts) (λ e. both_ways (starts (xs ++ ys) ts) (Starts-append_left xs ys ts e) h)

pub Stops-right : (xs ys : List ℕ) (ts : List Token) → Stops (xs ++ ys) ts → Stops ys ts
Stops-right xs ys ts h = is_false (starts ys ts) (λ e. both_ways (starts (xs ++ ys) ts) (Starts-append_right xs ys ts e) h)

-- The first fault of a list of rows is the least of the faults that are there.
use Rattle.std.proofs.Common.{ℕ, ◌≡◌, ◌∙◌, refl, sym, ◌⊎◌, inl, inr, Bool, true, false, cond, List, [], ◌∷◌, ◌++◌, Option, Some, None, arith, true≢false, subst}
use Rattle.std.proofs.lemmas.Bool.Decides.{nat_tests}
use Rattle.osc_base.specs.declared.fault.FaultCode.{FaultCode}
use Rattle.osc_base.specs.declared.fault.Fault.{Fault}
use Rattle.osc_base.specs.FaultRows.{IsNoLater, FaultRow, IsFault, Precedes, IsFirst, is_before, first_of, row_fault, first_from, first_fault}
use Rattle.osc_base.proofs.FaultCodes.{same_code}

pub first_from_joined : (first : Option Fault) (rs ss : List FaultRow) → first_from first (rs ++ ss) ≡ first_from (first_from first rs) ss
first_from_joined first [] ss = refl
first_from_joined first (r ∷ rs) ss = first_from_joined (first_of first (row_fault r)) rs ss

pub before_precedes : (f g : Fault) → is_before f g ≡ true → Precedes f g
before_precedes f g h = grind (arith, nat_tests)

pub not_before : (f g : Fault) → is_before g f ≡ false → Precedes f g
not_before f g h = grind (arith, nat_tests)

pub follows : (f g h : Fault) → Precedes f g → Precedes g h → Precedes f h
follows f g h p q = grind arith

pub same_set : (P Q : Fault → Type 0) → ((f : Fault) → P f → Q f) → ((f : Fault) → Q f → P f) → (o : Option Fault) → IsFirst P o → IsFirst Q o
same_set P Q to from None h = λ f q. h f (from f q)
same_set P Q to from (Some f) h = (to f h.0, λ g q. h.1 g (from g q))

pub union : (P Q : Fault → Type 0) (a b : Option Fault) → IsFirst P a → IsFirst Q b → IsFirst (λ f. P f ⊎ Q f) (first_of a b)
union P Q None None p q = λ f h. elim h [ inl x ↦ p f x | inr y ↦ q f y ]
union P Q None (Some g) p q = (inr q.0, λ f h. elim h [ inl x ↦ absurd (p f x) | inr y ↦ q.1 f y ])
union P Q (Some f) None p q = (inl p.0, λ g h. elim h [ inl x ↦ p.1 g x | inr y ↦ absurd (q g y) ])
union P Q (Some f) (Some g) p q = by (is_before g f) refl
  where
    by : (b : Bool) → is_before g f ≡ b → IsFirst (λ f. P f ⊎ Q f) (cond b (Some g) (Some f))
    by true e = (inr q.0, λ h s. elim s [ inl x ↦ follows g f h (before_precedes g f e) (p.1 h x) | inr y ↦ q.1 h y ])
    by false e = (inl p.0, λ h s. elim s [ inl x ↦ p.1 h x | inr y ↦ follows f g h (not_before f g e) (q.1 h y) ])

pub row_first : (r : FaultRow) → IsFirst (λ f. (r.holds ≡ true) × (f ≡ r.fault)) (row_fault r)
row_first r = by r.holds refl
  where
    precedes_itself : (f : Fault) → Precedes f f
    precedes_itself f = grind arith

    by : (b : Bool) → r.holds ≡ b → IsFirst (λ f. (r.holds ≡ true) × (f ≡ r.fault)) (cond b (Some r.fault) None)
    by true e = ((e, refl), λ g h. subst (Precedes r.fault) (sym h.1) (precedes_itself r.fault))
    by false e = λ f h. true≢false (sym h.0 ∙ e)

pub first_from_is : (P : Fault → Type 0) (first : Option Fault) (rs : List FaultRow) → IsFirst P first → IsFirst (λ f. P f ⊎ IsFault rs f) (first_from first rs)
first_from_is P first [] h = same_set P (λ f. P f ⊎ ⊥) (λ f x. inl x) (λ f s. elim s [ inl x ↦ x | inr y ↦ absurd y ]) first h
first_from_is P first (r ∷ rs) h =
    let Here : Fault → Type 0 = λ f. (r.holds ≡ true) × (f ≡ r.fault) in
    same_set (λ f. (P f ⊎ Here f) ⊎ IsFault rs f) (λ f. P f ⊎ (Here f ⊎ IsFault rs f))
    (λ f s. elim s [ inl x ↦ elim x [ inl p ↦ inl p | inr q ↦ inr (inl q) ] | inr y ↦ inr (inr y) ])
    (λ f s. elim s [ inl p ↦ inl (inl p) | inr x ↦ elim x [ inl q ↦ inl (inr q) | inr y ↦ inr y ] ])
    (first_from (first_of first (row_fault r)) rs)
    (first_from_is (λ f. P f ⊎ Here f) (first_of first (row_fault r)) rs (union P Here first (row_fault r) h (row_first r)))

pub is_first : (rs : List FaultRow) → IsFirst (IsFault rs) (first_fault rs)
is_first rs = same_set (λ f. ⊥ ⊎ IsFault rs f) (IsFault rs) (λ f s. elim s [ inl x ↦ absurd x | inr y ↦ y ]) (λ f y. inr y) (first_fault rs) (first_from_is (λ f. ⊥) None rs (λ f h. h))

-- two faults of one file, neither of which is later, have equal places and equal codes
pub both_no_later : (n m : ℕ) (code other : FaultCode) → IsNoLater n code m other → IsNoLater m other n code → (n ≡ m) × (code ≡ other)
both_no_later n m code other (inl h) (inl k) = absurd (omega arith)
both_no_later n m code other (inl h) (inr (e, k)) = absurd (omega arith)
both_no_later n m code other (inr (e, h)) (inl k) = absurd (omega arith)
both_no_later n m code other (inr (e, h)) (inr (f, k)) = (e, same_code code other (omega arith))

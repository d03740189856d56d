-- The faults at the start of a token, as a list in the order of codes: the first that is there has the least code. No
-- lemma tells how many they are, so a further one needs none.
use Rattle.std.proofs.Common.{◌≡◌, ℕ, ◌≤◌, Bool, true, false, cond, ◌&&◌, inl, inr, Some, None, List, [], ◌∷◌, refl, ap, sym, ◌∙◌, arith}
use Rattle.std.specs.Prelude.{nat_le}
use Rattle.std.proofs.lemmas.Bool.{and_parts, leb-true, false≢true}
use Rattle.osc_base.specs.declared.fault.FaultCode.{FaultCode}
use Rattle.osc_base.specs.FaultCodes.{number_of}
use Rattle.dsl_lexer.specs.SourceTokens.{Lexeme, TokenFault, token_faults, IsThere}
use Rattle.dsl_lexer.specs.Steps.{first_code}

-- no code is less than one before it, or than n
abbrev climbs : ℕ → List TokenFault → Bool
climbs n [] = true
climbs n ((code, test) ∷ more) = nat_le n (number_of code) && climbs (number_of code) more

-- the codes of the table climb, and come after `Indent`
in_order : climbs (number_of FaultCode.Indent) token_faults ≡ true
in_order = refl

no_less : (n : ℕ) (rows : List TokenFault) (x : Lexeme) (code : FaultCode) → climbs n rows ≡ true → IsThere rows x code → n ≤ number_of code
no_less n [] x code up there = absurd there
no_less n ((own, test) ∷ more) x code up (inl (e, holds)) =
    let parts = and_parts (nat_le n (number_of own)) (climbs (number_of own) more) up in
    rw e (leb-true n (number_of own) parts.0)
no_less n ((own, test) ∷ more) x code up (inr there) =
    let parts = and_parts (nat_le n (number_of own)) (climbs (number_of own) more) up in
    let low = leb-true n (number_of own) parts.0 in
    let far = no_less (number_of own) more x code parts.1 there in
    omega arith

-- a fault with the least code of those that are there
pub record IsLeast (rows : List TokenFault) (x : Lexeme) (code : FaultCode) : Type 0 where
  pub there : IsThere rows x code
  pub least : (other : FaultCode) → IsThere rows x other → number_of code ≤ number_of other

same_some : (a b : FaultCode) → Some a ≡ Some b → b ≡ a
same_some a b e = cc

module _ (own : FaultCode) (test : Lexeme → Bool) (more : List TokenFault) (x : Lexeme) where
  own_least : climbs (number_of own) more ≡ true → (other : FaultCode) → IsThere ((own, test) ∷ more) x other → number_of own ≤ number_of other
  own_least up other (inl (e, holds)) = let same : number_of other ≡ number_of own = ap number_of e in omega arith
  own_least up other (inr there) = no_less (number_of own) more x other up there

  later_least : (code : FaultCode) → test x ≡ false → IsLeast more x code → (other : FaultCode) → IsThere ((own, test) ∷ more) x other → number_of code ≤ number_of other
  later_least code off later other (inl (e, holds)) = absurd (false≢true (sym off ∙ holds))
  later_least code off later other (inr there) = later.least other there

  row_least : (code : FaultCode) (t : Bool) → test x ≡ t → climbs (number_of own) more ≡ true → (first_code more x ≡ Some code → IsLeast more x code)
      → cond t (Some own) (first_code more x) ≡ Some code → IsLeast ((own, test) ∷ more) x code
  row_least code true e up later f = let same = same_some own code f in record { there = inl (same, e); least = rw same (own_least up) }
  row_least code false e up later f = let first = later f in record { there = inr first.there; least = later_least code e first }

  row_none : (code : FaultCode) (t : Bool) → test x ≡ t → (first_code more x ≡ None → IsThere more x code → ⊥) → cond t (Some own) (first_code more x) ≡ None → IsThere ((own, test) ∷ more) x code → ⊥
  row_none code true e later f there = absurd (cc)
  row_none code false e later f (inl (same, holds)) = false≢true (sym e ∙ holds)
  row_none code false e later f (inr there) = later f there

first_least : (n : ℕ) (rows : List TokenFault) (x : Lexeme) (code : FaultCode) → climbs n rows ≡ true → first_code rows x ≡ Some code → IsLeast rows x code
first_least n [] x code up e = absurd (cc)
first_least n ((own, test) ∷ more) x code up e =
    let parts = and_parts (nat_le n (number_of own)) (climbs (number_of own) more) up in
    row_least own test more x code (test x) refl parts.1 (λ f. first_least (number_of own) more x code parts.1 f) e

none_there : (rows : List TokenFault) (x : Lexeme) (code : FaultCode) → first_code rows x ≡ None → IsThere rows x code → ⊥
none_there [] x code e there = absurd there
none_there ((own, test) ∷ more) x code e there = row_none own test more x code (test x) refl (λ f h. none_there more x code f h) e there

-- the table

pub after_indent : (x : Lexeme) (code : FaultCode) → IsThere token_faults x code → number_of FaultCode.Indent ≤ number_of code
after_indent x code there = no_less (number_of FaultCode.Indent) token_faults x code in_order there

pub least_fault : (x : Lexeme) (code : FaultCode) → first_code token_faults x ≡ Some code → IsLeast token_faults x code
least_fault x code e = first_least (number_of FaultCode.Indent) token_faults x code in_order e

pub no_fault : (x : Lexeme) (code : FaultCode) → first_code token_faults x ≡ None → IsThere token_faults x code → ⊥
no_fault x code e there = none_there token_faults x code e there

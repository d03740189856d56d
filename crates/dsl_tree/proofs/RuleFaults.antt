-- How a fault in a rule of a part becomes one of the part.
use Rattle.std.proofs.Common.{◌≡◌, ℕ, List, [], ◌∷◌, ◌++◌, Bool, true, false, refl, sym, ◌∙◌, subst, inl, inr, ⊎_elim, ◌&&◌}
use Rattle.dsl_tree.specs.declared.token.Token.{Token}
use Rattle.dsl_tree.specs.Grammar.{Part, Symbol, rules}
use Rattle.dsl_tree.specs.Forest.{Forest, Spells, AnyRule, Follows, IsOf}
use Rattle.dsl_tree.specs.Lookahead.{first, empty, goes_on, firsts, stops, apart}
use Rattle.dsl_tree.specs.Reading.{starts, Starts, Stops, void, NotTaken, PartFault, RowFault}
use Rattle.dsl_tree.proofs.Tests.{left_of, right_of}
use Rattle.dsl_tree.proofs.Sets.{both_ways, Starts-subset, Stops-subset, Stops-apart}
use Rattle.dsl_tree.proofs.Fits.{Fit, by_rules, any_map, first_goes_on}
use Rattle.dsl_tree.proofs.Begins.{void_spells, void_part, begins, begins_part}
use Rattle.dsl_tree.proofs.Shortest.{example, is_example, tokens, example_spells}
use Rattle.dsl_tree.proofs.Faults.{Dead, part_fault, of_row, at_once, moved, begin_alike}

-- the rule is one of the part's
abbrev pub RuleOf : Part → List Symbol → Type 0
RuleOf p r = AnyRule (rules p) (λ s. s ≡ r)

fit_of : (p : Part) (r : List Symbol) → RuleOf p r → Fit p r
fit_of p r rule = by_rules p (λ s. s ≡ r) (Fit p r) rule (λ s fit e. subst (Fit p) e fit)

pub is_by : (p : Part) (r : List Symbol) (f : Forest) → RuleOf p r → Follows f r → IsOf p f
is_by p r f rule does = any_map (rules p) (λ s. s ≡ r) (Follows f) (λ s e. subst (Follows f) (sym e) does) rule

-- the rules begin with different tokens
abbrev apart_from : List Symbol → List (List Symbol) → Bool
apart_from r [] = true
apart_from r (s ∷ ss) = apart (firsts r) (firsts s) && apart_from r ss

abbrev pub all_apart : List (List Symbol) → Bool
all_apart [] = true
all_apart (r ∷ rs) = apart_from r rs && all_apart rs

-- of rules that begin with different tokens one at most begins as some tokens do
none_begins : (r : List Symbol) (rs : List (List Symbol)) (P : List Symbol → Type 0) (ts : List Token) → apart_from r rs ≡ true → Starts (firsts r) ts → AnyRule rs (λ s. P s × Starts (firsts s) ts) → ⊥
none_begins r [] P ts h start any = any
none_begins r (s ∷ ss) P ts h start (inl (does, b)) = both_ways (starts (firsts s) ts) b (Stops-apart (firsts r) (firsts s) ts (left_of (apart (firsts r) (firsts s)) (apart_from r ss) h) start)
none_begins r (s ∷ ss) P ts h start (inr any) = none_begins r ss P ts (right_of (apart (firsts r) (firsts s)) (apart_from r ss) h) start any

one_begins : (rs : List (List Symbol)) (P Q : List Symbol → Type 0) (G : Type 0) (ts : List Token) → all_apart rs ≡ true
    → AnyRule rs (λ s. P s × Starts (firsts s) ts) → AnyRule rs (λ s. Q s × Starts (firsts s) ts) → ((s : List Symbol) → P s → Q s → G) → G
one_begins [] P Q G ts h any other go = absurd any
one_begins (r ∷ rs) P Q G ts h (inl (does, b)) (inl (does', b')) go = go r does does'
one_begins (r ∷ rs) P Q G ts h (inl (does, b)) (inr other) go = absurd (none_begins r rs Q ts (left_of (apart_from r rs) (all_apart rs) h) b other)
one_begins (r ∷ rs) P Q G ts h (inr any) (inl (does', b')) go = absurd (none_begins r rs P ts (left_of (apart_from r rs) (all_apart rs) h) b' any)
one_begins (r ∷ rs) P Q G ts h (inr any) (inr other) go = one_begins rs P Q G ts (right_of (apart_from r rs) (all_apart rs) h) any other go

-- tokens that begin a part don't stand after a void forest of it
not_void : (p : Part) (f : Forest) (ts z : List Token) → IsOf p f → Spells f ts z → Stops (goes_on p) z → Starts (first p) ts → void f ≡ true → ⊥
not_void p f ts z is s stop start v =
    both_ways (starts (first p) z) (subst (Starts (first p)) (void_spells f ts z v s) start) (Stops-subset (first p) (goes_on p) z (first_goes_on p (void_part p f is v)) stop)

-- a rule by which each forest of the part goes that is spelled by the tokens to the fault
pub by_this : (p : Part) (r : List Symbol) (ts : List Token) (left : ℕ) → RuleOf p r → RowFault r ts left
    → ((front : List Token) (t : Token) (back others : List Token) → ts ≡ front ++ t ∷ back → ((us : List Token) → Dead (λ f. Follows f r) (stops r) (front ++ t ∷ us))
    → (f : Forest) (z : List Token) → IsOf p f → Stops (goes_on p) z → Spells f (front ++ t ∷ others) z → Follows f r) → PartFault p ts left
by_this p r ts left rule fault only = part_fault (moved [] refl (of_row fault) (λ front back g does s. (g, back, is_by p r g rule does, s))
    (λ front t back others e dead f z is stop s. dead others f z (only front t back others e dead f z is stop s) (Stops-subset (stops r) (goes_on p) z (fit_of p r rule).ends stop) s))

-- the rule that begins as the tokens do, if one token tells the rules apart
pub by_rule : (p : Part) (r : List Symbol) (ts : List Token) (left : ℕ) → RuleOf p r → all_apart (rules p) ≡ true → Starts (firsts r) ts → RowFault r ts left → PartFault p ts left
by_rule p r ts left rule tells start fault = by_this p r ts left rule fault λ front t back others e dead f z is stop s.
    let us : List Token = front ++ t ∷ others in
    let begun : Starts (firsts r) us = sym (begin_alike (firsts r) ts front t back others e) ∙ start in
    one_begins (rules p) (λ s. s ≡ r) (Follows f) (Follows f r) us tells
    (any_map (rules p) (λ s. s ≡ r) (λ s. (s ≡ r) × Starts (firsts s) us) (λ s q. (q, subst (λ (v : List Symbol). Starts (firsts v) us) (sym q) begun)) rule)
    (any_map (rules p) (Follows f) (λ s. Follows f s × Starts (firsts s) us)
    (λ s' does. ⊎_elim (λ v. absurd (not_void p f us z is s stop (Starts-subset (firsts r) (first p) us (fit_of p r rule).begins begun) v)) (λ (v, b). (does, b)) (begins f s' us z does s)) is)
    (λ s q does. subst (Follows f) q does)

-- the only rule
pub by_only : (p : Part) (r : List Symbol) (ts : List Token) (left : ℕ) → rules p ≡ r ∷ [] → RowFault r ts left → PartFault p ts left
by_only p r ts left only fault =
    by_this p r ts left (subst (λ (rs : List (List Symbol)). AnyRule rs (λ s. s ≡ r)) (sym only) (inl refl)) fault
    (λ front t back others e dead f z is stop s. ⊎_elim (λ does. does) (λ none. absurd none) (subst (λ (rs : List (List Symbol)). AnyRule rs (Follows f)) only is))

-- no rule begins as the tokens do
pub no_rule : (p : Part) (ts : List Token) (left : ℕ) → empty p ≡ false → NotTaken (first p) ts left → PartFault p ts left
no_rule p ts left blank n =
    part_fault (at_once (first p) n (example p) (tokens (example p)) (is_example p) (example_spells p)
    (λ f us z is stop s. ⊎_elim (λ v. both_ways (empty p) (void_part p f is v) blank) (λ (v, b). b) (begins_part p f us z is s)))

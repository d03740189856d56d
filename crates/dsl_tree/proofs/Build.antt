-- What readers build: forests of rules from their parts, and of parts from their rules.
use Rattle.std.proofs.Common.{◌≡◌, ℕ, List, [], ◌∷◌, Bool, true, false, cond, refl, sym, subst}
use Rattle.dsl_tree.specs.declared.token.Token.{Token}
use Rattle.dsl_tree.specs.Grammar.{Part, Symbol, rules, Seen, Bare, Of}
use Rattle.dsl_tree.specs.Forest.{Forest, nil, seen, bare, sub, Spells, AnyRule}
use Rattle.dsl_tree.specs.Lookahead.{first}
use Rattle.dsl_tree.specs.Reading.{Stops, void, Whole, Parsed, Built, Taken}
use Rattle.dsl_tree.proofs.Sets.{starts-nil}
use Rattle.dsl_tree.proofs.Fits.{any_map}
use Rattle.dsl_tree.proofs.Begins.{void_spells}
use Rattle.dsl_tree.proofs.Law.{whole_before}
use Rattle.dsl_tree.proofs.RuleFaults.{RuleOf}

pub built_none : (ts : List Token) → Built [] nil ts ts
built_none ts = record { whole = tt; spells = refl }

pub built_seen : (codes : List ℕ) (ss : List Symbol) (f : Forest) (ts : List Token) (t : Token) (us rest : List Token) → Taken codes ts t us → Built ss f us rest → Built (Seen codes ∷ ss) (seen t.place t.kind f) ts rest
built_seen codes ss f ts t us rest taken built = record { whole = (taken.fits, built.whole); spells = subst (λ (v : List Token). Spells (seen t.place t.kind f) v rest) (sym taken.split) (refl, refl, built.spells) }

pub built_bare : (codes : List ℕ) (ss : List Symbol) (f : Forest) (ts : List Token) (t : Token) (us rest : List Token) → Taken codes ts t us → Built ss f us rest → Built (Bare codes ∷ ss) (bare t.kind f) ts rest
built_bare codes ss f ts t us rest taken built = record { whole = (taken.fits, built.whole); spells = subst (λ (v : List Token). Spells (bare t.kind f) v rest) (sym taken.split) (refl, built.spells) }

pub built_part : (p : Part) (ss : List Symbol) (a g : Forest) (ts m rest : List Token) → Parsed p a ts m → Built ss g m rest → Built (Of p ∷ ss) (sub a g) ts rest
built_part p ss a g ts m rest parsed built = record { whole = (go (void g) refl, stops (void g) refl, built.whole); spells = (m, parsed.spells, built.spells) }
  where
    go : (v : Bool) → void g ≡ v → AnyRule (rules p) (λ r. Whole a r (cond v rest []))
    go true e = subst (λ (y : List Token). AnyRule (rules p) (λ r. Whole a r y)) (void_spells g m rest e built.spells) parsed.whole
    go false e = any_map (rules p) (λ r. Whole a r m) (λ r. Whole a r []) (λ r does. whole_before a r m [] (λ cs s. starts-nil cs) does) parsed.whole

    stops : (v : Bool) → void g ≡ v → Stops (cond (void a) (first p) []) (cond v rest [])
    stops true e = subst (Stops (cond (void a) (first p) [])) (void_spells g m rest e built.spells) parsed.stop
    stops false e = starts-nil (cond (void a) (first p) [])

pub parsed : (p : Part) (r : List Symbol) (f : Forest) (ts rest : List Token) → RuleOf p r → Built r f ts rest → Stops (cond (void f) (first p) []) rest → Parsed p f ts rest
parsed p r f ts rest rule built stop = record {
  whole = any_map (rules p) (λ s. s ≡ r) (λ s. Whole f s rest) (λ s e. subst (λ (v : List Symbol). Whole f v rest) (sym e) built.whole) rule;
  stop = stop;
  spells = built.spells;
}

-- a part that isn't void
pub parsed_full : (p : Part) (r : List Symbol) (f : Forest) (ts rest : List Token) → RuleOf p r → void f ≡ false → Built r f ts rest → Parsed p f ts rest
parsed_full p r f ts rest rule e built = parsed p r f ts rest rule built (subst (λ (v : Bool). Stops (cond v (first p) []) rest) (sym e) refl)

-- a part that is left out
pub parsed_none : (p : Part) (ts : List Token) → RuleOf p [] → Stops (first p) ts → Parsed p nil ts ts
parsed_none p ts rule stop = parsed p [] nil ts ts rule (built_none ts) stop

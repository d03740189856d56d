-- A token with which no rule of a part begins.
use Rattle.std.proofs.Common.{◌≡◌, ℕ, List, [], ◌∷◌, ◌++◌, length, Bool, true, false, cond, refl, sym, ◌∙◌, ap, subst, ◌&&◌, Err}
use Rattle.std.proofs.lemmas.Bool.{false≢true}
use Rattle.dsl_cursor.specs.Words.{Stop, At, Token, code, has, Part, Symbol, Seen, Bare, Of, rules, seen, bare, first, firsts, subset, Stops, Outcome, onto, take, after, in_row, by_rules, read}
use Rattle.dsl_expressions.specs.Words.{bracket_codes, truth_codes, value_codes}
use Rattle.dsl_tree.proofs.{Tests.left_of, Tests.right_of, Sets.starts-cons, Sets.Stops-subset}
use Rattle.dsl_cursor.proofs.{OtherRules.stops_both, ReadParts.Took, ReadParts.took, ReadSteps.read_step}

-- a rule that begins with a token of one of these codes
abbrev begins_within : List ℕ → List Symbol → Bool
begins_within codes [] = false
begins_within codes (Seen own ∷ ss) = subset own codes
begins_within codes (Bare own ∷ ss) = subset own codes
begins_within codes (Of p ∷ ss) = false

-- all rules begin with such tokens, and the last one with no part
abbrev all_within : List ℕ → List (List Symbol) → Bool
all_within codes [] = false
all_within codes (r ∷ []) = begins_within codes r
all_within codes (r ∷ s ∷ rs) = subset (firsts r) codes && all_within codes (s ∷ rs)

take_none : (own codes : List ℕ) (t : Token) (ts : List Token) → subset own codes ≡ true → Stops codes (t ∷ ts) → take own (t ∷ ts) ≡ Err (At (length (t ∷ ts)))
unfolding take
take_none own codes t ts within stop = ap (λ (b : Bool). cond b (took t ts) (Err (At (length (t ∷ ts))))) (sym (starts-cons own t ts) ∙ Stops-subset own codes (t ∷ ts) within stop)

row_none : (R : Part → List Token → Outcome) (codes : List ℕ) (r : List Symbol) (t : Token) (ts : List Token) → begins_within codes r ≡ true → Stops codes (t ∷ ts) → in_row R r (t ∷ ts) ≡ Err (At (length (t ∷ ts)))
row_none R codes [] t ts within stop = absurd (false≢true within)
row_none R codes (Seen own ∷ ss) t ts within stop = ap (λ (o : Took). after o (λ u m. onto (seen u.place u.kind) (in_row R ss m))) (take_none own codes t ts within stop)
row_none R codes (Bare own ∷ ss) t ts within stop = ap (λ (o : Took). after o (λ u m. onto (bare u.kind) (in_row R ss m))) (take_none own codes t ts within stop)
row_none R codes (Of p ∷ ss) t ts within stop = absurd (false≢true within)

rules_none : (R : Part → List Token → Outcome) (codes : List ℕ) (rs : List (List Symbol)) (t : Token) (ts : List Token) → all_within codes rs ≡ true → Stops codes (t ∷ ts) → by_rules R rs (t ∷ ts) ≡ Err (At (length (t ∷ ts)))
rules_none R codes [] t ts within stop = absurd (false≢true within)
rules_none R codes (r ∷ []) t ts within stop = row_none R codes r t ts within stop
rules_none R codes (r ∷ s ∷ rs) t ts within stop =
    ap (λ (b : Bool). cond b (in_row R r (t ∷ ts)) (by_rules R (s ∷ rs) (t ∷ ts))) (Stops-subset (firsts r) codes (t ∷ ts) (left_of (subset (firsts r) codes) (all_within codes (s ∷ rs)) within) stop)
    ∙ rules_none R codes (s ∷ rs) t ts (right_of (subset (firsts r) codes) (all_within codes (s ∷ rs)) within) stop

-- no operand begins with a token that is neither a value, nor a word that is one, nor a bracket, nor `range`
pub no_operand : (ts : List Token) (t : Token) (rest : List Token) → ts ≡ t ∷ rest → Stops value_codes ts → has truth_codes (code t.kind) ≡ false → Stops bracket_codes ts → read Part.Primary ts ≡ Err (At (length ts))
no_operand ts t rest is value word bracket =
    let truth : Stops truth_codes ts = subst (Stops truth_codes) (sym is) word in
    let stop : Stops (first Part.Primary) ts =
    Stops-subset (first Part.Primary) (value_codes ++ (truth_codes ++ bracket_codes)) ts refl (stops_both value_codes (truth_codes ++ bracket_codes) ts value (stops_both truth_codes bracket_codes ts truth bracket)) in
    read_step Part.Primary ts ∙ subst (λ (v : List Token). by_rules read (rules Part.Primary) v ≡ Err (At (length v))) (sym is) (rules_none read (first Part.Primary) (rules Part.Primary) t rest refl (subst (Stops (first Part.Primary)) is stop))

abbrev pub stopped : Stop ℕ → Outcome
stopped e = Err e

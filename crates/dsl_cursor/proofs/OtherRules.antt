-- A part whose tokens begin with none of its other rules.
use Rattle.std.proofs.Common.{◌≡◌, ◌⊎◌, ℕ, List, [], ◌∷◌, ◌++◌, length, true, false, sym, ◌∙◌, subst, inl, inr, ⊎_elim, eqb}
use Rattle.dsl_cursor.specs.Words.{Token, code, has, Part, Symbol, rules, Follows, first, firsts, empty, empties, subset, starts, Stops, NotTaken, CanBegin, PartFault, RowFault}
use Rattle.dsl_tree.proofs.{Tests.either_of, Sets.two_ways, Sets.both_ways, Sets.is_false, Sets.or_left, Sets.or_right, Sets.starts-nil, Sets.starts-cons, Sets.Stops-subset, Begins.void_empties, Begins.begins, RuleFaults.RuleOf, RuleFaults.all_apart, RuleFaults.by_rule, RuleFaults.no_rule}

-- what stands in two lists together stands in one of them
has_either : (xs ys : List ℕ) (k : ℕ) → has (xs ++ ys) k ≡ true → (has xs k ≡ true) ⊎ (has ys k ≡ true)
has_either [] ys k h = inr h
has_either (x ∷ xs) ys k h =
    ⊎_elim (λ e. inl (or_left (eqb x k) (has xs k) e)) (λ e. ⊎_elim (λ e'. inl (or_right (eqb x k) (has xs k) e')) inr (has_either xs ys k e)) (either_of (eqb x k) (has (xs ++ ys) k) h)

-- tokens that begin with none of two lists
pub stops_both : (xs ys : List ℕ) (ts : List Token) → Stops xs ts → Stops ys ts → Stops (xs ++ ys) ts
stops_both xs ys [] stop stop' = starts-nil (xs ++ ys)
stops_both xs ys (t ∷ ts) stop stop' = starts-cons (xs ++ ys) t ts ∙ is_false (has (xs ++ ys) (code t.kind)) (λ h.
    ⊎_elim (λ e. both_ways (has xs (code t.kind)) e (sym (starts-cons xs t ts) ∙ stop)) (λ e. both_ways (has ys (code t.kind)) e (sym (starts-cons ys t ts) ∙ stop')) (has_either xs ys (code t.kind) h))

-- The tokens begin with none of the other rules of the part: then the fault is that of this rule.
pub by_rest : (p : Part) (r : List Symbol) (others : List ℕ) (ts : List Token) (left : ℕ) → RuleOf p r → all_apart (rules p) ≡ true → empty p ≡ false → empties r ≡ false
    → subset (first p) (firsts r ++ others) ≡ true → Stops others ts → RowFault r ts left → PartFault p ts left
by_rest p r others ts left rule apart blank full within stop fault = ⊎_elim (λ start. by_rule p r ts left rule apart start fault) no_start (two_ways (starts (firsts r) ts))
  where
    none : Stops (firsts r) ts → (front : List Token) (token : Token) (back : List Token) → ts ≡ front ++ token ∷ back → left ≡ length (token ∷ back) → CanBegin (λ f. Follows f r) front → NotTaken (first p) ts left
    none miss [] token back split count viable = record {
      token = token;
      back = back;
      split = split;
      count = count;
      misfits = sym (starts-cons (first p) token back) ∙ subst (Stops (first p)) split (Stops-subset (first p) (firsts r ++ others) ts within (stops_both (firsts r) others ts miss stop));
    }
    none miss (u ∷ us) token back split count viable =
        ⊎_elim (λ v. both_ways (empties r) (void_empties viable.forest r viable.does v) full)
        (λ (v, b). both_ways (has (firsts r) (code u.kind)) (sym (starts-cons (firsts r) u (us ++ viable.back)) ∙ b) (sym (starts-cons (firsts r) u (us ++ token ∷ back)) ∙ subst (Stops (firsts r)) split miss))
        (begins viable.forest r (u ∷ (us ++ viable.back)) [] viable.does viable.spells)

    no_start : Stops (firsts r) ts → PartFault p ts left
    no_start miss = no_rule p ts left blank (none miss fault.front fault.token fault.back fault.split fault.count fault.viable)

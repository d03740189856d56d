-- Every slot that a rule reads is below its bound.
use Rattle.std.proofs.Common.{◌≡◌, ℕ, ◌+◌, ◌<◌, ◌≤◌, max, Bool, true, false, ◌||◌, eqb, subst, sym, ◌∙◌, ⊎_elim, List, [], ◌∷◌, ◌++◌, arith}
use Rattle.std.proofs.lemmas.Bool.{false≢true, or_cases, eqb-true}
use Rattle.std.proofs.lemmas.List.Folds.{list_any-append}
use Rattle.std.specs.List.{list_any}
use Rattle.box_eval.specs.declared.rule.Rule.{Rule}
use Rattle.box_eval.specs.declared.rule.Rule.TheOpen.{Rule-F, Term-F, Always, Below, AtMost, Equal, Differ, Both, Either, Not, Whole, Slot, Sum, Less, Times, Truth}
use Rattle.box_eval.specs.Reach.{greatest_in_rule, slots_in_term, slot_bound}
use Rattle.box_eval.specs.Reads.{read_in_rule, read_in_term, reads}
use Rattle.box_eval.proofs.Folds.{Two, rule_ones, rule_others, term_ones, term_others, rule_law}

-- every number of a list is below a bound
abbrev EachBelow : List ℕ → ℕ → Type 0
EachBelow slots bound = (slot : ℕ) → list_any (eqb slot) slots ≡ true → slot < bound

joined : (xs ys : List ℕ) (m n : ℕ) → EachBelow xs m → EachBelow ys n → EachBelow (xs ++ ys) (max m n)
joined xs ys m n h k slot in_it = ⊎_elim
    (λ first. omega (arith, h slot first))
    (λ second. omega (arith, k slot second))
    (or_cases (list_any (eqb slot) xs) (list_any (eqb slot) ys) (sym (list_any-append (eqb slot) xs ys) ∙ in_it))

one_slot : (s : ℕ) → EachBelow (s ∷ []) (s + 1)
one_slot s slot in_it = ⊎_elim
    (λ first. omega (arith, eqb-true slot s first))
    (λ later. absurd (false≢true later))
    (or_cases (eqb slot s) false in_it)

abbrev A : Type 0
A = Two (List ℕ) ℕ EachBelow

rule_below : (x : Rule-F A A) → EachBelow (read_in_rule (rule_ones (List ℕ) ℕ (List ℕ) ℕ EachBelow EachBelow x)) (greatest_in_rule (rule_others (List ℕ) ℕ (List ℕ) ℕ EachBelow EachBelow x))
rule_below Always = λ slot in_it. absurd (false≢true in_it)
rule_below (Below a b) = joined a.one b.one a.other b.other a.related b.related
rule_below (AtMost a b) = joined a.one b.one a.other b.other a.related b.related
rule_below (Equal a b) = joined a.one b.one a.other b.other a.related b.related
rule_below (Differ a b) = joined a.one b.one a.other b.other a.related b.related
rule_below (Both a b) = joined a.one b.one a.other b.other a.related b.related
rule_below (Either a b) = joined a.one b.one a.other b.other a.related b.related
rule_below (Not a) = a.related

term_below : (x : Term-F A A) → EachBelow (read_in_term (term_ones (List ℕ) ℕ (List ℕ) ℕ EachBelow EachBelow x)) (slots_in_term (term_others (List ℕ) ℕ (List ℕ) ℕ EachBelow EachBelow x))
term_below (Whole n) = λ slot in_it. absurd (false≢true in_it)
term_below (Slot s) = one_slot s
term_below (Sum a b) = joined a.one b.one a.other b.other a.related b.related
term_below (Less a b) = joined a.one b.one a.other b.other a.related b.related
term_below (Times a b) = joined a.one b.one a.other b.other a.related b.related
term_below (Truth r) = r.related

pub read_below : (rule : Rule) (slot : ℕ) → reads rule slot ≡ true → slot < slot_bound rule
read_below = rule_law (List ℕ) ℕ (List ℕ) ℕ EachBelow EachBelow read_in_rule read_in_term greatest_in_rule slots_in_term rule_below term_below

-- Two folds over rules are related at every rule if their steps are related at every layer.
use Rattle.std.proofs.Common.{◌≡◌, refl, sym, subst, ◌∙◌, ap}
use Rattle.box_eval.specs.declared.rule.Rule.{Rule}
use Rattle.box_eval.specs.declared.rule.Term.{Term}
use Rattle.box_eval.specs.declared.rule.Rule.TheOpen.{Rule-F, Term-F, Always, Below, AtMost, Equal, Differ, Both, Either, Not, Whole, Slot, Sum, Less, Times, Truth}
use Rattle.box_eval.specs.declared.rule.Rule.TheViews.{roll-Rule, roll-Term}
use Rattle.box_eval.specs.declared.rule.Rule.TheFolds.{fold-Rule, fold-Term, fold-roll-Rule, fold-roll-Term, ind-Rule, ind-Term, map-Rule, map-Term}

-- ---- one map after another

module _ (X X' Y Y' Z Z' : Type 0) (f : X → Y) (f' : X' → Y') (g : Y → Z) (g' : Y' → Z') where
  rule_twice : (x : Rule-F X X') → map-Rule Y Y' Z Z' g g' (map-Rule X X' Y Y' f f' x) ≡ map-Rule X X' Z Z' (λ e. g (f e)) (λ e. g' (f' e)) x
  rule_twice Always = refl
  rule_twice (Below a b) = refl
  rule_twice (AtMost a b) = refl
  rule_twice (Equal a b) = refl
  rule_twice (Differ a b) = refl
  rule_twice (Both a b) = refl
  rule_twice (Either a b) = refl
  rule_twice (Not a) = refl

  term_twice : (x : Term-F X X') → map-Term Y Y' Z Z' g g' (map-Term X X' Y Y' f f' x) ≡ map-Term X X' Z Z' (λ e. g (f e)) (λ e. g' (f' e)) x
  term_twice (Whole n) = refl
  term_twice (Slot s) = refl
  term_twice (Sum a b) = refl
  term_twice (Less a b) = refl
  term_twice (Times a b) = refl
  term_twice (Truth r) = refl

-- ---- two folds

-- two values that are related
pub record Two (A B : Type 0) (R : A → B → Type 0) : Type 0 where
  pub one : A
  pub other : B
  pub related : R one other

module _ (A B C D : Type 0) (R : A → B → Type 0) (S : C → D → Type 0) where
  abbrev pub rule_ones : Rule-F (Two A B R) (Two C D S) → Rule-F A C
  rule_ones = map-Rule (Two A B R) (Two C D S) A C (λ t. t.one) (λ t. t.one)

  abbrev pub rule_others : Rule-F (Two A B R) (Two C D S) → Rule-F B D
  rule_others = map-Rule (Two A B R) (Two C D S) B D (λ t. t.other) (λ t. t.other)

  abbrev pub term_ones : Term-F (Two A B R) (Two C D S) → Term-F A C
  term_ones = map-Term (Two A B R) (Two C D S) A C (λ t. t.one) (λ t. t.one)

  abbrev pub term_others : Term-F (Two A B R) (Two C D S) → Term-F B D
  term_others = map-Term (Two A B R) (Two C D S) B D (λ t. t.other) (λ t. t.other)

  module _ (rule_one : Rule-F A C → A) (term_one : Term-F A C → C) (rule_other : Rule-F B D → B) (term_other : Term-F B D → D) where
    abbrev one : Rule → A
    one = fold-Rule A C rule_one term_one

    abbrev other : Rule → B
    other = fold-Rule B D rule_other term_other

    abbrev t_one : Term → C
    t_one = fold-Term A C rule_one term_one

    abbrev t_other : Term → D
    t_other = fold-Term B D rule_other term_other

    abbrev AtRule : Rule → Type 0
    AtRule r = R (one r) (other r)

    abbrev AtTerm : Term → Type 0
    AtTerm t = S (t_one t) (t_other t)

    abbrev SuchRule : Type 0
    SuchRule = (r : Rule) × AtRule r

    abbrev SuchTerm : Type 0
    SuchTerm = (t : Term) × AtTerm t

    abbrev two_rule : SuchRule → Two A B R
    two_rule e = record { one = one e.0; other = other e.0; related = e.1 }

    abbrev two_term : SuchTerm → Two C D S
    two_term e = record { one = t_one e.0; other = t_other e.0; related = e.1 }

    abbrev rule_twos : Rule-F SuchRule SuchTerm → Rule-F (Two A B R) (Two C D S)
    rule_twos = map-Rule SuchRule SuchTerm (Two A B R) (Two C D S) two_rule two_term

    abbrev term_twos : Term-F SuchRule SuchTerm → Term-F (Two A B R) (Two C D S)
    term_twos = map-Term SuchRule SuchTerm (Two A B R) (Two C D S) two_rule two_term

    abbrev bare_rule : Rule-F SuchRule SuchTerm → Rule-F Rule Term
    bare_rule = map-Rule SuchRule SuchTerm Rule Term (λ e. e.0) (λ e. e.0)

    abbrev bare_term : Term-F SuchRule SuchTerm → Term-F Rule Term
    bare_term = map-Term SuchRule SuchTerm Rule Term (λ e. e.0) (λ e. e.0)

    one_is : (y : Rule-F SuchRule SuchTerm) → one (roll-Rule (bare_rule y)) ≡ rule_one (rule_ones (rule_twos y))
    one_is y = fold-roll-Rule A C rule_one term_one (bare_rule y)
        ∙ ap rule_one (rule_twice SuchRule SuchTerm Rule Term A C (λ e. e.0) (λ e. e.0) one t_one y
        ∙ sym (rule_twice SuchRule SuchTerm (Two A B R) (Two C D S) A C two_rule two_term (λ t. t.one) (λ t. t.one) y))

    other_is : (y : Rule-F SuchRule SuchTerm) → other (roll-Rule (bare_rule y)) ≡ rule_other (rule_others (rule_twos y))
    other_is y = fold-roll-Rule B D rule_other term_other (bare_rule y)
        ∙ ap rule_other (rule_twice SuchRule SuchTerm Rule Term B D (λ e. e.0) (λ e. e.0) other t_other y
        ∙ sym (rule_twice SuchRule SuchTerm (Two A B R) (Two C D S) B D two_rule two_term (λ t. t.other) (λ t. t.other) y))

    t_one_is : (y : Term-F SuchRule SuchTerm) → t_one (roll-Term (bare_term y)) ≡ term_one (term_ones (term_twos y))
    t_one_is y = fold-roll-Term A C rule_one term_one (bare_term y)
        ∙ ap term_one (term_twice SuchRule SuchTerm Rule Term A C (λ e. e.0) (λ e. e.0) one t_one y
        ∙ sym (term_twice SuchRule SuchTerm (Two A B R) (Two C D S) A C two_rule two_term (λ t. t.one) (λ t. t.one) y))

    t_other_is : (y : Term-F SuchRule SuchTerm) → t_other (roll-Term (bare_term y)) ≡ term_other (term_others (term_twos y))
    t_other_is y = fold-roll-Term B D rule_other term_other (bare_term y)
        ∙ ap term_other (term_twice SuchRule SuchTerm Rule Term B D (λ e. e.0) (λ e. e.0) other t_other y
        ∙ sym (term_twice SuchRule SuchTerm (Two A B R) (Two C D S) B D two_rule two_term (λ t. t.other) (λ t. t.other) y))

    abbrev RuleStep : Type 0
    RuleStep = (x : Rule-F (Two A B R) (Two C D S)) → R (rule_one (rule_ones x)) (rule_other (rule_others x))

    abbrev TermStep : Type 0
    TermStep = (x : Term-F (Two A B R) (Two C D S)) → S (term_one (term_ones x)) (term_other (term_others x))

    at_rule : RuleStep → (x : Rule-F Rule Term) (y : Rule-F SuchRule SuchTerm) → bare_rule y ≡ x → AtRule (roll-Rule x)
    at_rule h x y is = subst (λ z. AtRule (roll-Rule z)) is
        (subst (λ v. R v (other (roll-Rule (bare_rule y)))) (sym (one_is y))
        (subst (λ v. R (rule_one (rule_ones (rule_twos y))) v) (sym (other_is y)) (h (rule_twos y))))

    at_term : TermStep → (x : Term-F Rule Term) (y : Term-F SuchRule SuchTerm) → bare_term y ≡ x → AtTerm (roll-Term x)
    at_term h x y is = subst (λ z. AtTerm (roll-Term z)) is
        (subst (λ v. S v (t_other (roll-Term (bare_term y)))) (sym (t_one_is y))
        (subst (λ v. S (term_one (term_ones (term_twos y))) v) (sym (t_other_is y)) (h (term_twos y))))

    pub rule_law : RuleStep → TermStep → (r : Rule) → AtRule r
    rule_law h k = ind-Rule AtRule AtTerm (at_rule h) (at_term k)

    pub term_law : RuleStep → TermStep → (t : Term) → AtTerm t
    term_law h k = ind-Term AtRule AtTerm (at_rule h) (at_term k)

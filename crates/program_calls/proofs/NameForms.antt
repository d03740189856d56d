-- Which expressions are names.
use Rattle.std.proofs.Common.{◌≡◌, ◌∙◌, refl, ap, List, [], ◌∷◌, None, map}
use Rattle.osc_base.specs.declared.fault.Place.{Place}
use Rattle.dsl_tree.specs.declared.parts.Ident.{Ident}
use Rattle.dsl_tree.specs.declared.expr.Operator.{Operator}
use Rattle.dsl_tree.specs.declared.expr.Expr.{Expr}
use Rattle.dsl_tree.specs.declared.expr.Suffix.{Suffix}
use Rattle.dsl_tree.specs.declared.expr.Further.{Further}
use Rattle.dsl_tree.specs.declared.expr.Expr.TheOpen.{Expr-F}
use Rattle.dsl_tree.specs.declared.expr.Expr.TheFolds.{fold-roll-Expr, ind-Expr, map-Expr}
use Rattle.dsl_tree.specs.declared.expr.Expr.TheViews.{roll-Expr}
use Rattle.dsl_tree.specs.ExprTree.{ExprTree}
use Rattle.dsl_tree.specs.Views.{SuffixTree, FurtherTree, Named, At, grouped, with_suffixes, named_row, indexed_row, expr_step, suffix_step, further_step, expr_tree, suffix_tree, further_tree}
use Rattle.program_calls.specs.NameExprs.{name_in}

-- a row of operators
grouped_other : (join : Place → Operator → ExprTree → ExprTree → ExprTree) → ((place : Place) (operator : Operator) (left right : ExprTree) → name_in (join place operator left right) ≡ None) →
    (left : ExprTree) (rest : List FurtherTree) → name_in left ≡ None → name_in (grouped join left rest) ≡ None
grouped_other join other left [] h = h
grouped_other join other left (next ∷ rest) h = grouped_other join other (join next.place next.operator left next.part) rest (other next.place next.operator left next.part)

-- a row of suffixes
suffixes_other : (head : ExprTree) (rest : List SuffixTree) → name_in head ≡ None → name_in (with_suffixes head rest) ≡ None
suffixes_other head [] h = h
suffixes_other head (Named name ∷ rest) h = suffixes_other (ExprTree.Dot head name) rest refl
suffixes_other head (At place i ∷ rest) h = suffixes_other (ExprTree.Index place head i) rest refl

named_other : (tree : ExprTree) (rest : List SuffixTree) → name_in tree ≡ None → name_in (named_row tree rest) ≡ None
named_other tree [] h = refl
named_other tree (Named name ∷ []) h = h
named_other tree (At place index ∷ []) h = refl
named_other tree (first ∷ next ∷ rest) h = named_other tree (next ∷ rest) h

indexed_other : (tree : ExprTree) (rest : List SuffixTree) → name_in tree ≡ None → name_in (indexed_row tree rest) ≡ None
indexed_other tree [] h = refl
indexed_other tree (Named name ∷ []) h = refl
indexed_other tree (At place index ∷ []) h = h
indexed_other tree (first ∷ next ∷ rest) h = indexed_other tree (next ∷ rest) h

abbrev step_of : Expr-F Expr Suffix Further → ExprTree
step_of x = expr_step (map-Expr Expr Suffix Further ExprTree SuffixTree FurtherTree expr_tree suffix_tree further_tree x)

other_case : (x : Expr-F Expr Suffix Further) → ((name : Ident) → roll-Expr x ≡ Expr.Name name → ⊥) → name_in (step_of x) ≡ None
unfolding roll-Expr denote.Hole.Carrier.roll
other_case (Expr-F.Name name) other = absurd (other name refl)
other_case (Expr-F.Or first rest) other = grouped_other ExprTree.Or (λ p o l r. refl) _ (map further_tree rest) refl
other_case (Expr-F.And first rest) other = grouped_other ExprTree.And (λ p o l r. refl) _ (map further_tree rest) refl
other_case (Expr-F.Sum first rest) other = grouped_other ExprTree.Sum (λ p o l r. refl) _ (map further_tree rest) refl
other_case (Expr-F.Product first rest) other = grouped_other ExprTree.Product (λ p o l r. refl) _ (map further_tree rest) refl
other_case (Expr-F.Expr::Dot head rest) other = named_other _ (map suffix_tree rest) (suffixes_other (ExprTree.Start (expr_tree head)) (map suffix_tree rest) refl)
other_case (Expr-F.Expr::Index head rest) other = indexed_other _ (map suffix_tree rest) (suffixes_other (ExprTree.Start (expr_tree head)) (map suffix_tree rest) refl)
other_case _ other = refl

-- another expression is none
pub no_name : (e : Expr) → ((name : Ident) → e ≡ Expr.Name name → ⊥) → name_in (expr_tree e) ≡ None
no_name = ind-Expr (λ e. ((name : Ident) → e ≡ Expr.Name name → ⊥) → name_in (expr_tree e) ≡ None)
    (λ s. Unit {0}) (λ f. Unit {0})
    (λ x y is other. ap name_in (fold-roll-Expr ExprTree SuffixTree FurtherTree expr_step suffix_step further_step x) ∙ other_case x other) (λ x y is. tt) (λ x y is. tt)

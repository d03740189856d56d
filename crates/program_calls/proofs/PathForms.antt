-- What is told of a row of operators or suffixes by its first part.
use Rattle.std.proofs.Common.{◌≡◌, ◌∙◌, refl, ap, List, [], ◌∷◌, map}
use Rattle.osc_base.specs.declared.fault.Place.{Place}
use Rattle.dsl_tree.specs.declared.parts.Ident.{Ident}
use Rattle.dsl_tree.specs.declared.expr.Operator.{Operator}
use Rattle.dsl_tree.specs.declared.expr.Expr.{Expr}
use Rattle.dsl_tree.specs.declared.expr.Suffix.{Suffix}
use Rattle.dsl_tree.specs.declared.expr.Expr.TheViews
use Rattle.dsl_tree.specs.ExprTree.{ExprTree}
use Rattle.dsl_tree.specs.Views.{SuffixTree, FurtherTree, Named, At, grouped, with_suffixes, named_row, indexed_row, expr_tree, suffix_tree}
use Rattle.dsl_tree.proofs.Seen.{seen_dot, seen_index}

-- what goes through suffixes and the first part of a row
module _ {X : Type 0} (f : ExprTree → X) (dot : (head : ExprTree) (name : Ident) → f (ExprTree.Dot head name) ≡ f head)
    (index : (place : Place) (head number : ExprTree) → f (ExprTree.Index place head number) ≡ f head) (start : (part : ExprTree) → f (ExprTree.Start part) ≡ f part) where
  suffixes : (head : ExprTree) (rest : List SuffixTree) → f (with_suffixes head rest) ≡ f head
  suffixes head [] = refl
  suffixes head (Named name ∷ rest) = suffixes (ExprTree.Dot head name) rest ∙ dot head name
  suffixes head (At place i ∷ rest) = suffixes (ExprTree.Index place head i) rest ∙ index place head i

  named : (tree : ExprTree) (rest : List SuffixTree) → f (named_row tree rest) ≡ f tree
  named tree [] = start tree
  named tree (Named name ∷ []) = refl
  named tree (At place i ∷ []) = start tree
  named tree (one ∷ next ∷ rest) = named tree (next ∷ rest)

  indexed : (tree : ExprTree) (rest : List SuffixTree) → f (indexed_row tree rest) ≡ f tree
  indexed tree [] = start tree
  indexed tree (Named name ∷ []) = start tree
  indexed tree (At place i ∷ []) = refl
  indexed tree (one ∷ next ∷ rest) = indexed tree (next ∷ rest)

  pub after_dot : (head : Expr) (rest : List Suffix) → f (expr_tree (TheViews.Expr::Dot head rest)) ≡ f (expr_tree head)
  after_dot head rest = ap f (seen_dot head rest) ∙ named (with_suffixes (ExprTree.Start (expr_tree head)) (map suffix_tree rest)) (map suffix_tree rest)
      ∙ suffixes (ExprTree.Start (expr_tree head)) (map suffix_tree rest) ∙ start (expr_tree head)

  pub after_index : (head : Expr) (rest : List Suffix) → f (expr_tree (TheViews.Expr::Index head rest)) ≡ f (expr_tree head)
  after_index head rest = ap f (seen_index head rest) ∙ indexed (with_suffixes (ExprTree.Start (expr_tree head)) (map suffix_tree rest)) (map suffix_tree rest)
      ∙ suffixes (ExprTree.Start (expr_tree head)) (map suffix_tree rest) ∙ start (expr_tree head)

-- what no row of two parts or more has
module _ {X : Type 0} (f : ExprTree → X) (none : X) (join : Place → Operator → ExprTree → ExprTree → ExprTree)
    (other : (place : Place) (operator : Operator) (left right : ExprTree) → f (join place operator left right) ≡ none) where
  still_none : (left : ExprTree) (rest : List FurtherTree) → f left ≡ none → f (grouped join left rest) ≡ none
  still_none left [] h = h
  still_none left (next ∷ rest) h = still_none (join next.place next.operator left next.part) rest (other next.place next.operator left next.part)

  pub none_joined : (left : ExprTree) (next : FurtherTree) (rest : List FurtherTree) → f (grouped join left (next ∷ rest)) ≡ none
  none_joined left next rest = still_none (join next.place next.operator left next.part) rest (other next.place next.operator left next.part)

-- Which expressions are lists.
use Rattle.std.proofs.Common.{◌≡◌, ◌∙◌, refl, ap, List, [], ◌∷◌, None, map}
use Rattle.osc_base.specs.declared.fault.Place.{Place}
use Rattle.dsl_tree.specs.declared.parts.Ident.{Ident}
use Rattle.dsl_tree.specs.declared.expr.Operator.{Operator}
use Rattle.dsl_tree.specs.declared.expr.Expr.{Expr}
use Rattle.dsl_tree.specs.declared.expr.Suffix.{Suffix}
use Rattle.dsl_tree.specs.declared.expr.Further.{Further}
use Rattle.dsl_tree.specs.declared.expr.Expr.TheOpen.{Expr-F}
use Rattle.dsl_tree.specs.declared.expr.Expr.TheFolds.{fold-roll-Expr, ind-Expr, map-Expr}
use Rattle.dsl_tree.specs.declared.expr.Expr.TheViews
use Rattle.dsl_tree.specs.declared.expr.Expr.TheViews.{roll-Expr}
use Rattle.dsl_tree.specs.ExprTree.{ExprTree, row_of, items_of}
use Rattle.dsl_tree.specs.Views.{SuffixTree, FurtherTree, Named, At, grouped, with_suffixes, named_row, indexed_row, expr_step, suffix_step, further_step, expr_tree, suffix_tree, further_tree}
use Rattle.program_texts.specs.Ranges.{listed_items}

abbrev step_of : Expr-F Expr Suffix Further → ExprTree
step_of x = expr_step (map-Expr Expr Suffix Further ExprTree SuffixTree FurtherTree expr_tree suffix_tree further_tree x)

-- what rows of operators and suffixes don't have
module _ {X : Type 0} (f : ExprTree → X) (none : X)
    (dot : (head : ExprTree) (name : Ident) → f (ExprTree.Dot head name) ≡ none)
    (index : (place : Place) (head number : ExprTree) → f (ExprTree.Index place head number) ≡ none)
    (start : (part : ExprTree) → f (ExprTree.Start part) ≡ none) where
  pub row_other : (join : Place → Operator → ExprTree → ExprTree → ExprTree) → ((place : Place) (operator : Operator) (left right : ExprTree) → f (join place operator left right) ≡ none) →
      (left : ExprTree) (rest : List FurtherTree) → f left ≡ none → f (grouped join left rest) ≡ none
  row_other join other left [] h = h
  row_other join other left (next ∷ rest) h = row_other join other (join next.place next.operator left next.part) rest (other next.place next.operator left next.part)

  suffixes_other : (head : ExprTree) (rest : List SuffixTree) → f head ≡ none → f (with_suffixes head rest) ≡ none
  suffixes_other head [] h = h
  suffixes_other head (Named name ∷ rest) h = suffixes_other (ExprTree.Dot head name) rest (dot head name)
  suffixes_other head (At place i ∷ rest) h = suffixes_other (ExprTree.Index place head i) rest (index place head i)

  named_other : (tree : ExprTree) (rest : List SuffixTree) → f tree ≡ none → f (named_row tree rest) ≡ none
  named_other tree [] h = start tree
  named_other tree (Named name ∷ []) h = h
  named_other tree (At place i ∷ []) h = start tree
  named_other tree (first ∷ next ∷ rest) h = named_other tree (next ∷ rest) h

  indexed_other : (tree : ExprTree) (rest : List SuffixTree) → f tree ≡ none → f (indexed_row tree rest) ≡ none
  indexed_other tree [] h = start tree
  indexed_other tree (Named name ∷ []) h = start tree
  indexed_other tree (At place i ∷ []) h = h
  indexed_other tree (first ∷ next ∷ rest) h = indexed_other tree (next ∷ rest) h

  pub dot_other : (head : ExprTree) (rest : List SuffixTree) → f (named_row (with_suffixes (ExprTree.Start head) rest) rest) ≡ none
  dot_other head rest = named_other (with_suffixes (ExprTree.Start head) rest) rest (suffixes_other (ExprTree.Start head) rest (start head))

  pub index_other : (head : ExprTree) (rest : List SuffixTree) → f (indexed_row (with_suffixes (ExprTree.Start head) rest) rest) ≡ none
  index_other head rest = indexed_other (with_suffixes (ExprTree.Start head) rest) rest (suffixes_other (ExprTree.Start head) rest (start head))

items_case : (x : Expr-F Expr Suffix Further) → ((place : Place) (items : List Expr) → roll-Expr x ≡ TheViews.Listed place items → ⊥) → listed_items (step_of x) ≡ None
unfolding roll-Expr denote.Hole.Carrier.roll
items_case (Expr-F.Listed place items) other = absurd (other place items refl)
items_case (Expr-F.Or first rest) other = row_other listed_items None (λ h n. refl) (λ p h n. refl) (λ p. refl) ExprTree.Or (λ p o l r. refl) _ (map further_tree rest) refl
items_case (Expr-F.And first rest) other = row_other listed_items None (λ h n. refl) (λ p h n. refl) (λ p. refl) ExprTree.And (λ p o l r. refl) _ (map further_tree rest) refl
items_case (Expr-F.Sum first rest) other = row_other listed_items None (λ h n. refl) (λ p h n. refl) (λ p. refl) ExprTree.Sum (λ p o l r. refl) _ (map further_tree rest) refl
items_case (Expr-F.Product first rest) other = row_other listed_items None (λ h n. refl) (λ p h n. refl) (λ p. refl) ExprTree.Product (λ p o l r. refl) _ (map further_tree rest) refl
items_case (Expr-F.Expr::Dot head rest) other = dot_other listed_items None (λ h n. refl) (λ p h n. refl) (λ p. refl) (expr_tree head) (map suffix_tree rest)
items_case (Expr-F.Expr::Index head rest) other = index_other listed_items None (λ h n. refl) (λ p h n. refl) (λ p. refl) (expr_tree head) (map suffix_tree rest)
items_case _ other = refl

-- what is no list has no items
pub no_list : (e : Expr) → ((place : Place) (items : List Expr) → e ≡ TheViews.Listed place items → ⊥) → listed_items (expr_tree e) ≡ None
no_list = ind-Expr (λ e. ((place : Place) (items : List Expr) → e ≡ TheViews.Listed place items → ⊥) → listed_items (expr_tree e) ≡ None)
    (λ s. Unit {0}) (λ f. Unit {0})
    (λ x y is other. ap listed_items (fold-roll-Expr ExprTree SuffixTree FurtherTree expr_step suffix_step further_step x) ∙ items_case x other) (λ x y is. tt) (λ x y is. tt)

-- a row is seen as the list of its items
pub items_back : (xs : List ExprTree) → items_of (row_of xs) ≡ xs
items_back [] = refl
items_back (x ∷ xs) = ap (λ ys. x ∷ ys) (items_back xs)

-- An index is a number literal, and no other expression.
use Rattle.std.proofs.Common.{◌≡◌, ◌∙◌, refl, sym, ap, ℕ, zero, suc, List, [], ◌∷◌, map, Option, None}
use Rattle.std.specs.Prelude.{option_map, slice_get, Bool, true}
use Rattle.dsl_tree.specs.osc_base.declared.fault.Place.{Place}
use Rattle.dsl_tree.specs.declared.parts.Digits.{Digits}
use Rattle.dsl_tree.specs.declared.expr.Operator.{Operator}
use Rattle.dsl_tree.specs.declared.expr.Expr.{Expr}
use Rattle.dsl_tree.specs.declared.expr.Suffix.{Suffix}
use Rattle.dsl_tree.specs.declared.expr.Further.{Further}
use Rattle.dsl_tree.specs.declared.expr.Expr.TheOpen.{Expr-F}
use Rattle.dsl_tree.specs.declared.expr.Expr.TheFolds.{fold-roll-Expr, ind-Expr, map-Expr}
use Rattle.dsl_tree.specs.declared.expr.Expr.TheViews.{roll-Expr}
use Rattle.dsl_tree.specs.ExprTree.{ExprTree}
use Rattle.dsl_tree.specs.Views.{SuffixTree, FurtherTree, Named, At, grouped, with_suffixes, named_row, indexed_row, expr_step, suffix_step, further_step, expr_tree, suffix_tree, further_tree}
use Rattle.expr_nodes.specs.declared.node.Info.{Info}
use Rattle.expr_nodes.specs.declared.node.Typed.{Typed}
use Rattle.expr_nodes.specs.declared.node.Typed.TheViews as Nodes
use Rattle.expr_nodes.specs.Typed as Mirror
use Rattle.expr_nodes.specs.Typed.{row_of}
use Rattle.expr_nodes.specs.Operators.{index_of, element}
use Rattle.expr_nodes.specs.Seen.{seen, seen_info}
use Rattle.expr_nodes.proofs.SeenNodes.{seen_listed, items_row}

by_kind : (Q : Expr → Type 0) → ((x : Expr-F Expr Suffix Further) → Q (roll-Expr x)) → (e : Expr) → Q e
by_kind Q each = ind-Expr Q (λ s. Unit {0}) (λ f. Unit {0}) (λ x y is. each x) (λ x y is. tt) (λ x y is. tt)

abbrev step_of : Expr-F Expr Suffix Further → ExprTree
step_of x = expr_step (map-Expr Expr Suffix Further ExprTree SuffixTree FurtherTree expr_tree suffix_tree further_tree x)

seen_step : (x : Expr-F Expr Suffix Further) → expr_tree (roll-Expr x) ≡ step_of x
seen_step x = fold-roll-Expr ExprTree SuffixTree FurtherTree expr_step suffix_step further_step x

grouped_none : (join : Place → Operator → ExprTree → ExprTree → ExprTree) →
    ((place : Place) (operator : Operator) (left right : ExprTree) → index_of (join place operator left right) ≡ None) →
    (left : ExprTree) (rest : List FurtherTree) → index_of left ≡ None → index_of (grouped join left rest) ≡ None
grouped_none join none left [] h = h
grouped_none join none left (next ∷ rest) h =
    grouped_none join none (join next.place next.operator left next.part) rest (none next.place next.operator left next.part)

suffixes_none : (head : ExprTree) (rest : List SuffixTree) → index_of head ≡ None → index_of (with_suffixes head rest) ≡ None
suffixes_none head [] h = h
suffixes_none head (Named name ∷ rest) h = suffixes_none (ExprTree.Dot head name) rest refl
suffixes_none head (At place i ∷ rest) h = suffixes_none (ExprTree.Index place head i) rest refl

named_none : (tree : ExprTree) (rest : List SuffixTree) → index_of tree ≡ None → index_of (named_row tree rest) ≡ None
named_none tree [] h = refl
named_none tree (Named name ∷ []) h = h
named_none tree (At place index ∷ []) h = refl
named_none tree (first ∷ next ∷ rest) h = named_none tree (next ∷ rest) h

indexed_none : (tree : ExprTree) (rest : List SuffixTree) → index_of tree ≡ None → index_of (indexed_row tree rest) ≡ None
indexed_none tree [] h = refl
indexed_none tree (Named name ∷ []) h = refl
indexed_none tree (At place index ∷ []) h = h
indexed_none tree (first ∷ next ∷ rest) h = indexed_none tree (next ∷ rest) h

number_case : (x : Expr-F Expr Suffix Further) → ((n : Digits) → roll-Expr x ≡ Expr.Number n → ⊥) → index_of (step_of x) ≡ None
unfolding roll-Expr denote.Hole.Carrier.roll
number_case (Expr-F.Number n) other = absurd (other n refl)
number_case (Expr-F.Or first rest) other = grouped_none ExprTree.Or (λ p o l r. refl) _ (map further_tree rest) refl
number_case (Expr-F.And first rest) other = grouped_none ExprTree.And (λ p o l r. refl) _ (map further_tree rest) refl
number_case (Expr-F.Sum first rest) other = grouped_none ExprTree.Sum (λ p o l r. refl) _ (map further_tree rest) refl
number_case (Expr-F.Product first rest) other = grouped_none ExprTree.Product (λ p o l r. refl) _ (map further_tree rest) refl
number_case (Expr-F.Expr::Dot head rest) other = named_none _ (map suffix_tree rest)
    (suffixes_none (ExprTree.Start (expr_tree head)) (map suffix_tree rest) refl)
number_case (Expr-F.Expr::Index head rest) other = indexed_none _ (map suffix_tree rest)
    (suffixes_none (ExprTree.Start (expr_tree head)) (map suffix_tree rest) refl)
number_case _ other = refl

pub no_index : (e : Expr) → ((n : Digits) → e ≡ Expr.Number n → ⊥) → index_of (expr_tree e) ≡ None
no_index = by_kind (λ e. ((n : Digits) → e ≡ Expr.Number n → ⊥) → index_of (expr_tree e) ≡ None)
    (λ x other. ap index_of (seen_step x) ∙ number_case x other)

-- an item of a list that is seen
pub item_seen : {A B : Type 0} (f : A → B) (xs : List A) (n : ℕ) → option_map f (slice_get xs n) ≡ slice_get (map f xs) n
item_seen f [] n = refl
item_seen f (x ∷ xs) zero = refl
item_seen f (x ∷ xs) (suc n) = item_seen f xs n

pub element_seen : (head : Typed) (info : Info) (is_field : Bool) (items shown : List Typed) (n : ℕ) (r : Option Typed) → head ≡ Nodes.Listed info is_field items → is_field ≡ true → shown ≡ items
    → r ≡ slice_get shown n → option_map seen r ≡ element n (seen head)
element_seen head info is_field items shown n r is held same found =
    ap (option_map seen) (found ∙ ap (λ xs. slice_get xs n) same)
    ∙ item_seen seen items n
    ∙ ap (λ xs. slice_get xs n) (sym (items_row (map seen items)))
    ∙ sym (ap (element n) (ap seen is ∙ seen_listed info is_field items ∙ ap (λ b. Mirror.Listed (seen_info info) b (row_of (map seen items))) held))

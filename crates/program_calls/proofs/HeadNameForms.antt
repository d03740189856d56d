-- The names with which rows of operators begin.
use Rattle.std.proofs.Common.{◌≡◌, refl, true, false, true≢false, List, [], ◌∷◌, None, map}
use Rattle.std.proofs.lemmas.Bool.{false≢true}
use Rattle.osc_base.specs.declared.fault.Place.{Place}
use Rattle.dsl_tree.specs.declared.expr.Operator.{Operator}
use Rattle.dsl_tree.specs.declared.expr.Expr.{Expr}
use Rattle.dsl_tree.specs.declared.expr.Suffix.{Suffix}
use Rattle.dsl_tree.specs.declared.expr.Further.{Further}
use Rattle.dsl_tree.specs.declared.expr.Expr.TheViews
use Rattle.dsl_tree.specs.ExprTree.{ExprTree}
use Rattle.dsl_tree.specs.Views.{grouped, expr_tree, further_tree}
use Rattle.program_calls.specs.NameExprs.{head_in, is_nil}
use Rattle.program_calls.proofs.PathForms.{after_dot, after_index, none_joined}

pub head_of_dot : (head : Expr) (rest : List Suffix) → head_in (expr_tree (TheViews.Expr::Dot head rest)) ≡ head_in (expr_tree head)
head_of_dot = after_dot head_in (λ head name. refl) (λ place head number. refl) (λ part. refl)

pub head_of_index : (head : Expr) (rest : List Suffix) → head_in (expr_tree (TheViews.Expr::Index head rest)) ≡ head_in (expr_tree head)
head_of_index = after_index head_in (λ head name. refl) (λ place head number. refl) (λ part. refl)

module _ (join : Place → Operator → ExprTree → ExprTree → ExprTree) (first : ExprTree) where
  pub alone_rest : (rest : List Further) → is_nil rest ≡ true → head_in (grouped join (ExprTree.Start first) (map further_tree rest)) ≡ head_in first
  alone_rest [] h = refl
  alone_rest (f ∷ fs) h = absurd (false≢true h)

  pub more_rest : ((place : Place) (operator : Operator) (left right : ExprTree) → head_in (join place operator left right) ≡ None) →
      (rest : List Further) → is_nil rest ≡ false → head_in (grouped join (ExprTree.Start first) (map further_tree rest)) ≡ None
  more_rest other [] h = absurd (true≢false h)
  more_rest other (f ∷ fs) h = none_joined head_in None join other (ExprTree.Start first) (further_tree f) (map further_tree fs)

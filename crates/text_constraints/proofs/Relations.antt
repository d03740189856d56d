-- Which expressions are relations, and what their targets are.
use Rattle.std.proofs.Common.{◌≡◌, ◌∙◌, refl, sym, ap, true, false, cond, Option, None, Some, map, option_and_then}
use Rattle.std.specs.Option.{option_or}
use Rattle.osc_base.specs.declared.fault.Place.{Place}
use Rattle.osc_base.specs.declared.path.Path.{Path}
use Rattle.dsl_tree.specs.declared.expr.Expr.{Expr}
use Rattle.dsl_tree.specs.declared.expr.RelationSign.{RelationSign}
use Rattle.dsl_tree.specs.declared.expr.Suffix.{Suffix}
use Rattle.dsl_tree.specs.declared.expr.Further.{Further}
use Rattle.dsl_tree.specs.declared.expr.Expr.TheOpen.{Expr-F}
use Rattle.dsl_tree.specs.declared.expr.Expr.TheFolds.{fold-roll-Expr, ind-Expr, map-Expr}
use Rattle.dsl_tree.specs.declared.expr.Expr.TheViews
use Rattle.dsl_tree.specs.declared.expr.Expr.TheViews.{roll-Expr}
use Rattle.dsl_tree.specs.ExprTree.{ExprTree}
use Rattle.dsl_tree.specs.Views.{SuffixTree, FurtherTree, expr_step, suffix_step, further_step, expr_tree, suffix_tree, further_tree}
use Rattle.expr_nodes.specs.type_heads.Table.{Table}
use Rattle.expr_nodes.specs.Typed.{Typed}
use Rattle.expr_nodes.specs.Typing.{is_path, typed}
use Rattle.program_texts.proofs.ExprKinds.{dot_other, index_other, row_other}
use Rattle.text_constraints.specs.Sites.{Site, left_home, left_in, path_home, read_home, whole_home}

abbrev step_of : Expr-F Expr Suffix Further → ExprTree
step_of x = expr_step (map-Expr Expr Suffix Further ExprTree SuffixTree FurtherTree expr_tree suffix_tree further_tree x)

relation_case : (x : Expr-F Expr Suffix Further) → ((place : Place) (sign : RelationSign) (left right : Expr) → roll-Expr x ≡ TheViews.Relation place sign left right → ⊥) → left_in (step_of x) ≡ None
unfolding roll-Expr denote.Hole.Carrier.roll
relation_case (Expr-F.Relation place sign left right) other = absurd (other place sign left right refl)
relation_case (Expr-F.Or first rest) other = row_other left_in None (λ h n. refl) (λ p h n. refl) (λ p. refl) ExprTree.Or (λ p o l r. refl) _ (map further_tree rest) refl
relation_case (Expr-F.And first rest) other = row_other left_in None (λ h n. refl) (λ p h n. refl) (λ p. refl) ExprTree.And (λ p o l r. refl) _ (map further_tree rest) refl
relation_case (Expr-F.Sum first rest) other = row_other left_in None (λ h n. refl) (λ p h n. refl) (λ p. refl) ExprTree.Sum (λ p o l r. refl) _ (map further_tree rest) refl
relation_case (Expr-F.Product first rest) other = row_other left_in None (λ h n. refl) (λ p h n. refl) (λ p. refl) ExprTree.Product (λ p o l r. refl) _ (map further_tree rest) refl
relation_case (Expr-F.Expr::Dot head rest) other = dot_other left_in None (λ h n. refl) (λ p h n. refl) (λ p. refl) (expr_tree head) (map suffix_tree rest)
relation_case (Expr-F.Expr::Index head rest) other = index_other left_in None (λ h n. refl) (λ p h n. refl) (λ p. refl) (expr_tree head) (map suffix_tree rest)
relation_case _ other = refl

-- what is no relation has no left side
pub no_relation : (e : Expr) → ((place : Place) (sign : RelationSign) (left right : Expr) → e ≡ TheViews.Relation place sign left right → ⊥) → left_in (expr_tree e) ≡ None
no_relation = ind-Expr (λ e. ((place : Place) (sign : RelationSign) (left right : Expr) → e ≡ TheViews.Relation place sign left right → ⊥) → left_in (expr_tree e) ≡ None)
    (λ s. Unit {0}) (λ f. Unit {0})
    (λ x y is other. ap left_in (fold-roll-Expr ExprTree SuffixTree FurtherTree expr_step suffix_step further_step x) ∙ relation_case x other) (λ x y is. tt) (λ x y is. tt)

-- ---- targets

module _ (table : Table) (s : Site) where
  pub no_path : (e : ExprTree) → is_path e ≡ false → None ≡ path_home table s e
  no_path e h = sym (ap (λ b. cond b (read_home s (typed table s.scope e)) None) h)

  pub one_path : (e : ExprTree) (t : Option Typed) → is_path e ≡ true → t ≡ typed table s.scope e → read_home s t ≡ path_home table s e
  one_path e t h is = ap (read_home s) is ∙ sym (ap (λ b. cond b (read_home s (typed table s.scope e)) None) h)

  pub no_left : (e : ExprTree) → None ≡ left_in e → None ≡ left_home table s e
  no_left e h = ap (option_and_then (path_home table s)) h

  pub one_left : (e left : ExprTree) → Some left ≡ left_in e → path_home table s left ≡ left_home table s e
  one_left e left h = ap (option_and_then (path_home table s)) h

  pub left_target : (e : ExprTree) (p : Path) → Some p ≡ left_home table s e → Some p ≡ whole_home table s e
  left_target e p h = ap (λ o. option_or o (path_home table s e)) h

  pub whole_target : (e : ExprTree) → None ≡ left_home table s e → path_home table s e ≡ whole_home table s e
  whole_target e h = ap (λ o. option_or o (path_home table s e)) h

-- The tokens of the program's own expressions, node by node.
use Rattle.std.proofs.Common.{◌≡◌, ℕ, ◌+◌, List, ◌∙◌, ap, sym, refl, arith}
use Rattle.std.specs.Prelude.{Bool}
use Rattle.dsl_tree.specs.osc_base.declared.fault.Place.{Place}
use Rattle.dsl_tree.specs.declared.parts.Ident.{Ident}
use Rattle.dsl_tree.specs.declared.parts.Digits.{Digits}
use Rattle.dsl_tree.specs.declared.expr.RelationSign.{RelationSign}
use Rattle.dsl_tree.specs.declared.expr.Expr.{Expr}
use Rattle.dsl_tree.specs.declared.expr.Suffix.{Suffix}
use Rattle.dsl_tree.specs.declared.expr.Further.{Further}
use Rattle.dsl_tree.specs.declared.expr.Expr.TheOpen.{Expr-F, Suffix-F}
use Rattle.dsl_tree.specs.declared.expr.Expr.TheFolds.{fold-roll-Expr, fold-roll-Suffix}
use Rattle.dsl_tree.specs.declared.expr.Expr.TheViews
use Rattle.dsl_tree.specs.declared.expr.Expr as Exprs
use Rattle.dsl_tree.specs.declared.expr.Suffix as Suffixes
use Rattle.dsl_tree.specs.ExprTree.{ExprTree}
use Rattle.dsl_tree.specs.Views.{SuffixTree, FurtherTree, expr_tree, suffix_tree, expr_step, suffix_step, further_step}
use Rattle.expansion_laws.specs.composition.Tokens.{tokens}
use Rattle.expansion_laws.specs.Counts.{total}
use Rattle.scene_texts.specs.Capped.{capped}
use Rattle.scene_texts.specs.RowTokens.{further_count, suffix_count, suffix_tokens, item_count}
use Rattle.scene_texts.proofs.Caps.{capped_left, capped_right, capped_twice}
use Rattle.scene_texts.proofs.TokenRows.{grouped_tokens, dot_tokens, index_tokens, row_tokens}

-- counts of parts

pub with_middle : (left middle right l r now : ℕ) → now ≡ capped (left + middle + right) → left ≡ capped l → right ≡ capped r → now ≡ capped (l + middle + r)
with_middle left middle right l r now is same_left same_right =
    is ∙ ap (λ n. capped (n + middle + right)) same_left ∙ ap (λ n. capped (capped l + middle + n)) same_right
    ∙ capped_right (capped l + middle) r ∙ ap capped (regroup (capped l) middle r) ∙ capped_left l (middle + r) ∙ ap capped (sym (regroup l middle r))
  where
    regroup : (a b c : ℕ) → a + b + c ≡ a + (b + c)
    regroup a b c = omega arith

pub with_start : (start left right l r now : ℕ) → now ≡ capped (start + left + right) → left ≡ capped l → right ≡ capped r → now ≡ capped (start + l + r)
with_start start left right l r now is same_left same_right =
    is ∙ ap (λ n. capped (start + n + right)) same_left ∙ ap (λ n. capped (start + capped l + n)) same_right
    ∙ capped_right (start + capped l) r ∙ ap capped (regroup start (capped l) r) ∙ capped_right (start + r) l ∙ ap capped (sym (regroup start l r))
  where
    regroup : (a b c : ℕ) → a + b + c ≡ a + c + b
    regroup a b c = omega arith

pub with_both : (left right l r now : ℕ) → now ≡ capped (left + right) → left ≡ capped l → right ≡ capped r → now ≡ capped (l + r)
with_both left right l r now is same_left same_right =
    is ∙ ap (λ n. capped (n + right)) same_left ∙ ap (λ n. capped (capped l + n)) same_right ∙ capped_twice l r

pub with_more : (start right r now : ℕ) → now ≡ capped (start + right) → right ≡ capped r → now ≡ capped (start + r)
with_more start right r now is same_right = is ∙ ap (λ n. capped (start + n)) same_right ∙ capped_right start r

pub with_fewer : (end left l now : ℕ) → now ≡ capped (left + end) → left ≡ capped l → now ≡ capped (l + end)
with_fewer end left l now is same_left = is ∙ ap (λ n. capped (n + end)) same_left ∙ capped_left l end

-- an index
pub suffix_counted : (now : ℕ) (suffix : Suffix) (place : Place) (index : Expr) → suffix ≡ Suffixes.Index place index → now ≡ capped (2 + tokens (expr_tree index)) → now ≡ capped (suffix_count suffix)
unfolding TheViews.roll-Suffix denote.Hole.Carrier.roll
suffix_counted now suffix place index is same =
    same ∙ ap (λ (s : SuffixTree). capped (suffix_tokens s)) (sym (ap suffix_tree is ∙ fold-roll-Suffix ExprTree SuffixTree FurtherTree expr_step suffix_step further_step (Suffix-F.Suffix::Index place index)))

-- a name after a point
pub name_suffix_counted : (suffix : Suffix) (name : Ident) → suffix ≡ Suffixes.Dot name → 2 ≡ capped (suffix_count suffix)
unfolding capped TheViews.roll-Suffix denote.Hole.Carrier.roll
name_suffix_counted suffix name is =
    ap (λ (s : SuffixTree). capped (suffix_tokens s)) (sym (ap suffix_tree is ∙ fold-roll-Suffix ExprTree SuffixTree FurtherTree expr_step suffix_step further_step (Suffix-F.Suffix::Dot name)))

-- nodes

of_step : (now : ℕ) (e : Expr) (t : ExprTree) → expr_tree e ≡ t → now ≡ capped (tokens t) → now ≡ capped (tokens (expr_tree e))
of_step now e t is same = same ∙ ap (λ x. capped (tokens x)) (sym is)

module _ (now : ℕ) (expr : Expr) where
  pub implies_counted : (place : Place) (left right : Expr) → expr ≡ Exprs.Implies place left right → now ≡ capped (tokens (expr_tree left) + 1 + tokens (expr_tree right)) → now ≡ capped (tokens (expr_tree expr))
  unfolding TheViews.roll-Expr denote.Hole.Carrier.roll
  implies_counted place left right is same =
      of_step now expr _ (ap expr_tree is ∙ fold-roll-Expr ExprTree SuffixTree FurtherTree expr_step suffix_step further_step (Expr-F.Implies place left right)) same

  pub relation_counted : (place : Place) (sign : RelationSign) (left right : Expr) → expr ≡ Exprs.Relation place sign left right → now ≡ capped (tokens (expr_tree left) + 1 + tokens (expr_tree right)) → now ≡ capped (tokens (expr_tree expr))
  unfolding TheViews.roll-Expr denote.Hole.Carrier.roll
  relation_counted place sign left right is same =
      of_step now expr _ (ap expr_tree is ∙ fold-roll-Expr ExprTree SuffixTree FurtherTree expr_step suffix_step further_step (Expr-F.Relation place sign left right)) same

  pub span_counted : (place : Place) (low high : Expr) → expr ≡ Exprs.Span place low high → now ≡ capped (3 + tokens (expr_tree low) + tokens (expr_tree high)) → now ≡ capped (tokens (expr_tree expr))
  unfolding TheViews.roll-Expr denote.Hole.Carrier.roll
  span_counted place low high is same =
      of_step now expr _ (ap expr_tree is ∙ fold-roll-Expr ExprTree SuffixTree FurtherTree expr_step suffix_step further_step (Expr-F.Span place low high)) same

  pub range_counted : (place : Place) (low high : Expr) → expr ≡ Exprs.RangeCall place low high → now ≡ capped (4 + tokens (expr_tree low) + tokens (expr_tree high)) → now ≡ capped (tokens (expr_tree expr))
  unfolding TheViews.roll-Expr denote.Hole.Carrier.roll
  range_counted place low high is same =
      of_step now expr _ (ap expr_tree is ∙ fold-roll-Expr ExprTree SuffixTree FurtherTree expr_step suffix_step further_step (Expr-F.RangeCall place low high)) same

  pub or_counted : (first : Expr) (rest : List Further) → expr ≡ Exprs.Or first rest → now ≡ capped (tokens (expr_tree first) + total further_count rest) → now ≡ capped (tokens (expr_tree expr))
  unfolding TheViews.roll-Expr denote.Hole.Carrier.roll
  or_counted first rest is same =
      of_step now expr _ (ap expr_tree is ∙ fold-roll-Expr ExprTree SuffixTree FurtherTree expr_step suffix_step further_step (Expr-F.Or first rest))
      (same ∙ ap capped (sym (grouped_tokens ExprTree.Or (λ p o a b. refl) (ExprTree.Start (expr_tree first)) rest)))

  pub and_counted : (first : Expr) (rest : List Further) → expr ≡ Exprs.And first rest → now ≡ capped (tokens (expr_tree first) + total further_count rest) → now ≡ capped (tokens (expr_tree expr))
  unfolding TheViews.roll-Expr denote.Hole.Carrier.roll
  and_counted first rest is same =
      of_step now expr _ (ap expr_tree is ∙ fold-roll-Expr ExprTree SuffixTree FurtherTree expr_step suffix_step further_step (Expr-F.And first rest))
      (same ∙ ap capped (sym (grouped_tokens ExprTree.And (λ p o a b. refl) (ExprTree.Start (expr_tree first)) rest)))

  pub sum_counted : (first : Expr) (rest : List Further) → expr ≡ Exprs.Sum first rest → now ≡ capped (tokens (expr_tree first) + total further_count rest) → now ≡ capped (tokens (expr_tree expr))
  unfolding TheViews.roll-Expr denote.Hole.Carrier.roll
  sum_counted first rest is same =
      of_step now expr _ (ap expr_tree is ∙ fold-roll-Expr ExprTree SuffixTree FurtherTree expr_step suffix_step further_step (Expr-F.Sum first rest))
      (same ∙ ap capped (sym (grouped_tokens ExprTree.Sum (λ p o a b. refl) (ExprTree.Start (expr_tree first)) rest)))

  pub product_counted : (first : Expr) (rest : List Further) → expr ≡ Exprs.Product first rest → now ≡ capped (tokens (expr_tree first) + total further_count rest) → now ≡ capped (tokens (expr_tree expr))
  unfolding TheViews.roll-Expr denote.Hole.Carrier.roll
  product_counted first rest is same =
      of_step now expr _ (ap expr_tree is ∙ fold-roll-Expr ExprTree SuffixTree FurtherTree expr_step suffix_step further_step (Expr-F.Product first rest))
      (same ∙ ap capped (sym (grouped_tokens ExprTree.Product (λ p o a b. refl) (ExprTree.Start (expr_tree first)) rest)))

  pub dot_counted : (head : Expr) (suffixes : List Suffix) → expr ≡ Exprs.Dot head suffixes → now ≡ capped (tokens (expr_tree head) + total suffix_count suffixes) → now ≡ capped (tokens (expr_tree expr))
  unfolding TheViews.roll-Expr denote.Hole.Carrier.roll
  dot_counted head suffixes is same =
      of_step now expr _ (ap expr_tree is ∙ fold-roll-Expr ExprTree SuffixTree FurtherTree expr_step suffix_step further_step (Expr-F.Expr::Dot head suffixes))
      (same ∙ ap capped (sym (dot_tokens (expr_tree head) suffixes)))

  pub index_counted : (head : Expr) (suffixes : List Suffix) → expr ≡ Exprs.Index head suffixes → now ≡ capped (tokens (expr_tree head) + total suffix_count suffixes) → now ≡ capped (tokens (expr_tree expr))
  unfolding TheViews.roll-Expr denote.Hole.Carrier.roll
  index_counted head suffixes is same =
      of_step now expr _ (ap expr_tree is ∙ fold-roll-Expr ExprTree SuffixTree FurtherTree expr_step suffix_step further_step (Expr-F.Expr::Index head suffixes))
      (same ∙ ap capped (sym (index_tokens (expr_tree head) suffixes)))

  pub not_counted : (place : Place) (part : Expr) → expr ≡ Exprs.Not place part → now ≡ capped (1 + tokens (expr_tree part)) → now ≡ capped (tokens (expr_tree expr))
  unfolding TheViews.roll-Expr denote.Hole.Carrier.roll
  not_counted place part is same =
      of_step now expr _ (ap expr_tree is ∙ fold-roll-Expr ExprTree SuffixTree FurtherTree expr_step suffix_step further_step (Expr-F.Not place part)) same

  pub minus_counted : (place : Place) (part : Expr) → expr ≡ Exprs.Minus place part → now ≡ capped (1 + tokens (expr_tree part)) → now ≡ capped (tokens (expr_tree expr))
  unfolding TheViews.roll-Expr denote.Hole.Carrier.roll
  minus_counted place part is same =
      of_step now expr _ (ap expr_tree is ∙ fold-roll-Expr ExprTree SuffixTree FurtherTree expr_step suffix_step further_step (Expr-F.Minus place part)) same

  pub group_counted : (place : Place) (part : Expr) → expr ≡ Exprs.Group place part → now ≡ capped (2 + tokens (expr_tree part)) → now ≡ capped (tokens (expr_tree expr))
  unfolding TheViews.roll-Expr denote.Hole.Carrier.roll
  group_counted place part is same =
      of_step now expr _ (ap expr_tree is ∙ fold-roll-Expr ExprTree SuffixTree FurtherTree expr_step suffix_step further_step (Expr-F.Group place part)) same

  pub listed_counted : (place : Place) (items : List Expr) → expr ≡ Exprs.Listed place items → now ≡ capped (1 + total item_count items) → now ≡ capped (tokens (expr_tree expr))
  unfolding TheViews.roll-Expr denote.Hole.Carrier.roll
  listed_counted place items is same =
      of_step now expr _ (ap expr_tree is ∙ fold-roll-Expr ExprTree SuffixTree FurtherTree expr_step suffix_step further_step (Expr-F.Listed place items))
      (same ∙ ap (λ n. capped (1 + n)) (sym (row_tokens items)))

-- leaves

module _ (expr : Expr) where
  pub number_counted : (number : Digits) → expr ≡ Exprs.Number number → 1 ≡ capped (tokens (expr_tree expr))
  unfolding capped TheViews.roll-Expr denote.Hole.Carrier.roll
  number_counted number is = of_step 1 expr _ (ap expr_tree is ∙ fold-roll-Expr ExprTree SuffixTree FurtherTree expr_step suffix_step further_step (Expr-F.Number number)) refl

  pub physical_counted : (number : Digits) (unit : List ℕ) → expr ≡ Exprs.Physical number unit → 1 ≡ capped (tokens (expr_tree expr))
  unfolding capped TheViews.roll-Expr denote.Hole.Carrier.roll
  physical_counted number unit is = of_step 1 expr _ (ap expr_tree is ∙ fold-roll-Expr ExprTree SuffixTree FurtherTree expr_step suffix_step further_step (Expr-F.Physical number unit)) refl

  pub chars_counted : (place : Place) (text : List ℕ) → expr ≡ Exprs.Chars place text → 1 ≡ capped (tokens (expr_tree expr))
  unfolding capped TheViews.roll-Expr denote.Hole.Carrier.roll
  chars_counted place text is = of_step 1 expr _ (ap expr_tree is ∙ fold-roll-Expr ExprTree SuffixTree FurtherTree expr_step suffix_step further_step (Expr-F.Chars place text)) refl

  pub truth_counted : (place : Place) (value : Bool) → expr ≡ Exprs.Truth place value → 1 ≡ capped (tokens (expr_tree expr))
  unfolding capped TheViews.roll-Expr denote.Hole.Carrier.roll
  truth_counted place value is = of_step 1 expr _ (ap expr_tree is ∙ fold-roll-Expr ExprTree SuffixTree FurtherTree expr_step suffix_step further_step (Expr-F.Truth place value)) refl

  pub it_counted : (place : Place) → expr ≡ Exprs.It place → 1 ≡ capped (tokens (expr_tree expr))
  unfolding capped TheViews.roll-Expr denote.Hole.Carrier.roll
  it_counted place is = of_step 1 expr _ (ap expr_tree is ∙ fold-roll-Expr ExprTree SuffixTree FurtherTree expr_step suffix_step further_step (Expr-F.It place)) refl

  pub actor_counted : (place : Place) → expr ≡ Exprs.Actor place → 1 ≡ capped (tokens (expr_tree expr))
  unfolding capped TheViews.roll-Expr denote.Hole.Carrier.roll
  actor_counted place is = of_step 1 expr _ (ap expr_tree is ∙ fold-roll-Expr ExprTree SuffixTree FurtherTree expr_step suffix_step further_step (Expr-F.Actor place)) refl

  pub name_counted : (name : Ident) → expr ≡ Exprs.Name name → 1 ≡ capped (tokens (expr_tree expr))
  unfolding capped TheViews.roll-Expr denote.Hole.Carrier.roll
  name_counted name is = of_step 1 expr _ (ap expr_tree is ∙ fold-roll-Expr ExprTree SuffixTree FurtherTree expr_step suffix_step further_step (Expr-F.Name name)) refl

  pub enum_name_counted : (of member : Ident) → expr ≡ Exprs.EnumName of member → 3 ≡ capped (tokens (expr_tree expr))
  unfolding capped TheViews.roll-Expr denote.Hole.Carrier.roll
  enum_name_counted of member is = of_step 3 expr _ (ap expr_tree is ∙ fold-roll-Expr ExprTree SuffixTree FurtherTree expr_step suffix_step further_step (Expr-F.EnumName of member)) refl

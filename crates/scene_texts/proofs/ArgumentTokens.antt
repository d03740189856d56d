-- The tokens of paths and of rows of arguments.
use Rattle.std.proofs.Common.{◌≡◌, ◌+◌, List, [], ◌∷◌, ◌∙◌, map, refl, ap, arith}
use Rattle.dsl_tree.specs.declared.expr.Suffix.{Suffix}
use Rattle.dsl_tree.specs.declared.rules.PathHead.{PathHead}
use Rattle.dsl_tree.specs.declared.phases.Argument.{Argument}
use Rattle.dsl_tree.specs.ExprTree.{ExprTree}
use Rattle.dsl_tree.specs.Views.{head_tree, path_row, suffix_tree, argument_tree}
use Rattle.expansion_laws.specs.composition.Tokens.{tokens, argument_tokens, arguments_tokens}
use Rattle.expansion_laws.specs.Counts.{total}
use Rattle.scene_texts.specs.RowTokens.{suffix_count, later_count}
use Rattle.scene_texts.proofs.TokenRows.{suffixed_tokens}

head_counted : (h : PathHead) → tokens (head_tree h) ≡ 1
head_counted (PathHead.Name name) = refl
head_counted (PathHead.It place) = refl
head_counted (PathHead.Actor place) = refl

pub path_counted : (h : PathHead) (suffixes : List Suffix) → tokens (path_row (head_tree h) (map suffix_tree suffixes)) ≡ 1 + total suffix_count suffixes
path_counted h [] = head_counted h
path_counted h (s ∷ rest) = suffixed_tokens (ExprTree.Start (head_tree h)) (s ∷ rest) ∙ ap (λ n. n + total suffix_count (s ∷ rest)) (head_counted h)

pub arguments_counted : (a : Argument) (later : List Argument) → arguments_tokens (map argument_tree (a ∷ later)) ≡ argument_tokens (argument_tree a) + total later_count later
arguments_counted a [] = omega arith
arguments_counted a (b ∷ later) =
    ap (λ n. argument_tokens (argument_tree a) + 1 + n) (arguments_counted b later) ∙ omega arith

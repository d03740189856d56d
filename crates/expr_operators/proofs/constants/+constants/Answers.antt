use Rattle.std.proofs.Common.{◌∙◌, ap, refl, map}
use Rattle.std.specs.List.{list_all}
use Rattle.expr_nodes.specs.Operators.{is_constant}
use Rattle.expr_nodes.specs.Seen.{seen, reached}
use Rattle.expr_nodes.specs.NoReads.{constant_part}
use Rattle.expr_operators.proofs.NoReads.{row_last, row_parts, row_first}
use Rattle.expr_operators.proofs.constants.+constants.Goals as goal

pub is_constant-returns-then-parts_are_constant : goal.is_constant-returns-then-parts_are_constant
is_constant-returns-then-parts_are_constant t c =
    row_last c.args.typed.now c.in-Joined.info c.in-Joined.join c.in-Joined.first c.in-Joined.earlier c.as_slice-then-is_constant-2.result.now c.in-Joined.last c.in-Joined.is c.as_slice-then-is_constant-2.ensures
    c.is_constant-in-Joined.result c.parts_are_constant.result (c.is_constant-in-Joined.ensures ∙ ap (λ x. is_constant (seen x)) c.get-in-Joined.ensures) c.parts_are_constant.ensures
    c.is_constant-then-parts_are_constant.result c.if-is_constant-2.true c.if-parts_are_constant.true
    (c.is_constant-then-parts_are_constant.ensures ∙ ap (λ x. is_constant (seen x)) c.get-then-parts_are_constant.ensures)

pub is_constant-returns-else-parts_are_constant : goal.is_constant-returns-else-parts_are_constant
is_constant-returns-else-parts_are_constant t c =
    row_parts c.args.typed.now c.in-Joined.info c.in-Joined.join c.in-Joined.first c.in-Joined.earlier c.as_slice-then-is_constant-2.result.now c.in-Joined.last c.in-Joined.is c.as_slice-then-is_constant-2.ensures
    c.is_constant-in-Joined.result c.parts_are_constant.result (c.is_constant-in-Joined.ensures ∙ ap (λ x. is_constant (seen x)) c.get-in-Joined.ensures) c.parts_are_constant.ensures
    c.if-is_constant-2.true c.if-parts_are_constant.false

pub is_constant-returns-else-is_constant-2 : goal.is_constant-returns-else-is_constant-2
is_constant-returns-else-is_constant-2 t c =
    row_first c.args.typed.now c.in-Joined.info c.in-Joined.join c.in-Joined.first c.in-Joined.earlier c.in-Joined.earlier c.in-Joined.last c.in-Joined.is refl
    c.is_constant-in-Joined.result (list_all constant_part (map reached c.in-Joined.earlier)) (c.is_constant-in-Joined.ensures ∙ ap (λ x. is_constant (seen x)) c.get-in-Joined.ensures) refl
    c.if-is_constant-2.false

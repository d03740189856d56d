use Rattle.std.proofs.Common.{◌∙◌, ap, refl, map}
use Rattle.std.specs.List.{list_all}
use Rattle.expr_nodes.specs.Seen.{seen, reached}
use Rattle.scene_reads.specs.Readable.{has_reads, has_part}
use Rattle.scene_reads.proofs.ReadRows.{row_last, row_parts, row_first}
use Rattle.scene_reads.proofs.reads.+reads.Goals as goal

pub has_all-returns-then-has_parts : goal.has_all-returns-then-has_parts
has_all-returns-then-has_parts t c =
    row_last c.args.scene.now c.args.typed.now c.in-Joined.info c.in-Joined.join c.in-Joined.first c.in-Joined.earlier c.as_slice-then-has_all-2.result.now c.in-Joined.last c.in-Joined.is c.as_slice-then-has_all-2.ensures
    c.has_all-in-Joined.result c.has_parts.result (c.has_all-in-Joined.ensures ∙ ap (λ x. has_reads c.args.scene.now (seen x)) c.get-in-Joined.ensures) c.has_parts.ensures
    c.has_all-then-has_parts.result c.if-has_all-2.true c.if-has_parts.true
    (c.has_all-then-has_parts.ensures ∙ ap (λ x. has_reads c.args.scene.now (seen x)) c.get-then-has_parts.ensures)

pub has_all-returns-else-has_parts : goal.has_all-returns-else-has_parts
has_all-returns-else-has_parts t c =
    row_parts c.args.scene.now c.args.typed.now c.in-Joined.info c.in-Joined.join c.in-Joined.first c.in-Joined.earlier c.as_slice-then-has_all-2.result.now c.in-Joined.last c.in-Joined.is c.as_slice-then-has_all-2.ensures
    c.has_all-in-Joined.result c.has_parts.result (c.has_all-in-Joined.ensures ∙ ap (λ x. has_reads c.args.scene.now (seen x)) c.get-in-Joined.ensures) c.has_parts.ensures
    c.if-has_all-2.true c.if-has_parts.false

pub has_all-returns-else-has_all-2 : goal.has_all-returns-else-has_all-2
has_all-returns-else-has_all-2 t c =
    row_first c.args.scene.now c.args.typed.now c.in-Joined.info c.in-Joined.join c.in-Joined.first c.in-Joined.earlier c.in-Joined.earlier c.in-Joined.last c.in-Joined.is refl
    c.has_all-in-Joined.result (list_all (has_part c.args.scene.now) (map reached c.in-Joined.earlier)) (c.has_all-in-Joined.ensures ∙ ap (λ x. has_reads c.args.scene.now (seen x)) c.get-in-Joined.ensures) refl
    c.if-has_all-2.false

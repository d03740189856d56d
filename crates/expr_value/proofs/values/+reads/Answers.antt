use Rattle.std.proofs.Common.{◌∙◌, ap, refl, map}
use Rattle.std.specs.List.{list_all}
use Rattle.expr_nodes.specs.Seen.{seen, reached}
use Rattle.expr_value.specs.Held.{are_held}
use Rattle.expr_value.proofs.HeldParts.{row_last, row_parts, row_first}
use Rattle.expr_value.proofs.values.+reads.Goals as goal

pub is_held-returns-then-parts_are_held : goal.is_held-returns-then-parts_are_held
is_held-returns-then-parts_are_held g t c =
    row_last (g.R.Reading.told c.args.reading.now) c.args.typed.now c.in-Joined.info c.in-Joined.join c.in-Joined.first c.in-Joined.earlier c.as_slice-then-is_held-2.result.now c.in-Joined.last c.in-Joined.is c.as_slice-then-is_held-2.ensures
    c.is_held-in-Joined.result c.parts_are_held.result (c.is_held-in-Joined.ensures ∙ ap (λ x. are_held (g.R.Reading.told c.args.reading.now) (seen x)) c.get-in-Joined.ensures) c.parts_are_held.ensures
    c.is_held-then-parts_are_held.result c.if-is_held-2.true c.if-parts_are_held.true
    (c.is_held-then-parts_are_held.ensures ∙ ap (λ x. are_held (g.R.Reading.told c.args.reading.now) (seen x)) c.get-then-parts_are_held.ensures)

pub is_held-returns-else-parts_are_held : goal.is_held-returns-else-parts_are_held
is_held-returns-else-parts_are_held g t c =
    row_parts (g.R.Reading.told c.args.reading.now) c.args.typed.now c.in-Joined.info c.in-Joined.join c.in-Joined.first c.in-Joined.earlier c.as_slice-then-is_held-2.result.now c.in-Joined.last c.in-Joined.is c.as_slice-then-is_held-2.ensures
    c.is_held-in-Joined.result c.parts_are_held.result (c.is_held-in-Joined.ensures ∙ ap (λ x. are_held (g.R.Reading.told c.args.reading.now) (seen x)) c.get-in-Joined.ensures) c.parts_are_held.ensures
    c.if-is_held-2.true c.if-parts_are_held.false

pub is_held-returns-else-is_held-2 : goal.is_held-returns-else-is_held-2
is_held-returns-else-is_held-2 g t c =
    row_first (g.R.Reading.told c.args.reading.now) c.args.typed.now c.in-Joined.info c.in-Joined.join c.in-Joined.first c.in-Joined.earlier c.in-Joined.earlier c.in-Joined.last c.in-Joined.is refl
    c.is_held-in-Joined.result (list_all (λ r. are_held (g.R.Reading.told c.args.reading.now) r.part) (map reached c.in-Joined.earlier)) (c.is_held-in-Joined.ensures ∙ ap (λ x. are_held (g.R.Reading.told c.args.reading.now) (seen x)) c.get-in-Joined.ensures) refl
    c.if-is_held-2.false

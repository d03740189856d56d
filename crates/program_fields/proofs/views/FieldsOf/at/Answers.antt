use Rattle.std.proofs.Common.{◌∙◌, ap, option_map, slice_get}
use Rattle.type_heads.specs.Members.{fields_among}
use Rattle.type_members.specs.Shared.{members_in_part}
use Rattle.program_fields.specs.SeenFields.{seen_field}
use Rattle.program_fields.specs.Tables.{all_fronts, fields_in, rows_in}
use Rattle.program_fields.proofs.FrontFields.{number_here, number_later}
use Rattle.program_fields.proofs.Fronts.{all_left, own_at, own_left}
use Rattle.program_fields.proofs.SeenInside.{inside_none}
use Rattle.program_fields.proofs.views.FieldsOf.at.Goals as goal

pub loop-part-init : goal.loop-part-init
loop-part-init c =
    all_left (rows_in c.args.self.now.fields.now) c.args.self.now.span (λ ms. slice_get (fields_among ms) c.args.number) (all_fronts c.args.self.now.fields.now) c.front-part-items.result.now
    c.front-part-items.ensures

pub loop-part-preserved : goal.loop-part-preserved
loop-part-preserved c =
    number_later (rows_in c.args.self.now.fields.now) c.args.self.now.span c.front-part-items.result.now c.loop-part.part-index _ c.loop-part-test.true
    c.loop-part.left c.part_len-count.result (slice_get (fields_in c.args.self.now) c.args.number) c.part_len-count.ensures c.if-left-count.false c.loop-part.invariant

pub returns-then-left-count : goal.returns-then-left-count
returns-then-left-count c =
    number_here (rows_in c.args.self.now.fields.now) c.args.self.now.span c.front-part-items.result.now c.loop-part.part-index _ c.loop-part-test.true
    c.loop-part.left c.part_len-count.result (slice_get (fields_in c.args.self.now) c.args.number) (option_map seen_field c.part_field.result) c.part_len-count.ensures c.if-left-count.true
    c.part_field.ensures c.loop-part.invariant

pub returns : goal.returns
returns c =
    c.part_field-2.ensures
    ∙ ap (λ p. slice_get (fields_among (members_in_part (rows_in c.args.self.now.fields.now) p)) c.loop-part.left) c.first_part.ensures
    ∙ ap (λ ms. slice_get (fields_among ms) c.loop-part.left) (inside_none (own_at (rows_in c.args.self.now.fields.now) c.args.self.now.span))
    ∙ own_left (rows_in c.args.self.now.fields.now) c.args.self.now.span c.front-part-items.result.now c.loop-part.part-index (λ ms. slice_get (fields_among ms) c.loop-part.left)
    (slice_get (fields_in c.args.self.now) c.args.number) c.loop-part-test.false c.loop-part.invariant

use Rattle.std.proofs.Common.{◌∙◌, ◌++◌, [], ap, map, slice_index_or}
use Rattle.type_heads.specs.Members.{fields_among, fields_declared}
use Rattle.type_heads.specs.Types.{Member}
use Rattle.type_members.specs.Listed.{seen_listed}
use Rattle.type_members.specs.Shared.{under_inside}
use Rattle.program_fields.specs.SeenFields.{seen_field}
use Rattle.program_fields.specs.Tables.{all_fronts, lists_in, rows_in}
use Rattle.program_fields.proofs.Fronts.{all_left, given_more, left_at, own_left}
use Rattle.program_fields.proofs.SeenInside.{inside_none}
use Rattle.program_fields.proofs.tables.ProgramFields.listed.Goals as goal

pub loop-part-init : goal.loop-part-init
loop-part-init c =
    ap (λ fs. map seen_field fs ++ fields_among (left_at (rows_in c.args.self.now) c.front-part-items.result.now 0 c.span-span.result)) c.new-fields.ensures.items
    ∙ all_left (rows_in c.args.self.now) c.span-span.result fields_among (all_fronts c.args.self.now) c.front-part-items.result.now c.front-part-items.ensures
    ∙ ap fields_among c.span-span.ensures

pub loop-part-preserved : goal.loop-part-preserved
loop-part-preserved c =
    given_more (rows_in c.args.self.now) c.span-span.result c.front-part-items.result.now c.loop-part.part-index _ c.loop-part-test.true
    (λ (m : Member). fields_declared m m.written.member) (map (under_inside _) (map seen_listed c.part.result.now)) (map seen_field c.loop-part.fields.items) (map seen_field c.push_all.new.into.items)
    (fields_among (slice_index_or (lists_in c.args.self.now) c.args.of [])) (ap (map (under_inside _)) c.part.ensures) c.in_ok-push_all.ensures c.loop-part.invariant

pub returns : goal.returns
returns c =
    ap (map seen_field) c.of.ensures
    ∙ c.in_ok-push_all-2.ensures
    ∙ ap (λ ms. map seen_field c.loop-part.fields.items ++ fields_among ms) (inside_none (map seen_listed c.own.result.now) ∙ c.own.ensures)
    ∙ own_left (rows_in c.args.self.now) c.span-span.result c.front-part-items.result.now c.loop-part.part-index (λ ms. map seen_field c.loop-part.fields.items ++ fields_among ms)
    (fields_among (slice_index_or (lists_in c.args.self.now) c.args.of [])) c.loop-part-test.false c.loop-part.invariant

use Rattle.std.proofs.Common.{◌∙◌, ap, find}
use Rattle.type_heads.specs.Members.{fields_among}
use Rattle.type_members.specs.Shared.{members_in_part}
use Rattle.program_fields.specs.SeenFields.{has_name, seen_field}
use Rattle.program_fields.specs.Tables.{all_fronts, fields_in, rows_in}
use Rattle.program_fields.proofs.FrontFields.{named_split}
use Rattle.program_fields.proofs.Fronts.{all_left, none_here, one_here, own_at, own_left}
use Rattle.program_fields.proofs.SeenInside.{inside_none}
use Rattle.program_fields.proofs.views.FieldsOf.named.Goals as goal

pub loop-part-init : goal.loop-part-init
loop-part-init c =
    all_left (rows_in c.args.self.now.fields.now) c.args.self.now.span (λ ms. find (has_name c.args.name.now) (fields_among ms)) (all_fronts c.args.self.now.fields.now) c.front-part-items.result.now
    c.front-part-items.ensures

pub loop-part-preserved : goal.loop-part-preserved
loop-part-preserved c =
    none_here (rows_in c.args.self.now.fields.now) c.args.self.now.span c.front-part-items.result.now c.loop-part.part-index _ c.loop-part-test.true
    (λ ms. find (has_name c.args.name.now) (fields_among ms)) (named_split c.args.name.now) (find (has_name c.args.name.now) (fields_in c.args.self.now)) c.in-None.ensures c.loop-part.invariant

pub returns-in-Some : goal.returns-in-Some
returns-in-Some c =
    one_here (rows_in c.args.self.now.fields.now) c.args.self.now.span c.front-part-items.result.now c.loop-part.part-index _ c.loop-part-test.true
    (λ ms. find (has_name c.args.name.now) (fields_among ms)) (named_split c.args.name.now) (find (has_name c.args.name.now) (fields_in c.args.self.now)) (seen_field c.in-Some.found) c.in-Some.ensures
    c.loop-part.invariant

pub returns : goal.returns
returns c =
    c.part_named-2.ensures
    ∙ ap (λ p. find (has_name c.args.name.now) (fields_among (members_in_part (rows_in c.args.self.now.fields.now) p))) c.first_part.ensures
    ∙ ap (λ ms. find (has_name c.args.name.now) (fields_among ms)) (inside_none (own_at (rows_in c.args.self.now.fields.now) c.args.self.now.span))
    ∙ own_left (rows_in c.args.self.now.fields.now) c.args.self.now.span c.front-part-items.result.now c.loop-part.part-index (λ ms. find (has_name c.args.name.now) (fields_among ms))
    (find (has_name c.args.name.now) (fields_in c.args.self.now)) c.loop-part-test.false c.loop-part.invariant

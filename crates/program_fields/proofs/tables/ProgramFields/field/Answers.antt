use Rattle.std.proofs.Common.{◌∙◌, Some, None}
use Rattle.type_heads.specs.Types.{Member}
use Rattle.type_members.specs.Listed.{seen_listed}
use Rattle.program_fields.specs.Parts.{field_with}
use Rattle.program_fields.specs.Tables.{row_of}
use Rattle.program_fields.proofs.SeenInside.{made_inside}
use Rattle.program_fields.proofs.tables.ProgramFields.field.Goals as goal

pub returns-in-Some : goal.returns-in-Some
returns-in-Some c =
    c.field_of.ensures
    ∙ made_inside (λ (m : Member). field_with c.args.spot.name.now m m.written.member) c.args.part.now.inside (row_of c.args.self.now c.args.part.now) c.args.spot.member
    (Some (seen_listed c.in-Some.listed.now)) c.in-Some.ensures

pub returns-in-None : goal.returns-in-None
returns-in-None c =
    made_inside (λ (m : Member). field_with c.args.spot.name.now m m.written.member) c.args.part.now.inside (row_of c.args.self.now c.args.part.now) c.args.spot.member
    None c.in-None.ensures

use Rattle.std.proofs.Common.{◌∙◌, ap, option_and_then}
use Rattle.program_fields.specs.Parts.{field_at}
use Rattle.program_fields.specs.Tables.{row_inside, row_of}
use Rattle.program_fields.proofs.SeenInside.{field_inside}
use Rattle.program_fields.proofs.tables.ProgramFields.part_field.Goals as goal

pub returns-in-Some : goal.returns-in-Some
returns-in-Some c =
    c.field.ensures
    ∙ ap (option_and_then (field_at (row_inside c.args.self.now c.args.part.now))) c.in-Some.ensures
    ∙ field_inside c.args.part.now.inside c.args.part.now.from c.args.part.now.to (row_of c.args.self.now c.args.part.now) c.args.number

pub returns-in-None : goal.returns-in-None
returns-in-None c =
    ap (option_and_then (field_at (row_inside c.args.self.now c.args.part.now))) c.in-None.ensures
    ∙ field_inside c.args.part.now.inside c.args.part.now.from c.args.part.now.to (row_of c.args.self.now c.args.part.now) c.args.number

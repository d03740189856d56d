use Rattle.std.proofs.Common.{◌∙◌, Some, None}
use Rattle.type_members.specs.Listed.{seen_listed}
use Rattle.program_fields.specs.Parts.{the_do_in}
use Rattle.program_fields.specs.Tables.{row_of}
use Rattle.program_fields.proofs.SeenInside.{made_inside}
use Rattle.program_fields.proofs.tables.ProgramFields.do_of.Goals as goal

pub returns-in-Some : goal.returns-in-Some
returns-in-Some c =
    c.do_of.ensures
    ∙ made_inside the_do_in c.args.part.now.inside (row_of c.args.self.now c.args.part.now) c.args.place (Some (seen_listed c.in-Some.listed.now)) c.in-Some.ensures

pub returns-in-None : goal.returns-in-None
returns-in-None c = made_inside the_do_in c.args.part.now.inside (row_of c.args.self.now c.args.part.now) c.args.place None c.in-None.ensures

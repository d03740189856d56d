use Rattle.std.proofs.Common.{◌∙◌, ap, option_and_then, slice_get}
use Rattle.program_fields.specs.Parts.{the_do_in}
use Rattle.program_fields.specs.Tables.{row_inside, row_of}
use Rattle.program_fields.proofs.SeenInside.{do_inside}
use Rattle.program_fields.proofs.tables.ProgramFields.part_do.Goals as goal

pub returns-in-Some : goal.returns-in-Some
returns-in-Some c =
    c.do_of.ensures
    ∙ ap (λ o. option_and_then the_do_in (option_and_then (slice_get (row_inside c.args.self.now c.args.part.now)) o)) c.in-Some.ensures
    ∙ do_inside c.args.part.now.inside c.args.part.now.from c.args.part.now.to (row_of c.args.self.now c.args.part.now)

pub returns-in-None : goal.returns-in-None
returns-in-None c =
    ap (λ o. option_and_then the_do_in (option_and_then (slice_get (row_inside c.args.self.now c.args.part.now)) o)) c.in-None.ensures
    ∙ do_inside c.args.part.now.inside c.args.part.now.from c.args.part.now.to (row_of c.args.self.now c.args.part.now)

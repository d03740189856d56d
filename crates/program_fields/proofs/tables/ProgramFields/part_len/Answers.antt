use Rattle.std.proofs.Common.{◌∙◌, ap, length, sym}
use Rattle.program_fields.specs.Tables.{row_of, rows_in}
use Rattle.program_fields.proofs.Placed.{row_missing}
use Rattle.program_fields.proofs.RowSteps.{counted, no_fields}
use Rattle.program_fields.proofs.tables.ProgramFields.part_len.Goals as goal

pub returns-in-Some : goal.returns-in-Some
returns-in-Some c =
    ap length c.between.ensures ∙ counted c.in-Some.row.now (rows_in c.args.self.now) c.args.part.now.row c.args.part.now.from c.args.part.now.to c.in-Some.ensures c.args.part.now.inside

pub returns-in-None : goal.returns-in-None
returns-in-None c =
    sym (ap length (no_fields c.args.part.now.inside c.args.part.now.from c.args.part.now.to (row_of c.args.self.now c.args.part.now) (row_missing (rows_in c.args.self.now) c.args.part.now.row c.in-None.ensures)))

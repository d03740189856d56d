use Rattle.std.proofs.Common.{sym}
use Rattle.program_fields.specs.Tables.{row_of, rows_in}
use Rattle.program_fields.proofs.Placed.{row_missing}
use Rattle.program_fields.proofs.RowSteps.{do_among, no_dos}
use Rattle.program_fields.proofs.tables.ProgramFields.do_place.Goals as goal

pub returns-in-Some : goal.returns-in-Some
returns-in-Some c =
    do_among c.in-Some.row.now (rows_in c.args.self.now) c.args.part.now.row c.args.part.now.from c.args.part.now.to c.in-Some.ensures c.do_between.result c.do_between.ensures

pub returns-in-None : goal.returns-in-None
returns-in-None c =
    sym (no_dos c.args.part.now.from c.args.part.now.to (row_of c.args.self.now c.args.part.now) (row_missing (rows_in c.args.self.now) c.args.part.now.row c.in-None.ensures))

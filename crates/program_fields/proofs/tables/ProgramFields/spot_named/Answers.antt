use Rattle.std.proofs.Common.{ap, find, sym}
use Rattle.program_fields.specs.Parts.{has_text}
use Rattle.program_fields.specs.Tables.{row_of, rows_in}
use Rattle.program_fields.proofs.Placed.{row_missing}
use Rattle.program_fields.proofs.RowSteps.{named_among, no_spots}
use Rattle.program_fields.proofs.tables.ProgramFields.spot_named.Goals as goal

pub returns-in-Some : goal.returns-in-Some
returns-in-Some c =
    named_among c.in-Some.row.now (rows_in c.args.self.now) c.args.part.now.row c.args.part.now.from c.args.part.now.to c.in-Some.ensures c.args.name.now c.spot_named.result
    c.spot_named.ensures

pub returns-in-None : goal.returns-in-None
returns-in-None c =
    sym
    (ap (find (has_text c.args.name.now))
    (no_spots c.args.part.now.from c.args.part.now.to (row_of c.args.self.now c.args.part.now) (row_missing (rows_in c.args.self.now) c.args.part.now.row c.in-None.ensures)))

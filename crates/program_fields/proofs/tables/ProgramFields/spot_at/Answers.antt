use Rattle.std.proofs.Common.{ap, slice_get, sym}
use Rattle.program_fields.specs.Tables.{row_of, rows_in}
use Rattle.program_fields.proofs.Placed.{row_missing}
use Rattle.program_fields.proofs.RowSteps.{no_spots, numbered}
use Rattle.program_fields.proofs.tables.ProgramFields.spot_at.Goals as goal

pub returns-in-Some : goal.returns-in-Some
returns-in-Some c =
    numbered c.in-Some.row.now (rows_in c.args.self.now) c.args.part.now.row c.args.part.now.from c.args.part.now.to c.in-Some.ensures c.args.number c.spot_at.result c.spot_at.ensures

pub returns-in-None : goal.returns-in-None
returns-in-None c =
    sym
    (ap (λ ss. slice_get ss c.args.number)
    (no_spots c.args.part.now.from c.args.part.now.to (row_of c.args.self.now c.args.part.now) (row_missing (rows_in c.args.self.now) c.args.part.now.row c.in-None.ensures)))

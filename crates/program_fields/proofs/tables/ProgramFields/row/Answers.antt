use Rattle.program_fields.specs.Tables.{rows_in}
use Rattle.program_fields.proofs.RowSteps.{row_got}
use Rattle.program_fields.proofs.tables.ProgramFields.row.Goals as goal

pub returns : goal.returns
returns c = row_got c.deref.result.now c.args.self.now.rows.items (rows_in c.args.self.now) c.args.number c.get.result c.get.ensures.lookup c.deref.ensures.value c.args.self.now.rows_are

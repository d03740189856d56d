use Rattle.run_exports.proofs.CsvBack.{table_back}
use Rattle.run_exports.proofs.laws.tables_are_read_back.Goals as goal

pub returns : goal.returns
returns c = table_back

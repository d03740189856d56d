use Rattle.search_answers.proofs.Accepted.{spent_open}
use Rattle.search_answers.proofs.laws.written_records_are_open.Goals as goal

pub returns : goal.returns
returns c = λ scene seed cuts claim expanded limited. spent_open scene expanded limited seed cuts claim

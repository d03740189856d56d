use Rattle.search_answers.proofs.Accepted.{spent_within}
use Rattle.search_answers.proofs.laws.written_records_are_within_limit.Goals as goal

pub returns : goal.returns
returns c = λ scene seed cuts claim expanded limited. spent_within scene expanded limited seed cuts claim

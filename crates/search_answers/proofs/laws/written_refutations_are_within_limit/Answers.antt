use Rattle.search_answers.proofs.Accepted.{refutation_within}
use Rattle.search_answers.proofs.laws.written_refutations_are_within_limit.Goals as goal

pub returns : goal.returns
returns c = λ scene seed cuts claim expanded limited. refutation_within scene expanded limited seed cuts claim

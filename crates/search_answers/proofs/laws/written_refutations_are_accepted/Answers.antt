use Rattle.search_answers.proofs.Accepted.{refutation_accepted}
use Rattle.search_answers.proofs.laws.written_refutations_are_accepted.Goals as goal

pub returns : goal.returns
returns c = λ scene seed cuts claim expanded limited. refutation_accepted scene expanded limited seed cuts claim

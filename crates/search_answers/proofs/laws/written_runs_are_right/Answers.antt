use Rattle.search_answers.proofs.Accepted.{reached_right}
use Rattle.search_answers.proofs.laws.written_runs_are_right.Goals as goal

pub returns : goal.returns
returns c = reached_right

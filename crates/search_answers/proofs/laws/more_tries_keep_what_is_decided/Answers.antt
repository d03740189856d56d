use Rattle.search_answers.proofs.Tries.{more_tries}
use Rattle.search_answers.proofs.laws.more_tries_keep_what_is_decided.Goals as goal

pub returns : goal.returns
returns c = more_tries

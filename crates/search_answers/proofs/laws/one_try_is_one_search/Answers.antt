use Rattle.search_answers.proofs.Tries.{one_try}
use Rattle.search_answers.proofs.laws.one_try_is_one_search.Goals as goal

pub returns : goal.returns
returns c = one_try

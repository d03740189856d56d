use Rattle.run_exports.proofs.PageBack.{page_back}
use Rattle.run_exports.proofs.laws.pages_are_read_back.Goals as goal

pub returns : goal.returns
returns c = page_back

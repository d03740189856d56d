use Rattle.field_flatten.proofs.Exact.{exact}
use Rattle.field_flatten.proofs.laws.scenes_are_exact.Goals as goal

pub returns : goal.returns
returns c = exact

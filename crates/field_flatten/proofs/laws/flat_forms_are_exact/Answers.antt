use Rattle.field_flatten.proofs.Exact.{exact_flat}
use Rattle.field_flatten.proofs.laws.flat_forms_are_exact.Goals as goal

pub returns : goal.returns
returns c = exact_flat

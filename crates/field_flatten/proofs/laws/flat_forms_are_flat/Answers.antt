use Rattle.field_flatten.proofs.FlatForms.{flat_form}
use Rattle.field_flatten.proofs.laws.flat_forms_are_flat.Goals as goal

pub returns : goal.returns
returns c = flat_form

use Rattle.first_form.proofs.FirstReading.{read_same}
use Rattle.first_form.proofs.laws.first_runs_are_read.Goals as goal

pub returns : goal.returns
returns c = read_same

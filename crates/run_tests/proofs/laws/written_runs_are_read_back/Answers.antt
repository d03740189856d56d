use Rattle.run_tests.proofs.RoundTrips.{text_back}
use Rattle.run_tests.proofs.laws.written_runs_are_read_back.Goals as goal

pub returns : goal.returns
returns c = text_back

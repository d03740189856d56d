use Rattle.run_tests.proofs.Migrations.{migrated_back}
use Rattle.run_tests.proofs.laws.migrations_are_read_back.Goals as goal

pub returns : goal.returns
returns c = migrated_back

use Rattle.loaded_programs.proofs.TreeTests.{trees_pass_tests}
use Rattle.loaded_programs.proofs.laws.trees_pass_tests.Goals as goal

pub returns : goal.returns
returns c = trees_pass_tests

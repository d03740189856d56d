use Rattle.modifier_meaning.proofs.UnfoldedFiles.{unfolded_files_mean}
use Rattle.modifier_meaning.proofs.laws.unfolded_files_mean.Goals as goal

pub returns : goal.returns
returns c = unfolded_files_mean

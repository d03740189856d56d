use Rattle.run_exports.proofs.Written.{two_written}
use Rattle.run_exports.proofs.world.push_along_part.Goals as goal

pub returns : goal.returns
returns c = two_written _ _ _ _ _ _ c.in_ok-push_str.ensures.bytes c.push_along.ensures

use Rattle.run_exports.proofs.Written.{three_written}
use Rattle.run_exports.proofs.storyboard.push_corner_part.Goals as goal

pub returns : goal.returns
returns c = three_written _ _ _ _ _ _ _ _ c.in_ok-push_str.ensures.bytes c.in_ok-push_position.ensures c.push_part.ensures

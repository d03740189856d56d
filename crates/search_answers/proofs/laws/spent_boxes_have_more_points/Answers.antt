use Rattle.search_answers.proofs.Accepted.{spent_more}
use Rattle.search_answers.proofs.laws.spent_boxes_have_more_points.Goals as goal

pub returns : goal.returns
returns c = spent_more

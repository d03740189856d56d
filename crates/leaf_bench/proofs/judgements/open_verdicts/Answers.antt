use Rattle.std.proofs.lemmas.Result.{IfOk-weaker}
use Rattle.leaf_bench.proofs.Modest.{one_a_round}
use Rattle.leaf_bench.proofs.judgements.open_verdicts.Goals as goal

pub returns : goal.returns
returns c = IfOk-weaker c.judge_boxes.result _ _ (λ count is. one_a_round count c.args.rounds is) c.judge_boxes.ensures

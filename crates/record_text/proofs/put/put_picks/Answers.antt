use Rattle.std.proofs.Common.{◌∙◌}
use Rattle.record_text.proofs.Writing.{pick_fails, exit_part}
use Rattle.record_text.proofs.Putting.{put_next}
use Rattle.record_text.proofs.put.put_picks.Goals as goal

pub returns-in_err-put-clause-part : goal.returns-in_err-put-clause-part
returns-in_err-put-clause-part g c = exit_part c.from_residual.result _ _ _ (pick_fails c.args.picks.now c.loop-rest.rest.now _ _ _ _ _ c.loop-rest.invariant.put c.in_err-put.ensures.part)

pub loop-rest-preserved : goal.loop-rest-preserved
loop-rest-preserved g c = record {
  put = put_next c.args.picks.now c.loop-rest.rest.now _ _ _ _ _ _ _ c.piece_of_pick.result c.loop-rest.invariant.put c.in-len1-up.len_at_least
      c.piece_of_pick.ensures.piece c.piece_of_pick.ensures.few_rule c.in_ok-put.ensures.puts;
  counted = c.in_ok-put.ensures.steady ∙ c.loop-rest.invariant.counted;
  telling = c.in_ok-put.ensures.telling_kept ∙ c.loop-rest.invariant.telling;
}

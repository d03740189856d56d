use Rattle.record_text.proofs.Writing.{part_first, sum_fails_picks, exit_part}
use Rattle.record_text.proofs.Putting.{sum_puts, sum_part}
use Rattle.record_text.proofs.put.put_sum.Goals as goal

pub returns-in_err-put-clause-part : goal.returns-in_err-put-clause-part
returns-in_err-put-clause-part g c = exit_part c.from_residual.result _ _ _ (part_first _ _ _ _ c.in_err-put.ensures.part)

pub returns-in_err-put_picks-clause-part : goal.returns-in_err-put_picks-clause-part
returns-in_err-put_picks-clause-part g c = exit_part c.from_residual-in_err-put_picks.result _ _ _
    (sum_fails_picks c.args.picks.now _ _ _ _ _ c.in_ok-put.ensures.puts c.in_err-put_picks.ensures.part)

pub returns-clause-puts : goal.returns-clause-puts
returns-clause-puts g c = sum_puts c.put-2.result c.args.picks.now _ _ _ _ _ _ _ _ c.in_ok-put.ensures.puts c.in_ok-put_picks.ensures.puts c.put-2.ensures.puts

pub returns-clause-part : goal.returns-clause-part
returns-clause-part g c = sum_part c.put-2.result c.args.picks.now _ _ _ _ _ _ _ c.in_ok-put.ensures.puts c.in_ok-put_picks.ensures.puts c.put-2.ensures.part

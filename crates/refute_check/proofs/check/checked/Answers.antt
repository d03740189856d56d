use Rattle.refute_check.proofs.Verdicts.{answer, some_answer, exit_after, exit_later}
use Rattle.refute_check.proofs.check.checked.Goals as goal

pub returns-in_err-refused-clause-stop : goal.returns-in_err-refused-clause-stop
returns-in_err-refused-clause-stop g c = exit_after c.from_residual-in_err-refused.result c.in_err-refused.field-0.0 c.in_ok-header.header _ _ _ _ _ _ c.new-reader.ensures
    c.in_ok-header.ensures.header c.new-nodes.ensures c.from_residual-in_err-refused.ensures.1 c.in_err-refused.ensures.stop

pub returns-in_err-read_rest-clause-stop : goal.returns-in_err-read_rest-clause-stop
returns-in_err-read_rest-clause-stop g c = exit_later c.args.flat.now c.from_residual-in_err-read_rest.result c.in_err-read_rest.field-0.0 c.in_ok-header.header c.in_ok-refused.refused _ _ _ _ _ _ _ _ _ c.new-reader.ensures
    c.in_ok-header.ensures.header c.new-nodes.ensures c.in_ok-refused.ensures.judged c.from_residual-in_err-read_rest.ensures.1 c.in_err-read_rest.ensures.stop

pub returns-clause-answer : goal.returns-clause-answer
returns-clause-answer g c = answer c.args.flat.now c.in_ok-header.header c.in_ok-refused.refused _ _ _ c.verdict_of.result _ _ _ _ _ _ _ c.new-reader.ensures
    c.in_ok-header.ensures.header c.new-nodes.ensures c.in_ok-refused.ensures.judged c.in_ok-read_rest.ensures.rest c.verdict_of.ensures

pub returns-clause-some_text : goal.returns-clause-some_text
returns-clause-some_text g c = some_answer c.args.flat.now c.in_ok-header.header c.in_ok-refused.refused _ _ _ c.verdict_of.result _ _ _ _ _ _ _ c.new-reader.ensures
    c.in_ok-header.ensures.header c.new-nodes.ensures c.in_ok-refused.ensures.judged c.in_ok-read_rest.ensures.rest c.verdict_of.ensures

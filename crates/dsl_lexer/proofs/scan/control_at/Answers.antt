use Rattle.dsl_lexer.proofs.Walks.{control_here, control_later, control_nowhere}
use Rattle.std.proofs.Common.{arith, sym, ◌∙◌}
use Rattle.dsl_lexer.proofs.scan.control_at.Goals as goal

pub returns-then-begins_control-clause-value : goal.returns-then-begins_control-clause-value
returns-then-begins_control-clause-value c = control_here c.args.text.now c.loop-i.i _ c.loop-i.invariant (omega arith) (sym c.begins_control.ensures ∙ c.if-begins_control.true)

pub loop-i-preserved : goal.loop-i-preserved
loop-i-preserved c = control_later c.args.text.now c.loop-i.i _ c.loop-i.invariant (omega arith) (sym c.begins_control.ensures ∙ c.if-begins_control.false)

pub returns-clause-value : goal.returns-clause-value
returns-clause-value c = control_nowhere c.args.text.now c.loop-i.i _ c.loop-i.invariant (omega arith)

use Rattle.refute_check.proofs.Closes.{can_judge, closes, does_not_close}
use Rattle.refute_check.proofs.step.accepts_close.Goals as goal

pub judge-requires-clause-slots : goal.judge-requires-clause-slots
judge-requires-clause-slots c = (can_judge c.args.flat.now _ c.args.rule c.as_slice-rules.result.now c.index-rules-rule.result c.requires.flat c.mark-mark.ensures.ordered c.requires.inside
    c.as_slice-rules.ensures c.if-rule-rules.false c.index-rules-rule.is).slots

pub judge-requires-clause-reach : goal.judge-requires-clause-reach
judge-requires-clause-reach c = (can_judge c.args.flat.now _ c.args.rule c.as_slice-rules.result.now c.index-rules-rule.result c.requires.flat c.mark-mark.ensures.ordered c.requires.inside
    c.as_slice-rules.ensures c.if-rule-rules.false c.index-rules-rule.is).reach

pub returns-in-False : goal.returns-in-False
returns-in-False c = closes c.args.flat.now _ c.args.rule c.as_slice-rules.result.now c.index-rules-rule.result c.requires.flat c.mark-mark.ensures.ordered c.requires.inside
    c.as_slice-rules.ensures c.if-rule-rules.false c.index-rules-rule.is
    c.judge.result c.judge.ensures.verdict c.in-False.is

pub returns-in_default : goal.returns-in_default
returns-in_default c = does_not_close c.args.flat.now _ c.args.rule c.as_slice-rules.result.now c.index-rules-rule.result c.requires.flat c.mark-mark.ensures.ordered c.requires.inside
    c.as_slice-rules.ensures c.if-rule-rules.false c.index-rules-rule.is
    c.judge.result c.judge.ensures.verdict c.in_default.not-False

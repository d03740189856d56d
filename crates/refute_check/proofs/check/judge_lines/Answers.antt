use Rattle.std.proofs.Common.{sym, ◌∙◌, ap}
use Rattle.bound_trail.specs.History.{History}
use Rattle.std.proofs.lemmas.Result.{IfOk-weaker}
use Rattle.refute_check.proofs.Verdicts.{header_refused, walk_judges, none_of}
use Rattle.refute_check.proofs.check.judge_lines.Goals as goal

pub returns-in-Some-clause-judged : goal.returns-in-Some-clause-judged
returns-in-Some-clause-judged g c = header_refused c.args.flat.now c.args.header.now _ _ _ c.in-Some.line c.requires.few (sym c.refused_header.ensures ∙ c.in-Some.is)

pub returns-clause-judged : goal.returns-clause-judged
returns-clause-judged g c = IfOk-weaker c.walk.result _ _
    (λ refused w. walk_judges c.args.flat.now c.args.header.now _ refused _ _ _ _ _ _ (none_of c.refused_header.result _ c.refused_header.ensures c.in_default.not-Some) (ap (λ (h : History). h.room) c.in_ok-trail.ensures) c.requires.four w)
    c.walk.ensures.walked

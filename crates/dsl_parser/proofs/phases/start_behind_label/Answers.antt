use Rattle.std.proofs.Common.{sym, ◌∙◌}
use Rattle.dsl_parser.proofs.StartForms.{head_started, wait_labelled}
use Rattle.dsl_parser.proofs.phases.start_behind_label.Goals as goal

pub returns-then-begins_head : goal.returns-then-begins_head
returns-then-begins_head c = head_started _ _ c.in_ok-rest.rest _ _ _ _ (sym c.begins_head.ensures ∙ c.if-begins_head.true) c.in_ok-head.ensures c.in_ok-rest.ensures c.invoke.ensures

pub returns : goal.returns
returns c = wait_labelled _ _ _ _ _ _ (sym c.begins_head.ensures ∙ c.if-begins_head.false) (sym c.begins_composition.ensures ∙ c.if-begins_composition.false) c.in_ok-place.ensures c.waiting.ensures

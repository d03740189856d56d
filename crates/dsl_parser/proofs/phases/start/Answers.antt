use Rattle.std.proofs.Common.{sym, ◌∙◌}
use Rattle.dsl_parser.proofs.StartForms.{wait_started}
use Rattle.dsl_parser.proofs.phases.start.Goals as goal

pub returns : goal.returns
returns c =
    wait_started _ _ _ _ _ _ (sym c.begins_name.ensures ∙ c.if-begins_name.false) (sym c.begins_composition.ensures ∙ c.if-begins_composition.false) c.in_default.ensures.0 c.in_default.ensures.1
    c.in_ok-place.ensures c.waiting.ensures

use Rattle.std.proofs.Common.{◌∙◌, ap, map, ℕ}
use Rattle.dsl_tree.specs.Views.{argument_tree, modifier_tree}
use Rattle.object_works.specs.scene_expansion.composition.Tokens.{arguments_tokens}
use Rattle.object_works.specs.scene_expansion.program_calls.SeenModifiers.{seen_form}
use Rattle.object_works.specs.scene_expansion.scene_texts.Capped.{capped}
use Rattle.work_counts.specs.declared.tally.Tally.{Tally}
use Rattle.work_counts.specs.Amounts.{kept}
use Rattle.work_counts.proofs.Sums.{kept_times, times_joined}
use Rattle.work_parts.proofs.PhaseLaws.{modifier_some}
use Rattle.work_parts.proofs.phases.modifier_tally.Goals as goal

abbrev with_tokens : ℕ → Tally
with_tokens n = record { rules = capped 1; tokens = n }

pub returns-in-Some : goal.returns-in-Some
returns-in-Some c =
    c.times.ensures
    ∙ ap (times_joined c.args.ticks) (c.rule.ensures ∙ ap with_tokens (c.arguments_tokens.ensures ∙ ap (λ xs. capped (arguments_tokens (map argument_tree xs))) c.as_slice.ensures))
    ∙ kept_times c.args.ticks (record { rules = 1; tokens = arguments_tokens (map argument_tree c.args.modifier.now.arguments) })
    ∙ ap kept (modifier_some c.args.ticks (modifier_tree c.args.modifier.now) (seen_form c.in-Some.field-0) c.in-Some.ensures)

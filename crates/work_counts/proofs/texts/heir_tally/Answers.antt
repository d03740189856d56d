use Rattle.std.proofs.Common.{◌∙◌, ◌+◌, ap, ℕ}
use Rattle.program_texts.specs.scene_texts.Capped.{capped}
use Rattle.program_texts.specs.type_heads.Members.{field}
use Rattle.program_texts.specs.SeenTexts.{types_in}
use Rattle.work_counts.specs.declared.tally.Tally.{Tally}
use Rattle.work_counts.specs.Amounts.{kept}
use Rattle.work_counts.proofs.HeirForms.{heir_none, heir_some}
use Rattle.work_counts.proofs.texts.heir_tally.Goals as goal

abbrev with_tokens : ℕ → Tally
with_tokens n = record { rules = capped 1; tokens = n }

pub returns-in-Some : goal.returns-in-Some
returns-in-Some c =
    c.rule.ensures ∙ ap with_tokens (c.add.ensures ∙ ap (λ n. capped (2 + n)) c.value_tokens.ensures)
    ∙ ap kept (heir_some (types_in c.args.texts.now) c.args.of c.args.condition.now c.field.result (c.field.ensures ∙ ap (field (types_in c.args.texts.now) c.args.of) c.as_str.ensures) c.in-Some.field-0 c.in-Some.is)

pub returns-in-None : goal.returns-in-None
returns-in-None c =
    c.none.ensures ∙ ap kept (heir_none (types_in c.args.texts.now) c.args.of c.args.condition.now c.field.result (c.field.ensures ∙ ap (field (types_in c.args.texts.now) c.args.of) c.as_str.ensures) c.in-None.is)

use Rattle.std.proofs.Common.{◌∙◌, ap, length, sym}
use Rattle.dsl_tree.specs.Views.{field_tree, member_tree}
use Rattle.program_texts.specs.SeenTexts.{types_in}
use Rattle.work_counts.specs.Amounts.{kept}
use Rattle.work_counts.specs.TextAmounts.{field_amount, member_amount, times_amount}
use Rattle.work_counts.proofs.Sums.{kept_times, times_joined}
use Rattle.work_counts.proofs.members.member_tally.Goals as goal

pub returns-in-Field : goal.returns-in-Field
returns-in-Field c =
    c.times.ensures ∙ ap (times_joined (length c.as_slice-names.result.now)) c.field_tally.ensures
    ∙ kept_times (length c.as_slice-names.result.now) (field_amount (types_in c.args.texts.now) (field_tree c.in-Field.decl))
    ∙ ap (λ ns. kept (times_amount (length ns) (field_amount (types_in c.args.texts.now) (field_tree c.in-Field.decl)))) c.as_slice-names.ensures
    ∙ ap (λ m. kept (member_amount (types_in c.args.texts.now) (member_tree m))) (sym c.in-Field.is)

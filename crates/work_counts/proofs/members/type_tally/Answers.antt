use Rattle.std.proofs.Common.{◌∙◌, ap, ap₂, length}
use Rattle.program_texts.specs.type_heads.Table.{Table, base, bases, line_within}
use Rattle.program_texts.specs.SeenTexts.{types_in}
use Rattle.work_counts.specs.Amounts.{kept, sum_of}
use Rattle.work_counts.specs.TextAmounts.{base_amount}
use Rattle.work_counts.proofs.Sums.{joined, kept_plus}
use Rattle.work_counts.proofs.members.type_tally.Goals as goal

pub returns : goal.returns
returns c =
    c.with.ensures
    ∙ ap₂ joined c.base_tally-own.ensures
    (c.line_tally.ensures
    ∙ ap (λ o. kept (sum_of (base_amount (types_in c.args.texts.now) c.args.of) (line_within (length (types_in c.args.texts.now).table.heads) (types_in c.args.texts.now).table.heads o)))
    (c.base.ensures ∙ ap (λ (t : Table). base t.heads c.args.of) c.types.ensures))
    ∙ kept_plus (base_amount (types_in c.args.texts.now) c.args.of c.args.of) (sum_of (base_amount (types_in c.args.texts.now) c.args.of) (bases (types_in c.args.texts.now).table.heads c.args.of))

use Rattle.std.proofs.Common.{drop, map}
use Rattle.dsl_tree.specs.Views.{argument_tree}
use Rattle.work_counts.specs.program_fields.Tables.{fields_in}
use Rattle.work_counts.specs.program_texts.SeenTexts.{types_in}
use Rattle.work_counts.specs.Amounts.{kept}
use Rattle.work_counts.proofs.Sums.{Counted}
use Rattle.work_parts.specs.Arguments.{arguments_amount}
use Rattle.work_parts.proofs.arguments.given_tally.Given as goal

abbrev pub invariant-loop-place : goal.invariant-loop-place
invariant-loop-place l = Counted l.all
    (kept (arguments_amount (types_in l.texts).table l.of (fields_in l.fields) l.place (map argument_tree (drop l.place l.arguments))))
    (kept (arguments_amount (types_in l.texts).table l.of (fields_in l.fields) 0 (map argument_tree l.arguments)))

use Rattle.std.proofs.Common.{◌∙◌, ap, ap₂, is_some, map, option_map}
use Rattle.std.specs.Option.{option_map_or}
use Rattle.dsl_tree.specs.Views.{expr_tree, field_tree, rule_tree}
use Rattle.program_texts.specs.type_heads.Members.{declared_type}
use Rattle.program_texts.specs.SeenTexts.{types_in}
use Rattle.work_counts.specs.Amounts.{kept, no_amount, plus, sum_of}
use Rattle.work_counts.specs.TextAmounts.{initial_amount, rule_amount, type_amount}
use Rattle.work_counts.proofs.Sums.{joined, kept_plus}
use Rattle.work_counts.proofs.members.field_tally.Goals as goal

pub returns : goal.returns
returns c =
    let ts = types_in c.args.texts.now in
    let conditions = option_map_or (type_amount ts) (declared_type ts (field_tree c.args.decl.now)) no_amount in
    let rules = sum_of rule_amount (map rule_tree c.args.decl.now.rules) in
    let initial = option_map_or (initial_amount (is_some c.args.decl.now.list)) (option_map expr_tree c.args.decl.now.initial) no_amount in
    c.with-2.ensures
    ∙ ap₂ joined (c.declared_tally-conditions.ensures ∙ ap (λ o. kept (option_map_or (type_amount ts) o no_amount)) c.declared_type.ensures)
    (c.with.ensures
    ∙ ap₂ joined (c.rules_tally-rules.ensures ∙ ap (λ rs. kept (sum_of rule_amount (map rule_tree rs))) c.as_slice.ensures)
    (c.given_tally-initial.ensures ∙ ap (λ b. kept (option_map_or (initial_amount b) (option_map expr_tree c.args.decl.now.initial) no_amount)) c.is_some.ensures)
    ∙ kept_plus rules initial)
    ∙ kept_plus conditions (plus rules initial)

use Rattle.std.proofs.Common.{◌≡◌, ◌∙◌, [], ap₂, flat_map, map, option_map}
use Rattle.std.specs.Option.{option_map_or}
use Rattle.osc_base.specs.FaultRows.{first_from}
use Rattle.dsl_tree.specs.Views.{field_tree, rule_tree}
use Rattle.expr_nodes.specs.SeenNames.{seen_it, seen_scope}
use Rattle.program_calls.specs.composition.Uses.{rule_rows}
use Rattle.program_uses.specs.FieldRows.{field_in, field_it, initial_in}
use Rattle.program_uses.proofs.RowSteps.{if_ok, two}
use Rattle.program_uses.proofs.fields.with_field.Goals as goal

pub returns : goal.returns
returns c =
    let table = c.args.types.now.table in
    let sc = seen_scope c.args.scope.now in
    let ft = field_tree c.args.field.now in
    if_ok (λ f. f ≡ first_from c.in_ok-valued.valued (flat_map (rule_rows table (record sc { it = option_map seen_it c.in_ok-it.it })) (map rule_tree c.as_slice.result.now)))
    (λ f. f ≡ first_from c.args.first (field_in table sc ft))
    (λ f is. two (option_map_or (initial_in table sc ft) ft.initial []) (flat_map (rule_rows table (record sc { it = field_it table ft })) ft.rules) c.args.first c.in_ok-valued.valued f c.in_ok-valued.ensures
    (is ∙ ap₂ (λ i rs. first_from c.in_ok-valued.valued (flat_map (rule_rows table (record sc { it = i })) (map rule_tree rs))) c.in_ok-it.ensures c.as_slice.ensures))
    c.with_rules.result c.with_rules.ensures

use Rattle.std.proofs.Common.{◌∙◌, ap, false, filter, filter_map, map, option_map, true}
use Rattle.dsl_tree.specs.Views.{argument_tree, modifier_tree}
use Rattle.composition.specs.ModifierLines.{named_value, unnamed_value}
use Rattle.program_calls.specs.declared.few.Few.{Few}
use Rattle.program_calls.specs.Fews.{few_from, few_map}
use Rattle.program_calls.specs.SeenModifiers.{named_as, seen_form, seen_named, seen_value}
use Rattle.program_calls.proofs.ModifierFews.{no_moment, one_moment}
use Rattle.program_calls.proofs.modifier_forms.modifier_form.Goals as goal

pub returns-in-Some : goal.returns-in-Some
returns-in-Some c =
    one_moment (modifier_tree c.args.modifier.now) (few_map seen_named c.named_of.result)
    (c.named_of.ensures ∙ ap (λ xs. few_from Few.Absent (filter (named_as true) (filter_map named_value (map argument_tree xs)))) c.as_slice-arguments.ensures)
    c.in-Some.moment c.as_str-name.result.now (few_map seen_value c.values_of.result) (few_map seen_named c.named_of-other.result) (option_map seen_form c.form_with.result)
    c.in-Some.ensures c.as_str-name.ensures
    (c.values_of.ensures ∙ ap (λ xs. few_from Few.Absent (filter_map unnamed_value (map argument_tree xs))) c.as_slice-arguments.ensures)
    (c.named_of-other.ensures ∙ ap (λ xs. few_from Few.Absent (filter (named_as false) (filter_map named_value (map argument_tree xs)))) c.as_slice-arguments.ensures)
    c.form_with.ensures

pub returns-in-None : goal.returns-in-None
returns-in-None c =
    no_moment (modifier_tree c.args.modifier.now) (few_map seen_named c.named_of.result)
    (c.named_of.ensures ∙ ap (λ xs. few_from Few.Absent (filter (named_as true) (filter_map named_value (map argument_tree xs)))) c.as_slice-arguments.ensures)
    c.in-None.ensures

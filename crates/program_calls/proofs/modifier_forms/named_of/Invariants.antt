use Rattle.std.proofs.Common.{◌≡◌, drop, filter, filter_map, map}
use Rattle.dsl_tree.specs.Views.{argument_tree}
use Rattle.composition.specs.ModifierLines.{named_value}
use Rattle.program_calls.specs.declared.few.Few.{Few}
use Rattle.program_calls.specs.Fews.{few_from, few_map}
use Rattle.program_calls.specs.SeenModifiers.{named_as, seen_named}
use Rattle.program_calls.proofs.modifier_forms.named_of.Given as goal

abbrev pub invariant-loop-argument : goal.invariant-loop-argument
invariant-loop-argument l = few_from (few_map seen_named l.found) (filter (named_as l.are_at) (filter_map named_value (map argument_tree (drop l.argument-index l.arguments))))
    ≡ few_from Few.Absent (filter (named_as l.are_at) (filter_map named_value (map argument_tree l.arguments)))

-- How many rules and copied tokens the parts of a `with:` have, and how many slots a composition has.
use Rattle.std.specs.Prelude.{ℕ}
use Rattle.std.specs.Option.{option_map_or}
use Rattle.dsl_tree.specs.declared.phases.CompKind.{CompKind}
use Rattle.dsl_tree.specs.PhaseTree.{ModifierTree, PartTree}
use Rattle.object_works.specs.scene_expansion.composition.ModifierLines.{ModifierForm, modifier_form}
use Rattle.object_works.specs.scene_expansion.composition.Tokens.{arguments_tokens}
use Rattle.work_counts.specs.Amounts.{Amount, no_amount}
use Rattle.work_counts.specs.TextAmounts.{rule_amount, times_amount}

-- of a modifier, given the number of ticks: a rule and its tokens at each
abbrev pub modifier_amount : ℕ → ModifierTree → Amount
modifier_amount ticks m = option_map_or (λ (f : ModifierForm). times_amount ticks (record { rules = 1; tokens = arguments_tokens m.arguments })) (modifier_form m) no_amount

-- of a rule or a modifier
abbrev pub part_amount : ℕ → PartTree → Amount
part_amount ticks (PartTree.RulePart r) = rule_amount r
part_amount ticks (PartTree.ModifierPart m) = modifier_amount ticks m

-- a `one_of` has a slot for its choice
abbrev pub composition_slots : CompKind → ℕ
composition_slots CompKind.Serial = 2
composition_slots CompKind.Parallel = 2
composition_slots CompKind.OneOf = 3

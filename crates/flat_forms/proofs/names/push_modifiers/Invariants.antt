use Rattle.std.proofs.Common.{◌≡◌, ◌++◌, map, take, flat_map}
use Rattle.osc_base.specs.declared.listing.RuleName.{RuleName}
use Rattle.std.specs.List.{range_with_len}
use Rattle.scene_rules.specs.composition.SeenParts.{seen_modifier}
use Rattle.flat_forms.proofs.names.push_modifiers.Given as goal

abbrev pub invariant-modifiers : goal.invariant-modifiers
invariant-modifiers l = l.names ≡ l.fn.names ++ flat_map (λ m. map (RuleName.Modifier m.place) (range_with_len 0 l.count)) (map seen_modifier (take l.modifier-index l.modifiers))

-- Worked scenes meet what the laws of exactness need.
use Rattle.std.specs.Prelude.{◌≡◌, refl, ◌&&◌, Bool, true, Some}
use Rattle.std.specs.List.{list_all}
use Rattle.osc_base.specs.LowestTerms.{gcd, lcm}
use Rattle.type_heads.specs.DeclaredTypes.{types_of}
use Rattle.field_flatten.specs.composition.declared.spot.ValueSpot.{ValueSpot}
use Rattle.field_flatten.specs.composition.Scenes.{Scene, Spot, source, values}
use Rattle.field_flatten.specs.composition.Expanded.{scene}
use Rattle.field_flatten.specs.Seen.{has_values}
use Rattle.field_flatten.specs.Exactness.{IsExpanded, IsLimited, expressions, is_value_source, is_ordered_range, is_narrow_range}
use Rattle.definition_rows.proofs.Makers.{within, of_top}
use Rattle.definition_rows.proofs.Sources.{cargo_truck, removed_before}
use Rattle.definition_rows.proofs.VehicleSources.{not_chosen, robot}
use Rattle.definition_rows.proofs.CutInSource.{cut_in}
use Rattle.definition_rows.proofs.Scenes.{not_chosen_is_scene}

not_chosen_is_expanded : IsExpanded (scene (types_of not_chosen) 5 (within 10))
unfolding types_of gcd lcm
not_chosen_is_expanded = record { is_scene = not_chosen_is_scene; all_values = refl; no_durations = refl; enums_ordered = refl }

not_chosen_is_limited : IsLimited (scene (types_of not_chosen) 5 (within 10))
unfolding types_of gcd lcm
not_chosen_is_limited = record { spots_small = refl; occurrences_small = refl; modifiers_small = refl; few_texts = refl; few_members = refl; narrow_ranges = refl }

-- each expression is of values, no duration is a field, numbers of enums ascend, and ranges of modifiers are narrow
abbrev meets_tests : Scene → Bool
meets_tests sc =
    list_all has_values (expressions sc)
    && (list_all (λ (s : Spot). is_value_source (source sc s.path)) sc.spots
    && (list_all (λ (v : ValueSpot). is_ordered_range v.range) (values sc) && list_all is_narrow_range sc.modifiers))

truck : of_top cargo_truck (within 100) meets_tests ≡ Some true
unfolding types_of gcd lcm
truck = refl

removed : of_top removed_before (within 100) meets_tests ≡ Some true
unfolding types_of gcd lcm
removed = refl

robots : of_top robot (within 10) meets_tests ≡ Some true
unfolding types_of gcd lcm
robots = refl

lanes_change : of_top cut_in (within 100) meets_tests ≡ Some true
unfolding types_of gcd lcm
lanes_change = refl

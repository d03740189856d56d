use Rattle.std.proofs.Common.{◌≡◌, ◌++◌, map, take, flat_map}
use Rattle.scene_rules.specs.composition.declared.spot.ValueSpot.{ValueSpot}
use Rattle.scene_rules.specs.composition.Items.{typed_item, item_name}
use Rattle.flat_forms.proofs.names.push_enums.Given as goal

abbrev pub invariant-values : goal.invariant-values
invariant-values l = l.names ≡ l.fn.names ++ flat_map (λ (v : ValueSpot). map item_name (typed_item v.path v.range)) (take l.value-index l.values)

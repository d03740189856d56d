use Rattle.std.proofs.Common.{◌≡◌, ◌++◌, map, take, flat_map}
use Rattle.osc_base.specs.declared.listing.RuleName.{RuleName}
use Rattle.std.specs.List.{range_with_len}
use Rattle.flat_forms.proofs.names.push_motions.Given as goal

abbrev pub invariant-vehicles : goal.invariant-vehicles
invariant-vehicles l = l.names ≡ l.fn.names ++ flat_map (λ v. map (RuleName.Motion v) (range_with_len 0 l.count)) (take l.vehicle-index l.vehicles)

use Rattle.std.proofs.Common.{◌≡◌, ◌++◌, [], ◌∷◌}
use Rattle.std.specs.Prelude.{flat_map}
use Rattle.std.specs.List.{range_with_len}
use Rattle.vehicle_plans.specs.Means.{kept}
use Rattle.vehicle_plans.specs.declared.grid.Quantity.TheVariants.{Lane}
use Rattle.vehicle_plans.proofs.blocks.push_lane_ends.Given as goal

abbrev pub invariant-vehicles : goal.invariant-vehicles
invariant-vehicles l = l.plan ≡ l.fn.plan ++ flat_map (λ v. kept l.grid Lane v l.a l.b ∷ []) (range_with_len 0 l.vehicle)

use Rattle.std.proofs.Common.{◌≡◌, ◌++◌, [], ◌∷◌}
use Rattle.std.specs.Prelude.{flat_map}
use Rattle.std.specs.List.{range_with_len}
use Rattle.vehicle_plans.specs.Means.{passed}
use Rattle.vehicle_plans.proofs.blocks.push_middles.Given as goal

abbrev pub invariant-vehicles : goal.invariant-vehicles
invariant-vehicles l = l.plan ≡ l.fn.plan ++ flat_map (λ v. passed l.grid v l.a l.middle l.b ∷ []) (range_with_len 0 l.vehicle)

use Rattle.std.proofs.Common.{◌≡◌, ◌++◌, [], ◌∷◌}
use Rattle.std.specs.Prelude.{flat_map}
use Rattle.std.specs.List.{range_with_len}
use Rattle.std.proofs.Common.{◌+◌}
use Rattle.vehicle_plans.specs.Means.{even}
use Rattle.vehicle_plans.proofs.starts.push_values.Given as goal

abbrev pub invariant-slots : goal.invariant-slots
invariant-slots l = l.plan ≡ l.fn.plan ++ flat_map (λ k. even (l.first + k) 1 ∷ []) (range_with_len 0 l.place)

use Rattle.std.proofs.Common.{◌≡◌, ◌++◌, drop}
use Rattle.std.specs.Prelude.{flat_map}
use Rattle.type_heads.specs.UnitsPlaced.{units_placed}
use Rattle.type_heads.proofs.units.units_among.Given as goal

abbrev pub invariant-loop-declaration : goal.invariant-loop-declaration
invariant-loop-declaration l = l.units.items ++ flat_map units_placed (drop l.declaration-index l.placed) ≡ flat_map units_placed l.placed

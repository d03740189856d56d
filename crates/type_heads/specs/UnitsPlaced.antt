-- The units that declarations of a program declare.
use Rattle.std.specs.Prelude.{List, flat_map}
use Rattle.type_heads.specs.Table.{TableUnit}
use Rattle.type_heads.specs.Units.{unit_declared}
use Rattle.type_heads.specs.DeclaredTypes.{Placed}
use Rattle.type_heads.specs.Placing.{seen_placed}
use Rattle.type_heads.specs.declared.placed.PlacedDecl.{PlacedDecl}

-- the unit that a declaration declares
abbrev pub units_placed : PlacedDecl → List TableUnit
units_placed p = unit_declared (seen_placed p).declaration

-- the units that declarations declare
unfoldable pub units_in : List Placed → List TableUnit
units_in all = flat_map (λ (p : Placed). unit_declared p.declaration) all

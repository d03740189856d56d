-- What is gathered of a program's declarations.
use Rattle.std.specs.Prelude.{◌≡◌, ◌<◌, ◌^◌, List, length, map}
use Rattle.type_heads.specs.Table.{TypeHead}
use Rattle.type_heads.specs.DeclaredTypes.{Placed, all_declared, declared_heads}
use Rattle.type_heads.specs.Placing.{seen_placed, seen_type}
use Rattle.type_heads.specs.Grouped.{AreGrouped, IsIndex}
use Rattle.type_heads.specs.declared.declarations.Declarations.{Declarations}

-- all declarations
abbrev pub all_of : Declarations → List Placed
all_of d = map seen_placed d.placed.items

-- the heads of the types as they are declared
unfoldable pub heads_of : Declarations → List TypeHead
heads_of d = declared_heads (all_of d)

-- the types are those that the declarations declare, the names theirs, and the extensions are with the types that they extend
pub record AreGathered (d : Declarations) : Type 0 where
  pub few : length d.types.items < 2 ^ 32
  pub same_types : map seen_type d.types.items ≡ all_declared (all_of d)
  pub same_names : IsIndex d.names (heads_of d)
  pub counted : length d.added.items ≡ length d.types.items
  pub same_extensions : AreGrouped (heads_of d) (length d.types.items) d.placed.items d.added.items

-- The extensions of each type.
use Rattle.std.specs.Prelude.{◌≡◌, ℕ, ◌<◌, List, [], ◌∷◌, ◌++◌, Option, Some, None, filter, slice_index_or, slice_set}
use Rattle.type_heads.specs.Table.{TypeHead, named}
use Rattle.type_heads.specs.Names.{place_of}
use Rattle.type_heads.specs.Placing.{seen_placed}
use Rattle.type_heads.specs.Extending.{extends}
use Rattle.type_heads.specs.declared.names.NameIndex.{NameIndex}
use Rattle.type_heads.specs.declared.placed.PlacedDecl.{PlacedDecl}

-- the extensions among declarations of each type below a number
abbrev pub AreGrouped : List TypeHead → ℕ → List PlacedDecl → List (List PlacedDecl) → Type 0
AreGrouped heads count placed added = (t : ℕ) → t < count → slice_index_or added t [] ≡ filter (λ p. extends heads t (seen_placed p)) placed

-- the places of names are the numbers of types
abbrev pub IsIndex : NameIndex → List TypeHead → Type 0
IsIndex names heads = (owner : Option (List ℕ)) (name : List ℕ) → place_of names owner name ≡ named heads owner name

-- a declaration put into the row of that number
abbrev pub put_at : Option ℕ → PlacedDecl → List (List PlacedDecl) → List (List PlacedDecl)
put_at None p rows = rows
put_at (Some t) p rows = slice_set rows t (slice_index_or rows t [] ++ p ∷ [])

-- The heads of types, given the extensions of each.
use Rattle.std.specs.Prelude.{ℕ, ◌+◌, List, [], ◌∷◌, ◌++◌, flat_map, slice_index_or}
use Rattle.type_heads.specs.Form.{Form}
use Rattle.type_heads.specs.Table.{TypeHead}
use Rattle.type_heads.specs.DeclaredTypes.{Placed, Declared, all_declared, declared_heads, form_with, base_of, heads_from}
use Rattle.type_heads.specs.Numbering.{items_placed}
use Rattle.type_heads.specs.declared.placed.PlacedDecl.{PlacedDecl}

-- the form of a type with these extensions
abbrev pub form_grouped : List PlacedDecl → Declared → Form
form_grouped extensions d = form_with (d.items ++ flat_map items_placed extensions) d.head.form

-- the head of a type with these extensions
abbrev pub head_grouped : List TypeHead → List PlacedDecl → Declared → TypeHead
head_grouped names extensions d = record d.head { form = form_grouped extensions d; base = base_of names d.body }

-- the heads of types from number t on
abbrev pub heads_grouped : List TypeHead → List (List PlacedDecl) → ℕ → List Declared → List TypeHead
heads_grouped names added t [] = []
heads_grouped names added t (d ∷ ds) = head_grouped names (slice_index_or added t []) d ∷ heads_grouped names added (t + 1) ds

-- the heads of all types, extensions and bases worked in
unfoldable pub all_heads : List Placed → List TypeHead
all_heads all = heads_from (declared_heads all) all 0 (all_declared all)

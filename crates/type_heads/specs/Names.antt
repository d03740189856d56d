-- The place of each name, as the program's own tables have it.
use Rattle.std.specs.Prelude.{ℕ, List, Option, Some, None}
use Rattle.std.specs.HashMap.{get_by_text}
use Rattle.type_heads.specs.declared.names.NameTable.{NameTable}
use Rattle.type_heads.specs.declared.names.NameIndex.{NameIndex}

abbrev pub place_in : NameTable → List ℕ → Option ℕ
place_in t name = get_by_text t.places name

abbrev pub place_within : Option NameTable → List ℕ → Option ℕ
place_within None name = None
place_within (Some t) name = place_in t name

-- the place of a name with or without an owner
abbrev pub place_of : NameIndex → Option (List ℕ) → List ℕ → Option ℕ
place_of t None name = place_in t.plain name
place_of t (Some owner) name = place_within (get_by_text t.owned owner) name

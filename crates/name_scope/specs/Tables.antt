-- The tables that the code keeps: the place of each name.
use Rattle.std.specs.Prelude.{ℕ, List, Option, Some, None}
use Rattle.std.specs.HashMap.{get_by_text}
use Rattle.name_scope.specs.declared.ids.NameKind.{NameKind}
use Rattle.name_scope.specs.declared.table.NameTable.{NameTable}
use Rattle.name_scope.specs.declared.table.DeclTable.{DeclTable}

abbrev pub place_in : NameTable → List ℕ → Option ℕ
place_in t name = get_by_text t.places name

abbrev pub place_within : Option NameTable → List ℕ → Option ℕ
place_within None name = None
place_within (Some t) name = place_in t name

abbrev pub place_of : DeclTable → NameKind → Option (List ℕ) → List ℕ → Option ℕ
place_of t NameKind.TypeName None name = place_in t.types name
place_of t NameKind.UnitName None name = place_in t.units name
place_of t NameKind.BehaviourName None name = place_in t.behaviours name
place_of t NameKind.TypeName (Some owner) name = None
place_of t NameKind.UnitName (Some owner) name = None
place_of t NameKind.BehaviourName (Some owner) name = place_within (get_by_text t.owned owner) name
place_of t NameKind.ModifierName owner name = None

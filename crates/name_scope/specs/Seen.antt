-- The name of a declaration as the code holds it.
use Rattle.std.specs.Prelude.{Some, None}
use Rattle.name_scope.specs.declared.ids.NameKind.{NameKind}
use Rattle.name_scope.specs.declared.table.Declared.{Declared}
use Rattle.name_scope.specs.Declaring.{DeclaredName, named}

abbrev pub seen_name : Declared → DeclaredName
seen_name (Declared.Type name) = named NameKind.TypeName None name.now
seen_name (Declared.Unit name) = named NameKind.UnitName None name.now
seen_name (Declared.Behaviour name) = named NameKind.BehaviourName None name.now
seen_name (Declared.Owned owner name) = named NameKind.BehaviourName (Some owner.now.text) name.now

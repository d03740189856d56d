-- Declared names as the code holds them.
use Rattle.std.specs.Prelude.{◌≡◌, ℕ, None, List, Bool, true, false, not, ◌&&◌, option_copied, bytes_eq}
use Rattle.std.specs.List.{list_any}
use Rattle.type_members.specs.name_scope.declared.ids.NameKind.{NameKind}
use Rattle.type_members.specs.name_scope.Declaring.{DeclaredName, same_owner}
use Rattle.type_members.specs.type_heads.Members.{nowhere}
use Rattle.type_members.specs.type_heads.HeadingFaults.{is_unit_name, shares_name}
use Rattle.heading_faults.specs.declared.names.NameDeclared.{NameDeclared}
use Rattle.heading_faults.specs.declared.names.NameKey.{NameKey}

-- a declared name
abbrev pub seen_name : NameDeclared → DeclaredName
seen_name d = record { kind = d.kind; owner = option_copied d.owner; name = d.name.now; place = d.place }

-- a name in its space
abbrev pub key_of : NameDeclared → NameKey
key_of d = record { is_unit = is_unit_name d.kind; owner = d.owner; name = d.name }

-- both names are of units, or neither is
abbrev pub in_space : NameKind → Bool → Bool
in_space kind true = is_unit_name kind
in_space kind false = not (is_unit_name kind)

-- a declared name has that key
abbrev pub shares_key : DeclaredName → NameKey → Bool
shares_key d k = in_space d.kind k.is_unit && (same_owner d.owner (option_copied k.owner) && bytes_eq d.name k.name.now)

-- keys are those of a list of names
abbrev pub HasNames : List NameKey → List DeclaredName → Type 0
HasNames keys names = (other : DeclaredName) → list_any (shares_key other) keys ≡ list_any (shares_name other) names

-- the name of a basic type
abbrev pub basic_name : List ℕ → DeclaredName
basic_name name = record { kind = NameKind.TypeName; owner = None; name = name; place = nowhere }

-- Which type an extension extends.
use Rattle.std.specs.Prelude.{ℕ, Bool, false, List, Option, Some, None, nat_eq, map, option_and_then}
use Rattle.std.specs.Option.{option_map_or}
use Rattle.name_scope.specs.dsl_tree.declared.parts.QName.{QName}
use Rattle.name_scope.specs.dsl_tree.FileTree.{DeclarationTree}
use Rattle.type_heads.specs.Table.{TypeHead}
use Rattle.type_heads.specs.DeclaredTypes.{Placed, Declared, meant}
use Rattle.type_heads.specs.Placing.{seen_type}
use Rattle.type_heads.specs.declared.own_type.OwnType.{OwnType}

-- the name of what an extension extends
abbrev pub name_extended : DeclarationTree → Option QName
name_extended (DeclarationTree.MemberExtension d) = Some d.name
name_extended (DeclarationTree.EnumExtension d) = Some d.name
name_extended (DeclarationTree.TypeDeclaration d) = None
name_extended (DeclarationTree.UnitDeclaration d) = None
name_extended (DeclarationTree.EnumDeclaration d) = None
name_extended (DeclarationTree.CompoundDeclaration d) = None

-- the type that a declaration extends
abbrev pub type_extended : List TypeHead → DeclarationTree → Option ℕ
type_extended heads d = option_and_then (meant heads) (name_extended d)

-- a declaration extends type t
abbrev pub extends : List TypeHead → ℕ → Placed → Bool
extends heads t p = option_map_or (nat_eq t) (type_extended heads p.declaration) false

-- the heads of types as they are declared
abbrev pub own_heads : List OwnType → List TypeHead
own_heads types = map (λ (d : Declared). d.head) (map seen_type types)

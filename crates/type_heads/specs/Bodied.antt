-- The bodies of types, given the extensions of each.
use Rattle.std.specs.Prelude.{ℕ, ◌+◌, List, [], ◌∷◌, map, flat_map, option_copied, slice_index_or}
use Rattle.name_scope.specs.dsl_tree.FileTree.{DeclarationTree}
use Rattle.name_scope.specs.dsl_tree.Views.{member_tree}
use Rattle.type_heads.specs.Types.{Written, TypeBody}
use Rattle.type_heads.specs.DeclaredTypes.{Placed, Declared, all_declared, declared_heads, bodies_from, written_from}
use Rattle.type_heads.specs.Placing.{seen_placed}
use Rattle.type_heads.specs.declared.placed.PlacedDecl.{PlacedDecl}
use Rattle.type_heads.specs.declared.body.WrittenMember.{WrittenMember}
use Rattle.type_heads.specs.declared.body.Body.{Body}

-- a member as written
abbrev pub seen_written : WrittenMember → Written
seen_written w = record { file = w.file; declaration = w.declaration; index = w.index; member = member_tree w.member.now }

-- a body
abbrev pub seen_body : Body → TypeBody
seen_body b = record { place = b.place; heir = option_copied b.heir; own = map seen_written b.own; more = map seen_written b.more }

-- the members that an extension adds
abbrev pub members_of_extension : ℕ → ℕ → DeclarationTree → List Written
members_of_extension file index (DeclarationTree.MemberExtension d) = written_from file index 0 d.members
members_of_extension file index (DeclarationTree.TypeDeclaration d) = []
members_of_extension file index (DeclarationTree.UnitDeclaration d) = []
members_of_extension file index (DeclarationTree.EnumDeclaration d) = []
members_of_extension file index (DeclarationTree.CompoundDeclaration d) = []
members_of_extension file index (DeclarationTree.EnumExtension d) = []

-- the members that a declaration adds
abbrev pub members_placed : PlacedDecl → List Written
members_placed p = members_of_extension p.file p.index (seen_placed p).declaration

-- the body of a type with these extensions
abbrev pub body_grouped : List PlacedDecl → Declared → TypeBody
body_grouped extensions d = record d.body { more = flat_map members_placed extensions }

-- the bodies of types from number t on
abbrev pub bodies_grouped : List (List PlacedDecl) → ℕ → List Declared → List TypeBody
bodies_grouped added t [] = []
bodies_grouped added t (d ∷ ds) = body_grouped (slice_index_or added t []) d ∷ bodies_grouped added (t + 1) ds

-- the bodies of all types, extensions worked in
unfoldable pub all_bodies : List Placed → List TypeBody
all_bodies all = bodies_from (declared_heads all) all 0 (all_declared all)

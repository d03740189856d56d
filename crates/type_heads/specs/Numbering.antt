-- Members of an enum while they are numbered.
use Rattle.std.specs.Prelude.{List, [], ◌++◌}
use Rattle.name_scope.specs.dsl_tree.declared.enums.EnumItem.{EnumItem}
use Rattle.name_scope.specs.dsl_tree.FileTree.{DeclarationTree}
use Rattle.type_heads.specs.Form.{EnumMember}
use Rattle.type_heads.specs.DeclaredTypes.{numbered_from}
use Rattle.type_heads.specs.Placing.{seen_placed}
use Rattle.type_heads.specs.declared.placed.PlacedDecl.{PlacedDecl}
use Rattle.type_heads.specs.declared.numbering.Numbering.{Numbering}

-- the members so far, and further ones
abbrev pub with_items : Numbering → List EnumItem → List EnumMember
with_items n items = n.entries.items ++ numbered_from n.next items

-- the members that an extension of an enum adds
abbrev pub items_of_extension : DeclarationTree → List EnumItem
items_of_extension (DeclarationTree.EnumExtension d) = d.items
items_of_extension (DeclarationTree.TypeDeclaration d) = []
items_of_extension (DeclarationTree.UnitDeclaration d) = []
items_of_extension (DeclarationTree.EnumDeclaration d) = []
items_of_extension (DeclarationTree.CompoundDeclaration d) = []
items_of_extension (DeclarationTree.MemberExtension d) = []

-- the members that a declaration adds
abbrev pub items_placed : PlacedDecl → List EnumItem
items_placed p = items_of_extension (seen_placed p).declaration

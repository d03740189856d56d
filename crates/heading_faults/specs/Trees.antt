-- The declarations that the program's own lists hold, as trees.
use Rattle.std.specs.Prelude.{List, map}
use Rattle.type_members.specs.dsl_tree.FileTree.{DeclarationTree}
use Rattle.type_members.specs.dsl_tree.Views.{declaration_tree}
use Rattle.type_members.specs.type_heads.declared.placed.PlacedDecl.{PlacedDecl}

-- the trees of declarations
abbrev pub trees : List PlacedDecl → List DeclarationTree
trees ds = map (λ (d : PlacedDecl). declaration_tree d.declaration.now) ds

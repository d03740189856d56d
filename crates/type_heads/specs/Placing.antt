-- What the program's own lists of declarations are seen as.
use Rattle.std.specs.Prelude.{ℕ, List, [], codes, map, drop}
use Rattle.name_scope.specs.dsl_tree.Views.{file_tree, declaration_tree, compound_tree}
use Rattle.name_scope.specs.FileNumbers.{AddedFile}
use Rattle.type_heads.specs.Form.{Form}
use Rattle.type_heads.specs.Members.{nowhere}
use Rattle.type_heads.specs.Units.{exponents_of}
use Rattle.type_heads.specs.DeclaredTypes.{Placed, placed_from, Declared, declared, compound}
use Rattle.type_heads.specs.declared.placed.PlacedDecl.{PlacedDecl}
use Rattle.type_heads.specs.declared.own_type.BasicType.{BasicType}
use Rattle.type_heads.specs.declared.own_type.OwnType.{OwnType}

-- a declaration and where it stands
abbrev pub seen_placed : PlacedDecl → Placed
seen_placed p = record { file = p.file; index = p.index; declaration = declaration_tree p.declaration.now }

-- the declarations of the files from a number on
abbrev pub placed_after : ℕ → List AddedFile → List Placed
placed_after n files = placed_from n (map (λ f. file_tree f.file) (drop n files))

abbrev pub basic_name : BasicType → List ℕ
basic_name BasicType.Int = codes "int"
basic_name BasicType.Uint = codes "uint"
basic_name BasicType.Float = codes "float"
basic_name BasicType.Bool = codes "bool"
basic_name BasicType.Chars = codes "string"

abbrev pub basic_form : BasicType → Form
basic_form BasicType.Int = Form.Int
basic_form BasicType.Uint = Form.Uint
basic_form BasicType.Float = Form.Float
basic_form BasicType.Bool = Form.Truth
basic_form BasicType.Chars = Form.Chars

-- a type as it is declared
abbrev pub seen_type : OwnType → Declared
seen_type (OwnType.Basic b) = declared (basic_name b) (basic_form b) nowhere
seen_type (OwnType.Physical d) = declared d.now.name.text (Form.Physical (exponents_of d.now.bases)) d.now.name.place
seen_type (OwnType.Enum d) = record (declared d.now.name.text (Form.Enum []) d.now.name.place) { items = d.now.items }
seen_type (OwnType.Compound file index d) = compound file index (compound_tree d.now)

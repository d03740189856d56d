-- The types that a program declares, and the table of them.
use Rattle.std.specs.Prelude.{ℕ, ◌+◌, Bool, false, cond, List, [], ◌∷◌, ◌++◌, Option, Some, None, map, nat_eq, codes, flat_map, filter_map, option_and_then}
use Rattle.std.specs.Option.{option_map_or}
use Rattle.units_si.specs.osc_base.declared.fault.Place.{Place}
use Rattle.name_scope.specs.dsl_tree.declared.parts.Ident.{Ident}
use Rattle.name_scope.specs.dsl_tree.declared.parts.QName.{QName}
use Rattle.name_scope.specs.dsl_tree.declared.enums.EnumItem.{EnumItem}
use Rattle.name_scope.specs.dsl_tree.declared.compounds.Heir.{Heir}
use Rattle.name_scope.specs.dsl_tree.FileTree.{MemberTree, CompoundTree, DeclarationTree, FileTree}
use Rattle.name_scope.specs.dsl_tree.Views.{file_tree}
use Rattle.name_scope.specs.FileNumbers.{AddedFile, numbered_names, is_library}
use Rattle.name_scope.specs.Declaring.{DeclaredName, compound_name, first_place}
use Rattle.type_heads.specs.Form.{Form, EnumMember}
use Rattle.type_heads.specs.Table.{TypeHead, named, all_types}
use Rattle.type_heads.specs.Types.{Program, Written, TypeBody, Types}
use Rattle.type_heads.specs.Members.{nowhere, no_body, members_of, table_fields}
use Rattle.type_heads.specs.Texts.{texts_of}
use Rattle.type_heads.specs.Units.{exponents_of, units_of}

-- the program of the files that were loaded
abbrev pub program_of : List AddedFile → Program
program_of files = record { files = map (λ f. file_tree f.file) files; library = first_place is_library 0 (numbered_names files) }

-- a declaration, the number of its file, and its number there
pub record Placed : Type 0 where
  pub file : ℕ
  pub index : ℕ
  pub declaration : DeclarationTree

-- the declarations of one file, from a place on
abbrev pub placed_in : ℕ → ℕ → List DeclarationTree → List Placed
placed_in file index [] = []
placed_in file index (d ∷ ds) = record { file = file; index = index; declaration = d } ∷ placed_in file (index + 1) ds

-- the declarations of files, from a number on
abbrev pub placed_from : ℕ → List FileTree → List Placed
placed_from file [] = []
placed_from file (f ∷ fs) = placed_in file 0 f.decls ++ placed_from (file + 1) fs

-- all declarations in load order
abbrev pub placed : Program → List Placed
placed p = placed_from 0 p.files

-- the members of a declaration as written, from number n on
abbrev pub written_from : ℕ → ℕ → ℕ → List MemberTree → List Written
written_from file declaration n [] = []
written_from file declaration n (m ∷ ms) = record { file = file; declaration = declaration; index = n; member = m } ∷ written_from file declaration (n + 1) ms

-- Declared types, before extensions and bases are looked up

-- a type as it is declared, and the members of an enum as written
pub record Declared : Type 0 where
  pub head : TypeHead
  pub body : TypeBody
  pub items : List EnumItem

-- a type without members, owner or base
abbrev pub declared : List ℕ → Form → Place → Declared
declared name form place = record { head = record { name = name; owner = None; form = form; base = None }; body = record no_body { place = place }; items = [] }

-- the types that are there without a declaration
abbrev pub basic_types : List Declared
basic_types =
    declared (codes "int") Form.Int nowhere
    ∷ declared (codes "uint") Form.Uint nowhere
    ∷ declared (codes "float") Form.Float nowhere
    ∷ declared (codes "bool") Form.Truth nowhere
    ∷ declared (codes "string") Form.Chars nowhere
    ∷ []

-- a struct, actor, action or scenario
abbrev pub compound : ℕ → ℕ → CompoundTree → Declared
compound file index d = let name : DeclaredName = compound_name d.kind d.name in record {
  head = record { name = name.name; owner = name.owner; form = Form.Compound d.kind; base = None };
  body = record { place = name.place; heir = d.heir; own = written_from file index 0 d.members; more = [] };
  items = [];
}

-- the type that a declaration declares; units and extensions declare none
abbrev pub type_declared : ℕ → ℕ → DeclarationTree → Option Declared
type_declared file index (DeclarationTree.TypeDeclaration d) = Some (declared d.name.text (Form.Physical (exponents_of d.bases)) d.name.place)
type_declared file index (DeclarationTree.UnitDeclaration d) = None
type_declared file index (DeclarationTree.EnumDeclaration d) = Some (record (declared d.name.text (Form.Enum []) d.name.place) { items = d.items })
type_declared file index (DeclarationTree.CompoundDeclaration d) = Some (compound file index d)
type_declared file index (DeclarationTree.MemberExtension d) = None
type_declared file index (DeclarationTree.EnumExtension d) = None

-- the basic types, then those that declarations declare
abbrev pub all_declared : List Placed → List Declared
all_declared placed = basic_types ++ filter_map (λ (d : Placed). type_declared d.file d.index d.declaration) placed

-- Extensions and bases

-- the type that a name with or without an owner means
abbrev pub meant : List TypeHead → QName → Option ℕ
meant heads q = option_map_or (λ (second : Ident). named heads (Some q.first.text) second.text) q.second (named heads None q.first.text)

-- the name means type t
abbrev pub means : List TypeHead → QName → ℕ → Bool
means heads q t = option_map_or (nat_eq t) (meant heads q) false

-- what an extension adds to type t
abbrev pub items_added : List TypeHead → ℕ → DeclarationTree → List EnumItem
items_added heads t (DeclarationTree.EnumExtension d) = cond (means heads d.name t) d.items []
items_added heads t _ = []

-- the members that an extension adds to type t
abbrev pub members_added : List TypeHead → ℕ → Placed → DeclarationTree → List Written
members_added heads t placed (DeclarationTree.MemberExtension d) = cond (means heads d.name t) (written_from placed.file placed.index 0 d.members) []
members_added heads t placed _ = []

-- a member of an enum has the number that is written, else the one after the last, and the first of all 0
abbrev pub numbered_from : ℕ → List EnumItem → List EnumMember
numbered_from next [] = []
numbered_from next (i ∷ is) =
    let number = option_map_or (λ d. d.digits) i.number next in
    record { name = i.name.text; number = number } ∷ numbered_from (number + 1) is

-- the members of an enum as written, those of its extensions after its own
abbrev pub items_with : List TypeHead → List Placed → ℕ → List EnumItem → List EnumItem
items_with heads all t items = items ++ flat_map (λ (d : Placed). items_added heads t d.declaration) all

-- the form of an enum with its members numbered; other forms stay
abbrev pub form_with : List EnumItem → Form → Form
form_with items (Form.Enum none) = Form.Enum (numbered_from 0 items)
form_with items form = form

-- the type that a body inherits from as written
abbrev pub base_of : List TypeHead → TypeBody → Option ℕ
base_of heads body = option_and_then (λ (h : Heir). meant heads h.base) body.heir

-- the head of type t, extensions and base worked in
abbrev pub head_with : List TypeHead → List Placed → ℕ → Declared → TypeHead
head_with heads all t d = record d.head { form = form_with (items_with heads all t d.items) d.head.form; base = base_of heads d.body }

-- the body of type t, extensions worked in
abbrev pub body_with : List TypeHead → List Placed → ℕ → Declared → TypeBody
body_with heads all t d = record d.body { more = flat_map (λ (p : Placed). members_added heads t p p.declaration) all }

-- the heads of types from number t on
abbrev pub heads_from : List TypeHead → List Placed → ℕ → List Declared → List TypeHead
heads_from names all t [] = []
heads_from names all t (d ∷ ds) = head_with names all t d ∷ heads_from names all (t + 1) ds

-- the bodies of types from number t on
abbrev pub bodies_from : List TypeHead → List Placed → ℕ → List Declared → List TypeBody
bodies_from names all t [] = []
bodies_from names all t (d ∷ ds) = body_with names all t d ∷ bodies_from names all (t + 1) ds

-- the heads as declared, by which names are looked up
abbrev pub declared_heads : List Placed → List TypeHead
declared_heads all = map (λ (d : Declared). d.head) (all_declared all)

-- Types

-- the types with these heads and bodies
abbrev pub types_from : Program → List TypeHead → List TypeBody → Types
types_from p heads bodies =
    let members = map (members_of heads bodies) (all_types heads) in
    record {
      bodies = bodies;
      library = p.library;
      members = members;
      table = record { heads = heads; fields = map (table_fields heads) members; units = units_of p.files; texts = texts_of p.files };
    }

-- the types of a program, extensions worked in
unfoldable pub types_of : Program → Types
types_of p =
    let all = placed p in
    let names = declared_heads all in
    types_from p (heads_from names all 0 (all_declared all)) (bodies_from names all 0 (all_declared all))

-- The members of an enum that were met, as the code holds them.
use Rattle.std.specs.Prelude.{◌≡◌, cond, flat_map, ◌||◌, Bool, List, [], ◌++◌, Option, nat_eq, bytes_eq}
use Rattle.std.specs.List.{list_any}
use Rattle.type_members.specs.osc_base.declared.fault.Fault.{Fault}
use Rattle.type_members.specs.osc_base.FaultRows.{FaultRow, first_from}
use Rattle.type_members.specs.dsl_tree.declared.enums.EnumItem.{EnumItem}
use Rattle.type_members.specs.dsl_tree.FileTree.{DeclarationTree}
use Rattle.type_members.specs.type_heads.Form.{EnumMember}
use Rattle.type_members.specs.type_heads.DeclaredTypes.{Declared, numbered_from}
use Rattle.type_members.specs.type_heads.Table.{is_enum}
use Rattle.heading_faults.specs.Trees.{trees}
use Rattle.type_members.specs.type_heads.declared.placed.PlacedDecl.{PlacedDecl}
use Rattle.type_members.specs.type_heads.HeadingFaults.{item_rows, shares_item}
use Rattle.heading_faults.specs.declared.items.ItemSet.{ItemSet}

-- one of the names or numbers that were met is that of a member
abbrev pub has_item : ItemSet → EnumMember → Bool
has_item met m = list_any (bytes_eq m.name) met.names || list_any (nat_eq m.number) met.numbers

-- what was met are the names and numbers of a list of members
abbrev pub HasItems : ItemSet → List EnumMember → Type 0
HasItems met members = (other : EnumMember) → has_item met other ≡ list_any (shares_item other) members

-- after some items the rows of later ones are left
abbrev pub ContinuesItems : Option Fault → ItemSet → Option Fault → ItemSet → List EnumItem → Type 0
ContinuesItems first old found new items =
    (earlier : List EnumMember) (later : List EnumItem) → HasItems old earlier →
    (now : List EnumMember) × HasItems new now
    × (first_from first (item_rows earlier (items ++ later) (numbered_from old.next (items ++ later))) ≡ first_from found (item_rows now later (numbered_from new.next later)))

-- the members that an extension of an enum adds
abbrev pub items_in : DeclarationTree → List EnumItem
items_in (DeclarationTree.EnumExtension d) = d.items
items_in (DeclarationTree.MemberExtension d) = []
items_in (DeclarationTree.TypeDeclaration d) = []
items_in (DeclarationTree.UnitDeclaration d) = []
items_in (DeclarationTree.EnumDeclaration d) = []
items_in (DeclarationTree.CompoundDeclaration d) = []

-- the rows of the members of an enum
abbrev pub rows_of_items : List EnumItem → List FaultRow
rows_of_items items = item_rows [] items (numbered_from 0 items)

-- the rows of the members of a type with these extensions
abbrev pub rows_of_type : Declared → List PlacedDecl → List FaultRow
rows_of_type d extensions = rows_of_items (cond (is_enum d.head.form) (d.items ++ flat_map items_in (trees extensions)) [])

-- What a program's code gives of the trees and tables that the definitions take.
use Rattle.std.specs.Prelude.{◌≡◌, ℕ, ◌≤◌, ◌^◌, ◌&&◌, ◌||◌, ◌++◌, Bool, true, not, List, [], Some, length, nat_lt, nat_le, bytes_eq, codes}
use Rattle.std.specs.List.{list_all}
use Rattle.expansion_laws.specs.dsl_tree.declared.parts.Ident.{Ident}
use Rattle.expansion_laws.specs.dsl_tree.declared.parts.Digits.{Digits}
use Rattle.expansion_laws.specs.dsl_tree.ExprTree.{ExprTree, Implies, Or, And, Not, Relation, Sum, Product, Minus, Dot, Index, Number, Physical, Chars, Truth, It, Actor, Name, EnumName, Group, Span, Listed, RangeCall, Start, ExprRow, End, Item}
use Rattle.expansion_laws.specs.dsl_tree.PhaseTree as Phases
use Rattle.expansion_laws.specs.dsl_tree.PhaseTree.{PhaseTree, PhaseRow, phases_of}
use Rattle.expansion_laws.specs.dsl_tree.FileTree.{MemberTree, DeclarationTree}
use Rattle.expansion_laws.specs.type_heads.Table.{Table, enum_number}
use Rattle.expansion_laws.specs.type_heads.Types.{Program}
use Rattle.expansion_laws.specs.type_heads.Texts.{member_exprs}
use Rattle.expansion_laws.specs.type_heads.DeclaredTypes.{Placed, placed}
use Rattle.expansion_laws.specs.expr_nodes.Sizes.{field_reach}
use Rattle.expansion_laws.specs.composition.Scenes.{Scene, Occurrence, guards}
use Rattle.expansion_laws.specs.composition.Invariants.{are_grounded}

-- a number of at most 18 digits
abbrev pub is_short : Digits → Bool
is_short d = nat_lt d.digits (10 ^ 18) && nat_le d.places 18

-- The numbers of an expression have at most 18 digits, as those of tokens have. An index is the number of an element, and no value.
abbrev mutual
  pub are_short : ExprTree → Bool
  are_short (Implies place left right) = are_short left && are_short right
  are_short (Or place operator left right) = are_short left && are_short right
  are_short (And place operator left right) = are_short left && are_short right
  are_short (Not place part) = are_short part
  are_short (Relation place sign left right) = are_short left && are_short right
  are_short (Sum place operator left right) = are_short left && are_short right
  are_short (Product place operator left right) = are_short left && are_short right
  are_short (Minus place part) = are_short part
  are_short (Dot head name) = are_short head
  are_short (Index place head index) = are_short head
  are_short (Number number) = is_short number
  are_short (Physical number unit) = true
  are_short (Chars place text) = true
  are_short (Truth place value) = true
  are_short (It place) = true
  are_short (Actor place) = true
  are_short (Name name) = true
  are_short (EnumName of member) = true
  are_short (Group place inner) = are_short inner
  are_short (Span place low high) = are_short low && are_short high
  are_short (Listed place items) = row_is_short items
  are_short (RangeCall place low high) = are_short low && are_short high
  are_short (Start first) = are_short first

  pub row_is_short : ExprRow → Bool
  row_is_short End = true
  row_is_short (Item item others) = are_short item && row_is_short others

-- a name is no keyword of those that paths know
abbrev pub is_free : List ℕ → Bool
is_free name = not (bytes_eq name (codes "it") || (bytes_eq name (codes "actor") || bytes_eq name (codes "do")))

-- each composition has a member
abbrev mutual
  pub is_full : PhaseTree → Bool
  is_full (Phases.Comp label place kind arguments members) = nat_lt 0 (length (phases_of members)) && row_is_full members
  is_full (Phases.Invoke label head names arguments parts) = true
  is_full (Phases.Wait label place elapsed) = true

  pub row_is_full : PhaseRow → Bool
  row_is_full Phases.End = true
  row_is_full (Phases.Phase phase others) = is_full phase && row_is_full others

-- the names of fields are no keywords, and compositions have members
abbrev pub is_formed : MemberTree → Bool
is_formed (MemberTree.Field f) = list_all (λ (i : Ident). is_free i.text) f.names
is_formed (MemberTree.Rule r) = true
is_formed (MemberTree.Do place phase) = is_full phase

-- a member as the grammar has it, with short numbers
abbrev pub is_written : MemberTree → Bool
is_written m = is_formed m && list_all are_short (member_exprs m)

-- a declaration as the grammar has it
abbrev pub is_spelled : DeclarationTree → Bool
is_spelled (DeclarationTree.TypeDeclaration d) = true
is_spelled (DeclarationTree.UnitDeclaration d) = true
is_spelled (DeclarationTree.EnumDeclaration d) = nat_lt 0 (length d.items)
is_spelled (DeclarationTree.CompoundDeclaration d) = list_all is_written d.members
is_spelled (DeclarationTree.MemberExtension d) = list_all is_written d.members
is_spelled (DeclarationTree.EnumExtension d) = true

-- The trees of a program are as the grammar has them: enums and compositions have members, no field has a keyword as its name, and numbers have at
-- most 18 digits.
abbrev pub is_spelled_program : Program → Bool
is_spelled_program p = list_all (λ (d : Placed). is_spelled d.declaration) (placed p)

-- there are few texts, and the numbers of enums are small
pub record IsSmallTable (table : Table) : Type 0 where
  pub texts : length table.texts ≤ field_reach
  pub members : (e : ℕ) (name : List ℕ) (n : ℕ) → enum_number table.heads e name ≡ Some n → n ≤ field_reach

-- the conditions that a constraint's member is under are grounded behind those of the constraint's holder
abbrev pub are_held : Scene → Occurrence → Bool
are_held scene o = are_grounded scene [] (guards scene o.holder ++ o.under)

-- What is kept of types beside the table.
use Rattle.std.specs.Prelude.{◌≡◌, ℕ, ℤ, ◌<◌, ◌^◌, Bool, true, false, List, None, map, length, is_some, find, bytes_eq}
use Rattle.std.specs.Option.{option_map_or}
use Rattle.std.specs.List.{list_all}
use Rattle.string_texts.specs.dsl_tree.FileTree.{DeclarationTree}
use Rattle.string_texts.specs.type_heads.Form.{Form}
use Rattle.string_texts.specs.type_heads.Bounds.{numbers_of}
use Rattle.string_texts.specs.type_heads.Table.{TypeHead, TableUnit, form, enum_members}
use Rattle.string_texts.specs.type_heads.Units.{exponents_of}
use Rattle.string_texts.specs.type_heads.DeclaredTypes.{Placed}

-- a physical type has exponents: its brackets have no fault
abbrev pub is_sound : Form → Bool
is_sound (Form.Physical None) = false
is_sound _ = true

-- the numbers of each enum, and none of other types
abbrev pub all_numbers : List TypeHead → List (List ℤ)
all_numbers heads = map (λ (h : TypeHead). numbers_of (enum_members h.form)) heads

-- the unit of that name has exponents, if there is one
abbrev pub is_sound_unit : List TableUnit → List ℕ → Bool
is_sound_unit units name = option_map_or (λ (u : TableUnit). is_some u.exponents) (find (λ (u : TableUnit). bytes_eq u.name name) units) true

-- each physical type and unit has exponents, the numbers are those of the enums, and there are few texts
pub record AreKept (heads : List TypeHead) (numbers : List (List ℤ)) (units : List TableUnit) (texts : List (List ℕ)) : Type 0 where
  pub sound : (t : ℕ) → is_sound (form heads t) ≡ true
  pub sound_units : (name : List ℕ) → is_sound_unit units name ≡ true
  pub same_numbers : numbers ≡ all_numbers heads
  pub few : length texts < 2 ^ 32

-- what a declaration says of a physical type or unit has exponents
abbrev pub has_exponents : DeclarationTree → Bool
has_exponents (DeclarationTree.TypeDeclaration d) = is_some (exponents_of d.bases)
has_exponents (DeclarationTree.UnitDeclaration d) = is_some (exponents_of d.bases)
has_exponents (DeclarationTree.EnumDeclaration d) = true
has_exponents (DeclarationTree.CompoundDeclaration d) = true
has_exponents (DeclarationTree.MemberExtension d) = true
has_exponents (DeclarationTree.EnumExtension d) = true

-- each declaration of a physical type or unit has exponents
abbrev pub have_exponents : List Placed → Bool
have_exponents all = list_all (λ (d : Placed). has_exponents d.declaration) all

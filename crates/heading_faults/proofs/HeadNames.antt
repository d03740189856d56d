-- Extensions and bases worked into heads change no name, so names mean the same.
use Rattle.std.proofs.Common.{◌≡◌, ◌∙◌, refl, ap, ℕ, ◌+◌, cond, ◌&&◌, List, [], ◌∷◌, ◌++◌, Option, Some, None, map, flat_map, nat_eq, bytes_eq, false}
use Rattle.std.specs.Option.{option_map_or}
use Rattle.type_members.specs.osc_base.FaultRows.{FaultRow}
use Rattle.type_members.specs.dsl_tree.declared.parts.Ident.{Ident}
use Rattle.type_members.specs.dsl_tree.declared.enums.EnumItem.{EnumItem}
use Rattle.type_members.specs.dsl_tree.FileTree.{DeclarationTree}
use Rattle.type_members.specs.name_scope.Declaring.{first_place, same_owner}
use Rattle.type_members.specs.type_heads.Table.{TypeHead, is_enum, named}
use Rattle.type_members.specs.type_heads.DeclaredTypes.{Placed, Declared, heads_from, items_added, meant, numbered_from}
use Rattle.type_members.specs.type_heads.HeadingFaults.{enum_rows_from, item_rows}

named_from : (names : List TypeHead) (all : List Placed) (t n : ℕ) (ds : List Declared) (owner : Option (List ℕ)) (name : List ℕ) →
    first_place (λ (h : TypeHead). same_owner h.owner owner && bytes_eq h.name name) n (heads_from names all t ds)
    ≡ first_place (λ (h : TypeHead). same_owner h.owner owner && bytes_eq h.name name) n (map (λ (d : Declared). d.head) ds)
named_from names all t n [] owner name = refl
named_from names all t n (d ∷ ds) owner name = ap (λ o. cond (same_owner d.head.owner owner && bytes_eq d.head.name name) (Some n) o) (named_from names all (t + 1) (n + 1) ds owner name)

abbrev pub SameNames : List TypeHead → List TypeHead → Type 0
SameNames heads heads' = (owner : Option (List ℕ)) (name : List ℕ) → named heads owner name ≡ named heads' owner name

pub same_names : (names : List TypeHead) (all : List Placed) (ds : List Declared) → SameNames (heads_from names all 0 ds) (map (λ (d : Declared). d.head) ds)
same_names names all ds owner name = named_from names all 0 0 ds owner name

module _ (heads heads' : List TypeHead) (same : SameNames heads heads') where
  same_meaning : (first : Ident) (second : Option Ident) → meant heads (record { first = first; second = second }) ≡ meant heads' (record { first = first; second = second })
  same_meaning first None = same None first.text
  same_meaning first (Some second) = same (Some first.text) second.text

  added : (t : ℕ) (d : DeclarationTree) → items_added heads t d ≡ items_added heads' t d
  added t (DeclarationTree.EnumExtension d) = ap (λ o. cond (option_map_or (nat_eq t) o false) d.items []) (same_meaning d.name.first d.name.second)
  added t (DeclarationTree.MemberExtension d) = refl
  added t (DeclarationTree.TypeDeclaration d) = refl
  added t (DeclarationTree.UnitDeclaration d) = refl
  added t (DeclarationTree.EnumDeclaration d) = refl
  added t (DeclarationTree.CompoundDeclaration d) = refl

  all_added : (t : ℕ) (ps : List Placed) → flat_map (λ (p : Placed). items_added heads t p.declaration) ps ≡ flat_map (λ (p : Placed). items_added heads' t p.declaration) ps
  all_added t [] = refl
  all_added t (p ∷ ps) = ap (λ is. is ++ flat_map (λ (q : Placed). items_added heads t q.declaration) ps) (added t p.declaration)
      ∙ ap (λ is. items_added heads' t p.declaration ++ is) (all_added t ps)

  -- the members of enums have the same faults
  pub same_enum_rows : (all : List Placed) (t : ℕ) (ds : List Declared) → enum_rows_from heads all t ds ≡ enum_rows_from heads' all t ds
  same_enum_rows all t [] = refl
  same_enum_rows all t (d ∷ ds) =
      let rows : List EnumItem → List FaultRow = λ more. item_rows [] (cond (is_enum d.head.form) (d.items ++ more) []) (numbered_from 0 (cond (is_enum d.head.form) (d.items ++ more) [])) in
      ap (λ more. rows more ++ enum_rows_from heads all (t + 1) ds) (all_added t all)
      ∙ ap (λ rs. rows (flat_map (λ (p : Placed). items_added heads' t p.declaration) all) ++ rs) (same_enum_rows all (t + 1) ds)

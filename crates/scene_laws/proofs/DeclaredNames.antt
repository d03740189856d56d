-- A name means the same in the heads of declared types and in those of the finished table.
use Rattle.std.proofs.Common.{◌≡◌, ℕ, ◌+◌, refl, ap, ap₂, List, [], ◌∷◌, ◌++◌, false, ◌&&◌, cond, Option, Some, None, map}
use Rattle.std.specs.Prelude.{nat_eq, bytes_eq, flat_map}
use Rattle.std.specs.Option.{option_map_or}
use Rattle.expansion_laws.specs.dsl_tree.declared.parts.Ident.{Ident}
use Rattle.expansion_laws.specs.dsl_tree.declared.parts.QName.{QName}
use Rattle.expansion_laws.specs.dsl_tree.declared.enums.EnumItem.{EnumItem}
use Rattle.expansion_laws.specs.dsl_tree.FileTree.{DeclarationTree}
use Rattle.expansion_laws.specs.name_scope.Declaring.{same_owner, first_place}
use Rattle.expansion_laws.specs.type_heads.Table.{TypeHead, named}
use Rattle.expansion_laws.specs.type_heads.DeclaredTypes.{Placed, Declared, meant, means, items_added, items_with, heads_from}

-- two lists of heads in which each name means the same
abbrev pub SameNames : List TypeHead → List TypeHead → Type 0
SameNames heads others = (owner : Option (List ℕ)) (name : List ℕ) → named heads owner name ≡ named others owner name

pub names_kept : (names : List TypeHead) (all : List Placed) (t : ℕ) (ds : List Declared) → SameNames (heads_from names all t ds) (map (λ (d : Declared). d.head) ds)
names_kept names all t ds owner name = by 0 t ds
  where
    by : (n u : ℕ) (es : List Declared) → first_place (λ h. same_owner h.owner owner && bytes_eq h.name name) n (heads_from names all u es) ≡ first_place (λ h. same_owner h.owner owner && bytes_eq h.name name) n (map (λ (d : Declared). d.head) es)
    by n u [] = refl
    by n u (d ∷ es) = ap (cond (same_owner d.head.owner owner && bytes_eq d.head.name name) (Some n)) (by (n + 1) (u + 1) es)

module _ (heads others : List TypeHead) (same : SameNames heads others) where
  pub meant_kept : (q : QName) → meant heads q ≡ meant others q
  meant_kept q = by q.second
    where
      by : (o : Option Ident) → option_map_or (λ (second : Ident). named heads (Some q.first.text) second.text) o (named heads None q.first.text)
          ≡ option_map_or (λ (second : Ident). named others (Some q.first.text) second.text) o (named others None q.first.text)
      by None = same None q.first.text
      by (Some second) = same (Some q.first.text) second.text

  means_kept : (q : QName) (t : ℕ) → means heads q t ≡ means others q t
  means_kept q t = ap (λ o. option_map_or (nat_eq t) o false) (meant_kept q)

  added_kept : (t : ℕ) (d : DeclarationTree) → items_added heads t d ≡ items_added others t d
  added_kept t (DeclarationTree.EnumExtension d) = ap (λ b. cond b d.items []) (means_kept d.name t)
  added_kept t (DeclarationTree.TypeDeclaration d) = refl
  added_kept t (DeclarationTree.UnitDeclaration d) = refl
  added_kept t (DeclarationTree.EnumDeclaration d) = refl
  added_kept t (DeclarationTree.CompoundDeclaration d) = refl
  added_kept t (DeclarationTree.MemberExtension d) = refl

  all_added : (t : ℕ) (all : List Placed) → flat_map (λ (d : Placed). items_added heads t d.declaration) all ≡ flat_map (λ (d : Placed). items_added others t d.declaration) all
  all_added t [] = refl
  all_added t (d ∷ ds) = ap₂ (◌++◌) (added_kept t d.declaration) (all_added t ds)

  pub items_kept : (all : List Placed) (t : ℕ) (items : List EnumItem) → items_with heads all t items ≡ items_with others all t items
  items_kept all t items = ap (λ more. items ++ more) (all_added t all)

-- Heads given the extensions of each type are those given all declarations.
use Rattle.std.proofs.Common.{◌≡◌, ◌∙◌, refl, sym, ap, ℕ, ◌+◌, ◌<◌, ◌≤◌, ◌&&◌, Bool, true, false, cond, List, [], ◌∷◌, ◌++◌, Option, Some, map, filter, length, slice_index_or, bytes_eq, arith}
use Rattle.std.specs.Prelude.{flat_map}
use Rattle.std.proofs.lemmas.List.{length-map}
use Rattle.name_scope.specs.dsl_tree.declared.enums.EnumItem.{EnumItem}
use Rattle.name_scope.specs.dsl_tree.FileTree.{DeclarationTree}
use Rattle.name_scope.specs.Declaring.{same_owner, first_place}
use Rattle.type_heads.specs.Table.{TypeHead}
use Rattle.type_heads.specs.Types.{Program}
use Rattle.type_heads.specs.DeclaredTypes.{Placed, placed, types_of, Declared, form_with, base_of, head_with, heads_from, items_added, means}
use Rattle.type_heads.specs.Placing.{seen_placed, seen_type}
use Rattle.type_heads.specs.Extending.{extends}
use Rattle.type_heads.specs.Grouped.{AreGrouped}
use Rattle.type_heads.specs.Numbering.{items_placed, items_of_extension}
use Rattle.type_heads.specs.Gathered.{AreGathered, all_of, heads_of}
use Rattle.type_heads.specs.HeadsGrouped.{head_grouped, heads_grouped, all_heads}
use Rattle.type_heads.specs.declared.placed.PlacedDecl.{PlacedDecl}
use Rattle.type_heads.specs.declared.declarations.Declarations.{Declarations}

-- an extension of a type adds its members, and other declarations add none
added_is : (heads : List TypeHead) (t : ℕ) (d : DeclarationTree) (file index : ℕ) →
    items_added heads t d ≡ cond (extends heads t (record { file = file; index = index; declaration = d })) (items_of_extension d) []
added_is heads t (DeclarationTree.TypeDeclaration d) file index = refl
added_is heads t (DeclarationTree.UnitDeclaration d) file index = refl
added_is heads t (DeclarationTree.EnumDeclaration d) file index = refl
added_is heads t (DeclarationTree.CompoundDeclaration d) file index = refl
added_is heads t (DeclarationTree.EnumExtension d) file index = refl
added_is heads t (DeclarationTree.MemberExtension d) file index = sym (both (means heads d.name t))
  where
    both : (b : Bool) → cond {A = List EnumItem} b [] [] ≡ []
    both true = refl
    both false = refl

pub items_grouped : (heads : List TypeHead) (t : ℕ) (ps : List PlacedDecl) →
    flat_map (λ (d : Placed). items_added heads t d.declaration) (map seen_placed ps) ≡ flat_map items_placed (filter (λ p. extends heads t (seen_placed p)) ps)
items_grouped heads t [] = refl
items_grouped heads t (p ∷ ps) =
    let s = seen_placed p in
    ap (λ xs. xs ++ flat_map (λ (d : Placed). items_added heads t d.declaration) (map seen_placed ps)) (added_is heads t s.declaration s.file s.index)
    ∙ ap (λ ys. cond (extends heads t s) (items_placed p) [] ++ ys) (items_grouped heads t ps)
    ∙ by (extends heads t s)
  where
    by : (b : Bool) → cond b (items_placed p) [] ++ flat_map items_placed (filter (λ p. extends heads t (seen_placed p)) ps)
        ≡ flat_map items_placed (cond b (p ∷ filter (λ p. extends heads t (seen_placed p)) ps) (filter (λ p. extends heads t (seen_placed p)) ps))
    by true = refl
    by false = refl

module _ (heads : List TypeHead) (count : ℕ) (ps : List PlacedDecl) (added : List (List PlacedDecl)) (grouped : AreGrouped heads count ps added) where
  head_same : (t : ℕ) (d : Declared) → t < count → head_grouped heads (slice_index_or added t []) d ≡ head_with heads (map seen_placed ps) t d
  head_same t d less = ap (λ items. record d.head { form = form_with (d.items ++ items) d.head.form; base = base_of heads d.body })
      (ap (flat_map items_placed) (grouped t less) ∙ sym (items_grouped heads t ps))

  pub heads_same : (t : ℕ) (ds : List Declared) → t + length ds ≤ count → heads_grouped heads added t ds ≡ heads_from heads (map seen_placed ps) t ds
  heads_same t [] within = refl
  heads_same t (d ∷ ds) within =
      let less : t < count = omega arith in
      let rest : t + 1 + length ds ≤ count = omega arith in
      ap (λ h. h ∷ heads_grouped heads added (t + 1) ds) (head_same t d less) ∙ ap (λ hs. head_with heads (map seen_placed ps) t d ∷ hs) (heads_same (t + 1) ds rest)

-- a name means the same among heads with extensions as among those without
pub named_same : (heads : List TypeHead) (added : List (List PlacedDecl)) (t : ℕ) (ds : List Declared) (owner : Option (List ℕ)) (name : List ℕ) (n : ℕ) →
    first_place (λ (h : TypeHead). same_owner h.owner owner && bytes_eq h.name name) n (heads_grouped heads added t ds)
    ≡ first_place (λ (h : TypeHead). same_owner h.owner owner && bytes_eq h.name name) n (map (λ (d : Declared). d.head) ds)
named_same heads added t [] owner name n = refl
named_same heads added t (d ∷ ds) owner name n = ap (cond (same_owner d.head.owner owner && bytes_eq d.head.name name) (Some n)) (named_same heads added (t + 1) ds owner name (n + 1))

-- the heads of what is gathered
pub gathered_heads : (d : Declarations) → AreGathered d → heads_grouped (heads_of d) d.added.items 0 (map seen_type d.types.items) ≡ all_heads (all_of d)
unfolding heads_of all_heads
gathered_heads d are =
    let size : 0 + length (map seen_type d.types.items) ≤ length d.types.items = omega (arith, length-map d.types.items seen_type) in
    heads_same (heads_of d) (length d.types.items) d.placed.items d.added.items are.same_extensions 0 (map seen_type d.types.items) size
    ∙ ap (heads_from (heads_of d) (all_of d) 0) are.same_types

pub program_heads : (p : Program) → all_heads (placed p) ≡ (types_of p).table.heads
unfolding all_heads types_of
program_heads p = refl

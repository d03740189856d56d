-- Bodies given the extensions of each type are those given all declarations.
use Rattle.std.proofs.Common.{◌≡◌, ◌∙◌, refl, sym, ap, ℕ, ◌+◌, ◌<◌, ◌≤◌, Bool, true, false, cond, List, [], ◌∷◌, ◌++◌, map, filter, length, slice_index_or, arith}
use Rattle.std.specs.Prelude.{flat_map}
use Rattle.std.proofs.lemmas.List.{length-map}
use Rattle.name_scope.specs.dsl_tree.FileTree.{DeclarationTree}
use Rattle.type_heads.specs.Table.{TypeHead}
use Rattle.type_heads.specs.Types.{Program, Written}
use Rattle.type_heads.specs.DeclaredTypes.{Placed, Declared, placed, types_of, body_with, bodies_from, means, members_added}
use Rattle.type_heads.specs.Placing.{seen_placed, seen_type}
use Rattle.type_heads.specs.Extending.{extends}
use Rattle.type_heads.specs.Grouped.{AreGrouped}
use Rattle.type_heads.specs.Bodied.{members_placed, members_of_extension, body_grouped, bodies_grouped, all_bodies}
use Rattle.type_heads.specs.Gathered.{AreGathered, all_of, heads_of}
use Rattle.type_heads.specs.declared.placed.PlacedDecl.{PlacedDecl}
use Rattle.type_heads.specs.declared.declarations.Declarations.{Declarations}

-- an extension of a type adds its members, and other declarations add none
added_is : (heads : List TypeHead) (t : ℕ) (d : DeclarationTree) (file index : ℕ) →
    members_added heads t (record { file = file; index = index; declaration = d }) d
    ≡ cond (extends heads t (record { file = file; index = index; declaration = d })) (members_of_extension file index d) []
added_is heads t (DeclarationTree.TypeDeclaration d) file index = refl
added_is heads t (DeclarationTree.UnitDeclaration d) file index = refl
added_is heads t (DeclarationTree.EnumDeclaration d) file index = refl
added_is heads t (DeclarationTree.CompoundDeclaration d) file index = refl
added_is heads t (DeclarationTree.MemberExtension d) file index = refl
added_is heads t (DeclarationTree.EnumExtension d) file index = sym (both (means heads d.name t))
  where
    both : (b : Bool) → cond {A = List Written} b [] [] ≡ []
    both true = refl
    both false = refl

members_grouped : (heads : List TypeHead) (t : ℕ) (ps : List PlacedDecl) →
    flat_map (λ (p : Placed). members_added heads t p p.declaration) (map seen_placed ps) ≡ flat_map members_placed (filter (λ p. extends heads t (seen_placed p)) ps)
members_grouped heads t [] = refl
members_grouped heads t (p ∷ ps) =
    let s = seen_placed p in
    ap (λ xs. xs ++ flat_map (λ (q : Placed). members_added heads t q q.declaration) (map seen_placed ps)) (added_is heads t s.declaration s.file s.index)
    ∙ ap (λ ys. cond (extends heads t s) (members_placed p) [] ++ ys) (members_grouped heads t ps)
    ∙ by (extends heads t s)
  where
    by : (b : Bool) → cond b (members_placed p) [] ++ flat_map members_placed (filter (λ p. extends heads t (seen_placed p)) ps)
        ≡ flat_map members_placed (cond b (p ∷ filter (λ p. extends heads t (seen_placed p)) ps) (filter (λ p. extends heads t (seen_placed p)) ps))
    by true = refl
    by false = refl

module _ (heads : List TypeHead) (count : ℕ) (ps : List PlacedDecl) (added : List (List PlacedDecl)) (grouped : AreGrouped heads count ps added) where
  body_same : (t : ℕ) (d : Declared) → t < count → body_grouped (slice_index_or added t []) d ≡ body_with heads (map seen_placed ps) t d
  body_same t d less = ap (λ more. record d.body { more = more }) (ap (flat_map members_placed) (grouped t less) ∙ sym (members_grouped heads t ps))

  bodies_same : (t : ℕ) (ds : List Declared) → t + length ds ≤ count → bodies_grouped added t ds ≡ bodies_from heads (map seen_placed ps) t ds
  bodies_same t [] within = refl
  bodies_same t (d ∷ ds) within =
      let less : t < count = omega arith in
      let rest : t + 1 + length ds ≤ count = omega arith in
      ap (λ b. b ∷ bodies_grouped added (t + 1) ds) (body_same t d less) ∙ ap (λ bs. body_with heads (map seen_placed ps) t d ∷ bs) (bodies_same (t + 1) ds rest)

-- the bodies of what is gathered
pub gathered_bodies : (d : Declarations) → AreGathered d → bodies_grouped d.added.items 0 (map seen_type d.types.items) ≡ all_bodies (all_of d)
unfolding heads_of all_bodies
gathered_bodies d are =
    let size : 0 + length (map seen_type d.types.items) ≤ length d.types.items = omega (arith, length-map d.types.items seen_type) in
    bodies_same (heads_of d) (length d.types.items) d.placed.items d.added.items are.same_extensions 0 (map seen_type d.types.items) size
    ∙ ap (bodies_from (heads_of d) (all_of d) 0) are.same_types

pub program_bodies : (p : Program) → all_bodies (placed p) ≡ (types_of p).bodies
unfolding all_bodies types_of
program_bodies p = refl

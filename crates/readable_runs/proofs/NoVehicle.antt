-- The named scenario is no vehicle.
use Rattle.std.proofs.Common.{◌≡◌, ◌∙◌, refl, sym, ap, subst, inl, inr, ℕ, suc, ◌+◌, Bool, true, false, ◌&&◌, List, [], ◌∷◌, ◌++◌, map, Option, Some, None, true≢false}
use Rattle.std.specs.Prelude.{codes, filter_map, is_some, nat_eq, option_and_then, slice_index_or}
use Rattle.std.specs.Option.{option_map_or}
use Rattle.source_scenes.specs.outside_io.declared.shelf.NamedBytes.{NamedBytes}
use Rattle.source_scenes.specs.dsl_tree.declared.compounds.CompoundKind.{CompoundKind}
use Rattle.source_scenes.specs.dsl_tree.FileTree.{DeclarationTree, FileTree}
use Rattle.source_scenes.specs.name_scope.FileNumbers.{AddedFile}
use Rattle.source_scenes.specs.program_load.Loading.{IsLoaded}
use Rattle.run_tests.specs.type_heads.Form.{Form}
use Rattle.run_tests.specs.type_heads.Table.{TypeHead, bases, form, head, int_head, is_actor, is_behaviour, is_kind_of, is_scenario, named, owner}
use Rattle.run_tests.specs.type_heads.Types.{Program}
use Rattle.run_tests.specs.type_heads.DeclaredTypes.{Declared, Placed, all_declared, basic_types, declared_heads, heads_from, placed, placed_from, placed_in, program_of, type_declared, types_of}
use Rattle.run_tests.specs.composition.Expanded.{is_vehicle}
use Rattle.source_scenes.proofs.of_field_flatten.NumberLaw.{making}
use Rattle.source_scenes.proofs.of_field_flatten.Tests.{In, any_at, in_left, in_right, number_is}
use Rattle.source_scenes.proofs.of_scene_laws.OwnedHeads.{HaveActors}
use Rattle.source_scenes.proofs.of_scene_laws.PlacedObjects.{scenario_behaves}
use Rattle.source_scenes.proofs.of_checkable_scenes.ConditionFields.{IsInherited}
use Rattle.source_scenes.proofs.of_checkable_scenes.ReadFacts.{AreAlike, up_alike}
use Rattle.source_scenes.proofs.of_loaded_programs.LibraryThere.{HasLibrary, library_there}
use Rattle.source_scenes.proofs.of_loaded_programs.LibraryTree.{library_declarations, library_tree}

-- ---- declarations of a file

-- a declaration of a file of the program, where it is placed
record IsPlaced (d : DeclarationTree) (all : List Placed) : Type 0 where
  at : Placed
  inside : In at all
  same : at.declaration ≡ d

in_file : (file index : ℕ) (ds : List DeclarationTree) (d : DeclarationTree) → In d ds → IsPlaced d (placed_in file index ds)
in_file file index [] d i = absurd i
in_file file index (x ∷ ds) d (inl e) = record { at = record { file = file; index = index; declaration = x }; inside = inl refl; same = sym e }
in_file file index (x ∷ ds) d (inr i) = let g = in_file file (index + 1) ds d i in record { at = g.at; inside = inr g.inside; same = g.same }

in_files : (n : ℕ) (front back : List FileTree) (f : FileTree) (d : DeclarationTree) → In d f.decls → IsPlaced d (placed_from n (front ++ f ∷ back))
in_files n [] back f d i =
    let g = in_file n 0 f.decls d i in
    record { at = g.at; inside = in_left g.at (placed_in n 0 f.decls) (placed_from (n + 1) back) g.inside; same = g.same }
in_files n (x ∷ front) back f d i =
    let g = in_files (n + 1) front back f d i in
    record { at = g.at; inside = in_right g.at (placed_in n 0 x.decls) (placed_from (n + 1) (front ++ f ∷ back)) g.inside; same = g.same }

-- ---- the owner of the library's `drive`

-- a type of this owner is declared
record HasOwned (name : List ℕ) (ds : List Declared) : Type 0 where
  declared : Declared
  inside : In declared ds
  owned : declared.head.owner ≡ Some name

record HasHead (name : List ℕ) (heads : List TypeHead) : Type 0 where
  number : ℕ
  owned : (slice_index_or heads number int_head).owner ≡ Some name

head_there : (names : List TypeHead) (all : List Placed) (t : ℕ) (ds : List Declared) (d : Declared) → In d ds → (name : List ℕ) → d.head.owner ≡ Some name → HasHead name (heads_from names all t ds)
head_there names all t [] d i name e = absurd i
head_there names all t (x ∷ ds) d (inl same) name e = record { number = 0; owned = subst (λ (z : Declared). z.head.owner ≡ Some name) same e }
head_there names all t (x ∷ ds) d (inr i) name e = let g = head_there names all (t + 1) ds d i name e in record { number = suc g.number; owned = g.owned }

owned_there : (all : List Placed) (d : DeclarationTree) → IsPlaced d all → (name : List ℕ)
    → ((file index : ℕ) → (x : Declared) × (type_declared file index d ≡ Some x) × (x.head.owner ≡ Some name)) → HasOwned name (all_declared all)
owned_there all d g name f =
    let x = f g.at.file g.at.index in
    record {
      declared = x.0;
      inside = in_right x.0 basic_types (filter_map (λ (d : Placed). type_declared d.file d.index d.declaration) all)
          (making (λ (d : Placed). type_declared d.file d.index d.declaration) all g.at x.0 g.inside (ap (type_declared g.at.file g.at.index) g.same ∙ x.1));
      owned = x.2;
    }

-- the library's behaviour that `vehicle` owns
drive_there : (n : ℕ) (all : List Placed) → ((d : DeclarationTree) → In d (library_declarations n) → IsPlaced d all) → HasOwned (codes "vehicle") (all_declared all)
drive_there n all f = owned_there all _ (f _ (inr (inr (inr (inr (inr (inr (inr (inr (inr (inr (inr (inr (inr (inl refl))))))))))))))) (codes "vehicle") (λ file index. (_, refl, refl))

vehicle_actor : (p : Program) → HasLibrary p.files → HaveActors (types_of p).table.heads → (v : ℕ) → named (types_of p).table.heads None (codes "vehicle") ≡ Some v → is_actor (form (types_of p).table.heads v) ≡ true
unfolding types_of
vehicle_actor p h actors v is =
    let all = placed p in
    let names = declared_heads all in
    let there : (d : DeclarationTree) → In d (library_declarations h.number) → IsPlaced d all =
    λ d i. subst (λ files. IsPlaced d (placed_from 0 files)) (sym h.split) (in_files 0 h.front h.back (library_tree h.number) d i) in
    let g = drive_there h.number all there in
    let k = head_there names all 0 (all_declared all) g.declared g.inside (codes "vehicle") g.owned in
    actors k.number v (ap (option_and_then (named (heads_from names all 0 (all_declared all)) None)) k.owned ∙ is)

actor_quiet : (f : Form) → is_actor f ≡ true → is_behaviour f ≡ false
actor_quiet (Form.Compound CompoundKind.Struct) h = refl
actor_quiet (Form.Compound CompoundKind.Actor) h = refl
actor_quiet (Form.Compound CompoundKind.Action) h = absurd (true≢false (sym h))
actor_quiet (Form.Compound CompoundKind.Scenario) h = absurd (true≢false (sym h))
actor_quiet Form.Int h = refl
actor_quiet Form.Uint h = refl
actor_quiet Form.Float h = refl
actor_quiet Form.Truth h = refl
actor_quiet Form.Chars h = refl
actor_quiet (Form.Physical x) h = refl
actor_quiet (Form.Enum x) h = refl

-- the library of a program's types is that of its files
library_is : (p : Program) → (types_of p).library ≡ p.library
unfolding types_of
library_is p = refl

module _ (files : List NamedBytes) (main : List ℕ) (program : List AddedFile) (whole : IsLoaded files main program) where
  abbrev p : Program
  p = program_of program

  abbrev heads : List TypeHead
  heads = (types_of p).table.heads

  pub no_vehicle : IsInherited (types_of p) → AreAlike (types_of p) → HaveActors heads → (t : ℕ) → is_scenario (form heads t) ≡ true → is_vehicle (types_of p) t ≡ false
  no_vehicle inherited alike actors t scenario = by_library p.library refl
    where
      by_kind : (v : ℕ) → is_actor (form heads v) ≡ true → (b : Bool) → is_kind_of heads v t ≡ b → b ≡ false
      by_kind v actor true e =
          let g = any_at (nat_eq v) (t ∷ bases heads t) e in
          let above : In v (t ∷ bases heads t) = subst (λ z. In z (t ∷ bases heads t)) (sym (number_is v g.0 g.2)) g.1 in
          absurd (true≢false (sym (scenario_behaves (form heads t) scenario) ∙ up_alike (types_of p) inherited alike v t above ∙ actor_quiet (form heads v) actor))
      by_kind v actor false e = refl

      by_name : HasLibrary p.files → (o : Option ℕ) → named heads None (codes "vehicle") ≡ o → option_map_or (λ v. is_kind_of heads v t) o false ≡ false
      by_name h None e = refl
      by_name h (Some v) e = by_kind v (vehicle_actor p h actors v e) (is_kind_of heads v t) refl

      apart : (a b : Bool) → b ≡ false → a && b ≡ false
      apart true b e = e
      apart false b e = refl

      by_library : (o : Option ℕ) → p.library ≡ o → is_vehicle (types_of p) t ≡ false
      by_library None e = ap (λ z. is_some z && option_map_or (λ v. is_kind_of heads v t) (named heads None (codes "vehicle")) false) (library_is p ∙ e)
      by_library (Some k) e = apart (is_some (types_of p).library) _ (by_name (library_there files main program k whole e) (named heads None (codes "vehicle")) refl)

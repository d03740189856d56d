-- What declarations give, file by file and all in one.
use Rattle.std.proofs.Common.{◌≡◌, ◌∙◌, refl, ap, ℕ, ◌+◌, List, [], ◌∷◌, ◌++◌, map}
use Rattle.std.specs.Prelude.{flat_map}
use Rattle.std.proofs.lemmas.Grind.{flat_map-append}
use Rattle.name_scope.specs.dsl_tree.FileTree.{DeclarationTree, FileTree}
use Rattle.type_heads.specs.Types.{Program}
use Rattle.type_heads.specs.Units.{unit_declared, units_of}
use Rattle.type_heads.specs.DeclaredTypes.{Placed, placed, placed_in, placed_from}
use Rattle.type_heads.specs.Placing.{seen_placed}
use Rattle.type_heads.specs.UnitsPlaced.{units_placed, units_in}
use Rattle.type_heads.specs.declared.placed.PlacedDecl.{PlacedDecl}

module _ {X : Type 0} (give : DeclarationTree → List X) where
  in_file : (file index : ℕ) (ds : List DeclarationTree) → flat_map (λ (p : Placed). give p.declaration) (placed_in file index ds) ≡ flat_map give ds
  in_file file index [] = refl
  in_file file index (d ∷ ds) = ap (λ xs. give d ++ xs) (in_file file (index + 1) ds)

  pub in_files : (file : ℕ) (fs : List FileTree) → flat_map (λ (p : Placed). give p.declaration) (placed_from file fs) ≡ flat_map (λ (f : FileTree). flat_map give f.decls) fs
  in_files file [] = refl
  in_files file (f ∷ fs) =
      flat_map-append (λ (p : Placed). give p.declaration) (placed_in file 0 f.decls) (placed_from (file + 1) fs)
      ∙ ap (λ xs. xs ++ flat_map (λ (p : Placed). give p.declaration) (placed_from (file + 1) fs)) (in_file file 0 f.decls)
      ∙ ap (λ ys. flat_map give f.decls ++ ys) (in_files (file + 1) fs)

  pub among : (ps : List PlacedDecl) → flat_map (λ p. give (seen_placed p).declaration) ps ≡ flat_map (λ (p : Placed). give p.declaration) (map seen_placed ps)
  among [] = refl
  among (p ∷ ps) = ap (λ xs. give (seen_placed p).declaration ++ xs) (among ps)

pub units_among : (ps : List PlacedDecl) → flat_map units_placed ps ≡ units_in (map seen_placed ps)
unfolding units_in
units_among ps = among unit_declared ps

pub program_units : (p : Program) → units_in (placed p) ≡ units_of p.files
unfolding units_in
program_units p = in_files unit_declared 0 p.files

-- A loaded program has what the laws on scenes ask.
use Rattle.std.proofs.Common.{◌≡◌, refl, ap, ℕ, not, true, false, [], ◌++◌, ◌≤◌, map, length, Option, Some, None, arith}
use Rattle.std.specs.Prelude.{filter_map, flat_map, is_some, nat_le}
use Rattle.std.proofs.lemmas.Bool.Decides.{nat_tests}
use Rattle.name_scope.specs.FileNumbers.{numbered_names, is_library}
use Rattle.name_scope.specs.Declaring.{first_place}
use Rattle.checkable_scenes.specs.type_heads.Table.{all_types}
use Rattle.checkable_scenes.specs.type_heads.Types.{Program}
use Rattle.checkable_scenes.specs.type_heads.Texts.{texts_of}
use Rattle.checkable_scenes.specs.type_heads.HeadingFaults.{name_declared, basic_names, twice_rows, declaration_rows, enum_rows_from, cycle_row, heading_rows}
use Rattle.checkable_scenes.specs.type_heads.DeclaredTypes.{Placed, placed, all_declared, program_of, types_of}
use Rattle.checkable_scenes.specs.expr_nodes.Parts.{any_holds}
use Rattle.checkable_scenes.proofs.of_scene_laws.FaultRows.{rows_left, no_faults}
use Rattle.checkable_scenes.specs.Premises.{has_limits}
use Rattle.loaded_programs.specs.LoadLaws.{LoadsAreLoadedPrograms}
use Rattle.loaded_programs.proofs.Booleans.{either}
use Rattle.loaded_programs.proofs.LoadedFiles.{all_spelled, few_texts}
use Rattle.loaded_programs.proofs.LibraryThere.{library_there}
use Rattle.loaded_programs.proofs.LibraryLimits.{limits_there}

is_few : (n : ℕ) → n ≤ 1000000000 → nat_le n 1000000000 ≡ true
is_few n h = grind (arith, nat_tests)

texts_fit : (p : Program) → length (texts_of p.files) ≤ 1000000000 → nat_le (length (types_of p).table.texts) 1000000000 ≡ true
unfolding types_of
texts_fit p h = is_few (length (texts_of p.files)) h

no_library : (p : Program) → p.library ≡ None → has_limits (types_of p) ≡ true
unfolding types_of
no_library p none = either (not (is_some p.library)) _ (ap (λ o. not (is_some o)) none)

-- no name is declared twice
once : (p : Program) → any_holds (heading_rows p (types_of p)) ≡ false → any_holds (twice_rows basic_names (filter_map (λ (d : Placed). name_declared d.declaration) (placed p))) ≡ false
once p rows =
    let ts = types_of p in
    let heads = ts.table.heads in
    let all = placed p in
    let twice = twice_rows basic_names (filter_map (λ (d : Placed). name_declared d.declaration) all) in
    let used = flat_map (λ (d : Placed). declaration_rows heads d.declaration) all in
    let enums = enum_rows_from heads all 0 (all_declared all) in
    let cycles = map (cycle_row heads ts.bodies) (all_types heads) in
    rows_left twice used (rows_left (twice ++ used) enums (rows_left (twice ++ used ++ enums) cycles rows))

pub loads_are_loaded_programs : LoadsAreLoadedPrograms
loads_are_loaded_programs files main program loaded faultless =
    let p = program_of program in
    record {
      spelled = all_spelled files main [] program 0 loaded.taken;
      few_texts = texts_fit p (few_texts files main program loaded.taken);
      limits = limited p.library refl;
    }
  where
    limited : (o : Option ℕ) → first_place is_library 0 (numbered_names program) ≡ o → has_limits (types_of (program_of program)) ≡ true
    limited None none = no_library (program_of program) none
    limited (Some k) there = limits_there (program_of program) (library_there files main program k loaded there) (once (program_of program) (no_faults (program_of program) (types_of (program_of program)) faultless).headings)

-- If headings have no fault, each physical type and each unit has exponents.
use Rattle.std.proofs.Common.{◌≡◌, ◌∙◌, refl, ap, ℕ, zero, suc, ◌+◌, ◌&&◌, Bool, true, false, cond, List, [], ◌∷◌, ◌++◌, Option, Some, None, bytes_eq, map, slice_index_or}
use Rattle.std.specs.Prelude.{filter_map, find, flat_map, is_some, not}
use Rattle.std.specs.Option.{option_map_or}
use Rattle.std.specs.List.{cons_option, list_all, list_any}
use Rattle.std.proofs.lemmas.List.Folds.{list_all-append}
use Rattle.type_model.specs.osc_base.FaultRows.{FaultRow, first_fault}
use Rattle.type_model.specs.dsl_tree.declared.enums.EnumItem.{EnumItem}
use Rattle.type_model.specs.dsl_tree.declared.units.BasePart.{BasePart}
use Rattle.type_model.specs.dsl_tree.FileTree.{DeclarationTree}
use Rattle.type_model.specs.units_si.declared.units.Exponents.{Exponents}
use Rattle.type_model.specs.type_heads.Form.{Form}
use Rattle.type_model.specs.type_heads.Table.{TypeHead, TableUnit, all_types, form, int_head}
use Rattle.type_model.specs.type_heads.Types.{Program}
use Rattle.type_model.specs.type_heads.Units.{are_bases, exponents_of, is_base_unit, unit_declared}
use Rattle.type_model.specs.type_heads.UnitsPlaced.{units_in}
use Rattle.type_model.specs.type_heads.DeclaredTypes.{Placed, placed, Declared, all_declared, basic_types, declared_heads, form_with, head_with, heads_from, items_with, type_declared, types_of}
use Rattle.type_model.specs.type_heads.HeadsGrouped.{all_heads}
use Rattle.type_model.specs.type_heads.HeadingFaults.{basic_names, bracket_rows, cycle_row, declaration_rows, enum_rows_from, heading_rows, name_declared, twice_rows}
use Rattle.type_model.specs.Kept.{AreKept, has_exponents, have_exponents, is_sound, is_sound_unit}
use Rattle.type_model.specs.Built.{AreProgramTables}
use Rattle.type_build.specs.Sound.{AreOfProgram, HeadingsAreSound}
use Rattle.type_model.specs.declared.parts.ProgramTables.{ProgramTables}
use Rattle.type_build.proofs.Quiet.{are_quiet, and_left, and_right, and_both, each_quiet, quiet, quiet_left, quiet_right}

-- Brackets

brackets : (earlier : List (List ℕ)) (parts : List BasePart) → are_quiet (bracket_rows earlier parts) ≡ true → are_bases earlier parts ≡ true
brackets earlier [] h = refl
brackets earlier (p ∷ ps) h = by (list_any (bytes_eq p.name.text) earlier) (is_base_unit p.name.text) (brackets (p.name.text ∷ earlier) ps) h
  where
    by : (twice base : Bool) → (are_quiet (bracket_rows (p.name.text ∷ earlier) ps) ≡ true → are_bases (p.name.text ∷ earlier) ps ≡ true) →
        (not twice && (not (not base) && are_quiet (bracket_rows (p.name.text ∷ earlier) ps))) ≡ true → (base && (not twice && are_bases (p.name.text ∷ earlier) ps)) ≡ true
    by true base later h = absurd (let e : false ≡ true = h in cc)
    by false true later h = later h
    by false false later h = absurd (let e : false ≡ true = h in cc)

there : {A : Type 0} (b : Bool) (x : A) → is_some (cond b (Some x) None) ≡ b
there true x = refl
there false x = refl

exponents : (parts : List BasePart) → are_quiet (bracket_rows [] parts) ≡ true → is_some (exponents_of parts) ≡ true
exponents parts h = there (are_bases [] parts) _ ∙ brackets [] parts h

-- Declarations

declaration : (heads : List TypeHead) (d : DeclarationTree) → are_quiet (declaration_rows heads d) ≡ true → has_exponents d ≡ true
declaration heads (DeclarationTree.TypeDeclaration d) h = exponents d.bases h
declaration heads (DeclarationTree.UnitDeclaration d) h = exponents d.bases (quiet_left (bracket_rows [] d.bases) _ h)
declaration heads (DeclarationTree.EnumDeclaration d) h = refl
declaration heads (DeclarationTree.CompoundDeclaration d) h = refl
declaration heads (DeclarationTree.MemberExtension d) h = refl
declaration heads (DeclarationTree.EnumExtension d) h = refl

declarations : (heads : List TypeHead) (all : List Placed) → list_all (λ (d : Placed). are_quiet (declaration_rows heads d.declaration)) all ≡ true → have_exponents all ≡ true
declarations heads [] h = refl
declarations heads (d ∷ ds) h =
    let rest : Bool = list_all (λ (d : Placed). are_quiet (declaration_rows heads d.declaration)) ds in
    and_both (has_exponents d.declaration) (have_exponents ds) (declaration heads d.declaration (and_left (are_quiet (declaration_rows heads d.declaration)) rest h))
    (declarations heads ds (and_right (are_quiet (declaration_rows heads d.declaration)) rest h))

-- Units

has_unit_exponents : (d : DeclarationTree) → has_exponents d ≡ true → list_all (λ (u : TableUnit). is_some u.exponents) (unit_declared d) ≡ true
has_unit_exponents (DeclarationTree.TypeDeclaration d) h = refl
has_unit_exponents (DeclarationTree.UnitDeclaration d) h = and_both (is_some (exponents_of d.bases)) true h refl
has_unit_exponents (DeclarationTree.EnumDeclaration d) h = refl
has_unit_exponents (DeclarationTree.CompoundDeclaration d) h = refl
has_unit_exponents (DeclarationTree.MemberExtension d) h = refl
has_unit_exponents (DeclarationTree.EnumExtension d) h = refl

units : (all : List Placed) → have_exponents all ≡ true → list_all (λ (u : TableUnit). is_some u.exponents) (flat_map (λ (p : Placed). unit_declared p.declaration) all) ≡ true
units [] h = refl
units (d ∷ ds) h =
    list_all-append (λ (u : TableUnit). is_some u.exponents) (unit_declared d.declaration) (flat_map (λ (p : Placed). unit_declared p.declaration) ds)
    ∙ and_both (list_all (λ (u : TableUnit). is_some u.exponents) (unit_declared d.declaration))
    (list_all (λ (u : TableUnit). is_some u.exponents) (flat_map (λ (p : Placed). unit_declared p.declaration) ds))
    (has_unit_exponents d.declaration (and_left (has_exponents d.declaration) (have_exponents ds) h))
    (units ds (and_right (has_exponents d.declaration) (have_exponents ds) h))

found : {X : Type 0} (wanted passes : X → Bool) (xs : List X) → list_all passes xs ≡ true → option_map_or passes (find wanted xs) true ≡ true
found wanted passes [] h = refl
found wanted passes (x ∷ xs) h = by (wanted x) (found wanted passes xs (and_right (passes x) (list_all passes xs) h))
  where
    by : (b : Bool) → option_map_or passes (find wanted xs) true ≡ true → option_map_or passes (cond b (Some x) (find wanted xs)) true ≡ true
    by true later = and_left (passes x) (list_all passes xs) h
    by false later = later

-- Types

head_form : (items : List EnumItem) (f : Form) → is_sound f ≡ true → is_sound (form_with items f) ≡ true
head_form items Form.Int h = refl
head_form items Form.Uint h = refl
head_form items Form.Float h = refl
head_form items Form.Truth h = refl
head_form items Form.Chars h = refl
head_form items (Form.Physical e) h = h
head_form items (Form.Enum members) h = refl
head_form items (Form.Compound kind) h = refl

sound_heads : (names : List TypeHead) (all : List Placed) (t : ℕ) (ds : List Declared) → list_all (λ (d : Declared). is_sound d.head.form) ds ≡ true →
    list_all (λ (h : TypeHead). is_sound h.form) (heads_from names all t ds) ≡ true
sound_heads names all t [] h = refl
sound_heads names all t (d ∷ ds) h =
    and_both (is_sound (head_with names all t d).form) (list_all (λ (h : TypeHead). is_sound h.form) (heads_from names all (t + 1) ds))
    (head_form (items_with names all t d.items) d.head.form (and_left (is_sound d.head.form) (list_all (λ (d : Declared). is_sound d.head.form) ds) h))
    (sound_heads names all (t + 1) ds (and_right (is_sound d.head.form) (list_all (λ (d : Declared). is_sound d.head.form) ds) h))

physical : (e : Option Exponents) → is_some e ≡ true → is_sound (Form.Physical e) ≡ true
physical None h = h
physical (Some e) h = refl

-- the type that is declared, if there is one, is sound
abbrev sound_declared : Option Declared → Bool
sound_declared o = option_map_or (λ (d : Declared). is_sound d.head.form) o true

declared_form : (file index : ℕ) (d : DeclarationTree) → has_exponents d ≡ true → sound_declared (type_declared file index d) ≡ true
declared_form file index (DeclarationTree.TypeDeclaration d) h = physical (exponents_of d.bases) h
declared_form file index (DeclarationTree.UnitDeclaration d) h = refl
declared_form file index (DeclarationTree.EnumDeclaration d) h = refl
declared_form file index (DeclarationTree.CompoundDeclaration d) h = refl
declared_form file index (DeclarationTree.MemberExtension d) h = refl
declared_form file index (DeclarationTree.EnumExtension d) h = refl

sound_types : (all : List Placed) → have_exponents all ≡ true → list_all (λ (d : Declared). is_sound d.head.form) (filter_map (λ (d : Placed). type_declared d.file d.index d.declaration) all) ≡ true
sound_types [] h = refl
sound_types (d ∷ ds) h =
    by (type_declared d.file d.index d.declaration) (declared_form d.file d.index d.declaration (and_left (has_exponents d.declaration) (have_exponents ds) h))
    (sound_types ds (and_right (has_exponents d.declaration) (have_exponents ds) h))
  where
    by : (o : Option Declared) → sound_declared o ≡ true →
        list_all (λ (d : Declared). is_sound d.head.form) (filter_map (λ (d : Placed). type_declared d.file d.index d.declaration) ds) ≡ true →
        list_all (λ (d : Declared). is_sound d.head.form) (cons_option o (filter_map (λ (d : Placed). type_declared d.file d.index d.declaration) ds)) ≡ true
    by None k later = later
    by (Some x) k later = and_both (is_sound x.head.form) (list_all (λ (d : Declared). is_sound d.head.form) (filter_map (λ (d : Placed). type_declared d.file d.index d.declaration) ds)) k later

at : {X : Type 0} (passes : X → Bool) (d : X) (xs : List X) (t : ℕ) → passes d ≡ true → list_all passes xs ≡ true → passes (slice_index_or xs t d) ≡ true
at passes d [] t none h = none
at passes d (x ∷ xs) zero none h = and_left (passes x) (list_all passes xs) h
at passes d (x ∷ xs) (suc t) none h = at passes d xs t none (and_right (passes x) (list_all passes xs) h)

-- Programs

pub sound_program : (p : Program) → first_fault (heading_rows p (types_of p)) ≡ None → have_exponents (placed p) ≡ true
sound_program p is =
    let heads : List TypeHead = (types_of p).table.heads in
    let twice : List FaultRow = twice_rows basic_names (filter_map (λ (d : Placed). name_declared d.declaration) (placed p)) in
    let used : List FaultRow = flat_map (λ (d : Placed). declaration_rows heads d.declaration) (placed p) in
    let enums : List FaultRow = enum_rows_from heads (placed p) 0 (all_declared (placed p)) in
    let cycles : List FaultRow = map (cycle_row heads (types_of p).bodies) (all_types heads) in
    declarations heads (placed p) (each_quiet (λ (d : Placed). declaration_rows heads d.declaration) (placed p)
    (quiet_right twice used (quiet_left (twice ++ used) enums (quiet_left (twice ++ used ++ enums) cycles (quiet (heading_rows p (types_of p)) is)))))

pub sound_forms : (all : List Placed) → have_exponents all ≡ true → (t : ℕ) → is_sound (form (all_heads all) t) ≡ true
unfolding all_heads
sound_forms all h t =
    at (λ (h : TypeHead). is_sound h.form) int_head (all_heads all) t refl (sound_heads (declared_heads all) all 0 (all_declared all)
    (list_all-append (λ (d : Declared). is_sound d.head.form) basic_types (filter_map (λ (d : Placed). type_declared d.file d.index d.declaration) all) ∙ sound_types all h))

pub sound_units : (all : List Placed) → have_exponents all ≡ true → (name : List ℕ) → is_sound_unit (units_in all) name ≡ true
unfolding units_in
sound_units all h name = found (λ (u : TableUnit). bytes_eq u.name name) (λ (u : TableUnit). is_some u.exponents) (units_in all) (units all h)

pub kept : (all : List Placed) (heads : List TypeHead) (t : ProgramTables) → HeadingsAreSound all → AreOfProgram all → heads ≡ all_heads all → AreProgramTables all heads t →
    AreKept heads t.numbers.items t.units t.texts
kept all heads t sound (p, same) heads_are tables = record {
  sound = λ n. ap (λ hs. is_sound (form hs n)) heads_are ∙ sound_forms all all_have n;
  sound_units = λ name. ap (λ us. is_sound_unit us name) tables.units ∙ sound_units all all_have name;
  same_numbers = tables.numbers;
  few = tables.few;
}
  where
    all_have : have_exponents all ≡ true
    all_have = ap have_exponents same ∙ sound_program p (sound p same)

-- What is known of the types of a program without faults of declarations.
use Rattle.std.proofs.Common.{◌≡◌, ℕ, zero, suc, ◌+◌, ◌≤◌, ◌<◌, refl, sym, ap, ◌∙◌, subst, inl, inr, List, [], ◌∷◌, ◌++◌, Bool, true, false, ◌&&◌, ◌||◌, not, cond, Option, Some, None, map, length, arith, true≢false}
use Rattle.std.specs.Prelude.{flat_map, filter_map, is_some, slice_index_or, bytes_eq, nat_lt, option_map, option_and_then}
use Rattle.std.specs.Option.{option_map_or}
use Rattle.std.specs.List.{list_any}
use Rattle.osc_base.specs.declared.fault.FaultCode.{FaultCode}
use Rattle.osc_base.specs.FaultRows.{row}
use Rattle.expr_eval.specs.dsl_tree.declared.compounds.CompoundKind.{CompoundKind}
use Rattle.expr_eval.specs.dsl_tree.declared.compounds.Heir.{Heir}
use Rattle.expr_eval.specs.dsl_tree.declared.compounds.HeirCondition.{HeirCondition}
use Rattle.expr_eval.specs.dsl_tree.declared.enums.EnumItem.{EnumItem}
use Rattle.expr_eval.specs.dsl_tree.declared.units.BasePart.{BasePart}
use Rattle.expr_eval.specs.dsl_tree.declared.units.UnitDecl.{UnitDecl}
use Rattle.expr_eval.specs.dsl_tree.FileTree.{FileTree, DeclarationTree}
use Rattle.expr_eval.specs.units_si.declared.units.Exponents.{Exponents}
use Rattle.expr_eval.specs.type_heads.Form.{Form}
use Rattle.expr_eval.specs.type_heads.Table.{TypeHead, TableUnit, int_head, form, base, bases, line_within, has_members, all_types}
use Rattle.expr_eval.specs.type_heads.Types.{Program, Types, Member}
use Rattle.expr_eval.specs.type_heads.Members.{has, heir_condition, is_conditional, members, dos}
use Rattle.expr_eval.specs.type_heads.MemberFaults.{names_among, repeated_rows, names_given, do_rows, initial_rows, condition_field, depends_on, field_rows, condition_rows, member_fault_rows}
use Rattle.expr_eval.specs.type_heads.Cycles.{returns}
use Rattle.expr_eval.specs.type_heads.Units.{is_base_unit, are_bases, exponents_of, unit_of, unit_declared, units_of}
use Rattle.expr_eval.specs.type_heads.HeadingFaults.{bracket_rows, unit_rows, declaration_rows, heading_rows, twice_rows, basic_names, name_declared, enum_rows_from, cycle_row, held_types}
use Rattle.expr_eval.specs.type_heads.DeclaredTypes.{Placed, placed, placed_in, placed_from, Declared, basic_types, type_declared, all_declared, meant, items_with, form_with, heads_from, bodies_from, declared_heads, types_of}
use Rattle.expr_eval.specs.expr_nodes.Kinds.{ValueKind, plain, kind_of}
use Rattle.expr_eval.specs.expr_nodes.Parts.{any_holds}
use Rattle.run_values.proofs.of_field_flatten.Tests.{both, two_ways, In, in_left, in_right, in_either, flat_map_in, found_in}
use Rattle.scene_laws.proofs.FaultRows.{NoFaults, no_left, no_right, rows_left, rows_right, rows_among, row_among, holds_not, not_so}
use Rattle.scene_laws.proofs.Picked.{filter_map_in}
use Rattle.scene_laws.proofs.FieldNames.{AreCounted, program_counted, number_in, less, more, type_no_fault, field_found}
use Rattle.scene_laws.proofs.OwnedHeads.{program_owned, do_scenario}
use Rattle.scene_laws.proofs.HeldTypes.{AreBased, program_based, program_members, held_acyclic, calls_acyclic}
use Rattle.scene_laws.proofs.PlacedObjects.{IsAcyclic}
use Rattle.checkable_scenes.proofs.ConditionFields.{IsInherited, member_below}
use Rattle.checkable_scenes.proofs.ResolvedScopes.{HasKinds}

-- ---- what inherits has members

abbrev HasHeir : Declared → Type 0
HasHeir d = (h : Heir) → d.body.heir ≡ Some h → has_members d.head.form ≡ true

compound_members : (k : CompoundKind) → has_members (Form.Compound k) ≡ true
compound_members CompoundKind.Struct = refl
compound_members CompoundKind.Actor = refl
compound_members CompoundKind.Action = refl
compound_members CompoundKind.Scenario = refl

declared_heirs : (all : List Placed) (d : Declared) → In d (all_declared all) → HasHeir d
declared_heirs all d i = elim (in_either d basic_types (filter_map (λ (d : Placed). type_declared d.file d.index d.declaration) all) i) as (λ _. HasHeir d) [
  | inl j ↦ basic j
  | inr j ↦ let g = filter_map_in (λ (d : Placed). type_declared d.file d.index d.declaration) all d j in by g.0.file g.0.index g.0.declaration g.2
]
  where
    none : {e : Declared} → d ≡ e → e.body.heir ≡ None → HasHeir d
    none same empty h is = let other : d.body.heir ≡ None = ap (λ (z : Declared). z.body.heir) same ∙ empty in cc

    basic : In d basic_types → HasHeir d
    basic (inl e) = none e refl
    basic (inr (inl e)) = none e refl
    basic (inr (inr (inl e))) = none e refl
    basic (inr (inr (inr (inl e)))) = none e refl
    basic (inr (inr (inr (inr (inl e))))) = none e refl
    basic (inr (inr (inr (inr (inr k))))) = absurd k

    some : {e : Declared} → Some e ≡ Some d → d ≡ e
    some is = cc

    by : (file index : ℕ) (t : DeclarationTree) → type_declared file index t ≡ Some d → HasHeir d
    by file index (DeclarationTree.EnumDeclaration e) is = none (some is) refl
    by file index (DeclarationTree.TypeDeclaration e) is = none (some is) refl
    by file index (DeclarationTree.CompoundDeclaration e) is = λ h same. subst (λ (z : Declared). has_members z.head.form ≡ true) (sym (some is)) (compound_members e.kind)
    by file index (DeclarationTree.UnitDeclaration e) is = cc
    by file index (DeclarationTree.MemberExtension e) is = cc
    by file index (DeclarationTree.EnumExtension e) is = cc

kept_members : (items : List EnumItem) (f : Form) → has_members f ≡ true → has_members (form_with items f) ≡ true
kept_members items (Form.Compound k) h = h
kept_members items (Form.Enum ms) h = h
kept_members items Form.Int h = h
kept_members items Form.Uint h = h
kept_members items Form.Float h = h
kept_members items Form.Truth h = h
kept_members items Form.Chars h = h
kept_members items (Form.Physical x) h = h

heads_heirs : (names : List TypeHead) (all : List Placed) (t : ℕ) (ds : List Declared) → ((d : Declared) → In d ds → HasHeir d) → (k b : ℕ) → (slice_index_or (heads_from names all t ds) k int_head).base ≡ Some b
    → has_members (slice_index_or (heads_from names all t ds) k int_head).form ≡ true
heads_heirs names all t [] f k b h = cc
heads_heirs names all t (d ∷ ds) f zero b h = by d.body.heir refl h
  where
    by : (o : Option Heir) → d.body.heir ≡ o → option_and_then (λ (h : Heir). meant names h.base) o ≡ Some b → has_members (form_with (items_with names all t d.items) d.head.form) ≡ true
    by None e g = cc
    by (Some x) e g = kept_members (items_with names all t d.items) d.head.form (f d (inl refl) x e)
heads_heirs names all t (d ∷ ds) f (suc k) b h = heads_heirs names all (t + 1) ds (λ e i. f e (inr i)) k b h

pub base_members : (p : Program) (t b : ℕ) → base (types_of p).table.heads t ≡ Some b → has_members (form (types_of p).table.heads t) ≡ true
unfolding types_of
base_members p t b h = let all = placed p in heads_heirs (declared_heads all) all 0 (all_declared all) (declared_heirs all) t b h

-- no type is above itself
unlooped : (p : Program) (ts : Types) → ((t b : ℕ) → base ts.table.heads t ≡ Some b → has_members (form ts.table.heads t) ≡ true) → AreBased ts.table.heads → any_holds (heading_rows p ts) ≡ false → (t : ℕ) → has t (bases ts.table.heads t) ≡ false
unlooped p ts members based rows t = two_ways (nat_lt t (length ts.table.heads)) (λ e. below (less t (length ts.table.heads) e)) (λ e. beyond (more t (length ts.table.heads) e))
  where
    given : (a b : Bool) → a ≡ true → a && b ≡ false → b ≡ false
    given true b e f = f
    given false b e f = absurd (true≢false (sym e))

    no_line : (n : ℕ) → has t (line_within n ts.table.heads None) ≡ false
    no_line zero = refl
    no_line (suc n) = refl

    below : t < length ts.table.heads → has t (bases ts.table.heads t) ≡ false
    below l =
        let heads = ts.table.heads in
        let all = placed p in
        let twice = twice_rows basic_names (filter_map (λ (d : Placed). name_declared d.declaration) all) in
        let used = flat_map (λ (d : Placed). declaration_rows heads d.declaration) all in
        let enums = enum_rows_from heads all 0 (all_declared all) in
        let cycles = map (cycle_row heads ts.bodies) (all_types heads) in
        let row = row_among (cycle_row heads ts.bodies) (all_types heads) (rows_right (twice ++ used ++ enums) cycles rows) t (number_in heads t l) in
        by (base heads t) refl row
      where
        by : (o : Option ℕ) → base ts.table.heads t ≡ o → has_members (form ts.table.heads t) && (has t (bases ts.table.heads t) || returns (length ts.table.heads) (held_types ts.table.heads ts.bodies) t) ≡ false → has t (bases ts.table.heads t) ≡ false
        by None e row = subst (λ o. has t (line_within (length ts.table.heads) ts.table.heads o) ≡ false) (sym e) (no_line (length ts.table.heads))
        by (Some b) e row = no_left (has t (bases ts.table.heads t)) _ (given (has_members (form ts.table.heads t)) (has t (bases ts.table.heads t) || returns (length ts.table.heads) (held_types ts.table.heads ts.bodies) t) (members t b e) row)

    outside : (hs : List TypeHead) (n : ℕ) → length hs ≤ n → (slice_index_or hs n int_head).base ≡ None
    outside [] n l = refl
    outside (x ∷ xs) zero l = absurd (none (length xs) l)
      where
        none : (k : ℕ) → suc k ≤ 0 → ⊥
        none k e = absurd (omega (arith, e))
    outside (x ∷ xs) (suc n) l = outside xs n (fewer (length xs) n l)
      where
        fewer : (a b : ℕ) → suc a ≤ suc b → a ≤ b
        fewer a b e = omega (arith, e)

    beyond : length ts.table.heads ≤ t → has t (bases ts.table.heads t) ≡ false
    beyond l = subst (λ o. has t (line_within (length ts.table.heads) ts.table.heads o) ≡ false) (sym (outside ts.table.heads t l)) (no_line (length ts.table.heads))

-- ---- conditions

module _ (ts : Types) (counted : AreCounted ts) (rows : any_holds (member_fault_rows ts) ≡ false) where
  conditions_judged : (s : ℕ) → s < length ts.table.heads → any_holds (condition_rows ts s) ≡ false
  conditions_judged s below =
      let f = form ts.table.heads s in
      let first = repeated_rows (names_given f) (names_among (members ts s)) in
      let second = do_rows f false (dos ts s) in
      let third = flat_map (λ (m : Member). initial_rows ts.table.heads m.written.member) (members ts s) in
      rows_right (first ++ second ++ third) (condition_rows ts s) (type_no_fault ts counted rows s below)

  -- the initial values of a type's fields are of the right form
  initials_judged : (s : ℕ) → s < length ts.table.heads → (m : Member) → In m (members ts s) → any_holds (initial_rows ts.table.heads m.written.member) ≡ false
  initials_judged s below m i =
      let f = form ts.table.heads s in
      let first = repeated_rows (names_given f) (names_among (members ts s)) in
      let second = do_rows f false (dos ts s) in
      let third = flat_map (λ (m : Member). initial_rows ts.table.heads m.written.member) (members ts s) in
      rows_among (λ (m : Member). initial_rows ts.table.heads m.written.member) (members ts s)
      (rows_right (first ++ second) third (rows_left (first ++ second ++ third) (condition_rows ts s) (type_no_fault ts counted rows s below))) m i

  condition_judged : (s : ℕ) → s < length ts.table.heads → (c : HeirCondition) → heir_condition ts.bodies s ≡ Some c → (returns (length ts.table.heads) (depends_on ts) s ≡ false) × (any_holds (field_rows ts c (condition_field ts s)) ≡ false)
  condition_judged s below c e = by (heir_condition ts.bodies s) e (conditions_judged s below)
    where
      by : (o : Option HeirCondition) → o ≡ Some c → any_holds (option_map_or (λ (c : HeirCondition). row c.field.place FaultCode.Cycle (returns (length ts.table.heads) (depends_on ts) s) ∷ field_rows ts c (condition_field ts s)) o []) ≡ false
          → (returns (length ts.table.heads) (depends_on ts) s ≡ false) × (any_holds (field_rows ts c (condition_field ts s)) ≡ false)
      by None f h = cc
      by (Some d) f h =
          let same : d ≡ c = cc in
          (no_left (returns (length ts.table.heads) (depends_on ts) s) _ h, subst (λ z. any_holds (field_rows ts z (condition_field ts s)) ≡ false) same (no_right (returns (length ts.table.heads) (depends_on ts) s) _ h))

  steady : (s : ℕ) → s < length ts.table.heads → is_conditional ts.bodies s ≡ true → returns (length ts.table.heads) (depends_on ts) s ≡ false
  steady s below cond = by (heir_condition ts.bodies s) refl cond
    where
      by : (o : Option HeirCondition) → heir_condition ts.bodies s ≡ o → is_some o ≡ true → returns (length ts.table.heads) (depends_on ts) s ≡ false
      by None e h = absurd (true≢false (sym h))
      by (Some c) e h = (condition_judged s below c e).0

pub program_inherited : (p : Program) → NoFaults p (types_of p) → IsInherited (types_of p)
program_inherited p faults =
    let ts = types_of p in
    let counted = program_counted p in
    let based = program_based p in
    record {
      based = based;
      unlooped = unlooped p ts (base_members p) based faults.headings;
      listed = program_members p;
      counted = counted;
      found = field_found ts counted faults.members;
      decided = λ s below c e. (condition_judged ts counted faults.members s below c e).1;
      steady = steady ts counted faults.members;
    }

pub program_begun : (p : Program) → NoFaults p (types_of p) → IsInherited (types_of p) → (t : ℕ) (m : Member) → In m (members (types_of p) t) → any_holds (initial_rows (types_of p).table.heads m.written.member) ≡ false
program_begun p faults k t m i = initials_judged (types_of p) k.counted faults.members t (member_below (types_of p) k t m i).0 m i

pub program_acyclic : (p : Program) → NoFaults p (types_of p) → IsAcyclic (types_of p)
program_acyclic p faults =
    let ts = types_of p in
    let counted = program_counted p in
    record {
      owned = program_owned p;
      based = program_based p;
      listed = program_members p;
      scenarios = do_scenario ts counted faults.members;
      held = held_acyclic p ts faults.headings;
      calls = calls_acyclic ts faults.uses;
    }

-- ---- kinds

brackets_fit : (earlier : List (List ℕ)) (ps : List BasePart) → any_holds (bracket_rows earlier ps) ≡ false → are_bases earlier ps ≡ true
brackets_fit earlier [] h = refl
brackets_fit earlier (p ∷ ps) h =
    let twice = no_left (list_any (bytes_eq p.name.text) earlier) _ h in
    let rest = no_right (list_any (bytes_eq p.name.text) earlier) _ h in
    both (is_base_unit p.name.text) _ (holds_not (is_base_unit p.name.text) (no_left (not (is_base_unit p.name.text)) _ rest))
    (both (not (list_any (bytes_eq p.name.text) earlier)) (are_bases (p.name.text ∷ earlier) ps) (not_so _ twice) (brackets_fit (p.name.text ∷ earlier) ps (no_right (not (is_base_unit p.name.text)) _ rest)))

has_exponents : (ps : List BasePart) → any_holds (bracket_rows [] ps) ≡ false → (x : Exponents) × (exponents_of ps ≡ Some x)
has_exponents ps h = some (are_bases [] ps) _ (brackets_fit [] ps h)
  where
    some : {A : Type 0} (b : Bool) (x : A) → b ≡ true → (y : A) × (cond b (Some x) None ≡ Some y)
    some true x e = (x, refl)
    some false x e = absurd (true≢false (sym e))

abbrev HasKind : Form → Type 0
HasKind f = (t : ℕ) → (k : ValueKind) × (kind_of t f ≡ Some k)

declared_kinds : (heads : List TypeHead) (all : List Placed) → any_holds (flat_map (λ (d : Placed). declaration_rows heads d.declaration) all) ≡ false → (d : Declared) → In d (all_declared all) → HasKind d.head.form
declared_kinds heads all rows d i = elim (in_either d basic_types (filter_map (λ (d : Placed). type_declared d.file d.index d.declaration) all) i) as (λ _. HasKind d.head.form) [
  | inl j ↦ basic j
  | inr j ↦
      let g = filter_map_in (λ (d : Placed). type_declared d.file d.index d.declaration) all d j in
      by g.0.file g.0.index g.0.declaration (rows_among (λ (d : Placed). declaration_rows heads d.declaration) all rows g.0 g.1) g.2
]
  where
    one : {e : Declared} → d ≡ e → HasKind e.head.form → HasKind d.head.form
    one same k = subst (λ (z : Declared). HasKind z.head.form) (sym same) k

    basic : In d basic_types → HasKind d.head.form
    basic (inl e) = one e (λ t. (plain, refl))
    basic (inr (inl e)) = one e (λ t. (plain, refl))
    basic (inr (inr (inl e))) = one e (λ t. (plain, refl))
    basic (inr (inr (inr (inl e)))) = one e (λ t. (ValueKind.Truth, refl))
    basic (inr (inr (inr (inr (inl e))))) = one e (λ t. (ValueKind.Chars, refl))
    basic (inr (inr (inr (inr (inr k))))) = absurd k

    some : {e : Declared} → Some e ≡ Some d → d ≡ e
    some is = cc

    by : (file index : ℕ) (t : DeclarationTree) → any_holds (declaration_rows heads t) ≡ false → type_declared file index t ≡ Some d → HasKind d.head.form
    by file index (DeclarationTree.EnumDeclaration e) r is = one (some is) (λ t. (ValueKind.Member t, refl))
    by file index (DeclarationTree.TypeDeclaration e) r is = let x = has_exponents e.bases r in one (some is) (λ t. (ValueKind.Number x.0, ap (λ o. option_map ValueKind.Number o) x.1))
    by file index (DeclarationTree.CompoundDeclaration e) r is = one (some is) (λ t. (ValueKind.Object t, refl))
    by file index (DeclarationTree.UnitDeclaration e) r is = cc
    by file index (DeclarationTree.MemberExtension e) r is = cc
    by file index (DeclarationTree.EnumExtension e) r is = cc

kept_kind : (items : List EnumItem) (f : Form) → HasKind f → HasKind (form_with items f)
kept_kind items (Form.Compound k) h = h
kept_kind items (Form.Enum ms) h = λ t. (ValueKind.Member t, refl)
kept_kind items Form.Int h = h
kept_kind items Form.Uint h = h
kept_kind items Form.Float h = h
kept_kind items Form.Truth h = h
kept_kind items Form.Chars h = h
kept_kind items (Form.Physical x) h = h

heads_kinds : (names : List TypeHead) (all : List Placed) (t : ℕ) (ds : List Declared) → ((d : Declared) → In d ds → HasKind d.head.form) → (k : ℕ) → HasKind (slice_index_or (heads_from names all t ds) k int_head).form
heads_kinds names all t [] f k = λ n. (plain, refl)
heads_kinds names all t (d ∷ ds) f zero = kept_kind (items_with names all t d.items) d.head.form (f d (inl refl))
heads_kinds names all t (d ∷ ds) f (suc k) = heads_kinds names all (t + 1) ds (λ e i. f e (inr i)) k

-- each declaration is placed
placed_decl : (file index : ℕ) (ds : List DeclarationTree) (d : DeclarationTree) → In d ds → (x : Placed) × In x (placed_in file index ds) × (x.declaration ≡ d)
placed_decl file index [] d i = absurd i
placed_decl file index (e ∷ ds) d (inl same) = (record { file = file; index = index; declaration = e }, inl refl, sym same)
placed_decl file index (e ∷ ds) d (inr i) = let g = placed_decl file (index + 1) ds d i in (g.0, inr g.1, g.2)

pub placed_file : (file : ℕ) (fs : List FileTree) (f : FileTree) → In f fs → (d : DeclarationTree) → In d f.decls → (x : Placed) × In x (placed_from file fs) × (x.declaration ≡ d)
placed_file file [] f i d j = absurd i
placed_file file (g ∷ fs) f (inl same) d j = let x = placed_decl file 0 g.decls d (subst (λ (z : FileTree). In d z.decls) same j) in (x.0, in_left x.0 (placed_in file 0 g.decls) (placed_from (file + 1) fs) x.1, x.2)
placed_file file (g ∷ fs) f (inr i) d j = let x = placed_file (file + 1) fs f i d j in (x.0, in_right x.0 (placed_in file 0 g.decls) (placed_from (file + 1) fs) x.1, x.2)

units_fit : (heads : List TypeHead) (p : Program) → any_holds (flat_map (λ (d : Placed). declaration_rows heads d.declaration) (placed p)) ≡ false → (u : TableUnit) → In u (units_of p.files) → (x : Exponents) × (u.exponents ≡ Some x)
units_fit heads p rows u i =
    let f = flat_map_in (λ (f : FileTree). flat_map unit_declared f.decls) p.files u i in
    let d = flat_map_in unit_declared f.0.decls u f.2 in
    let x = placed_file 0 p.files f.0 f.1 d.0 d.1 in
    by d.0 (subst (λ z. any_holds (declaration_rows heads z) ≡ false) x.2 (rows_among (λ (d : Placed). declaration_rows heads d.declaration) (placed p) rows x.0 x.1)) d.2
  where
    unit_fits : (d : UnitDecl) → any_holds (unit_rows heads d) ≡ false → u ≡ unit_of d → (x : Exponents) × (u.exponents ≡ Some x)
    unit_fits d r e = let x = has_exponents d.bases (rows_left (bracket_rows [] d.bases) _ r) in (x.0, ap (λ (z : TableUnit). z.exponents) e ∙ x.1)

    by : (t : DeclarationTree) → any_holds (declaration_rows heads t) ≡ false → In u (unit_declared t) → (x : Exponents) × (u.exponents ≡ Some x)
    by (DeclarationTree.UnitDeclaration d) r (inl e) = unit_fits d r e
    by (DeclarationTree.UnitDeclaration d) r (inr j) = absurd j
    by (DeclarationTree.EnumDeclaration e) r j = absurd j
    by (DeclarationTree.TypeDeclaration e) r j = absurd j
    by (DeclarationTree.CompoundDeclaration e) r j = absurd j
    by (DeclarationTree.MemberExtension e) r j = absurd j
    by (DeclarationTree.EnumExtension e) r j = absurd j

pub program_kinds : (p : Program) → any_holds (heading_rows p (types_of p)) ≡ false → HasKinds (types_of p).table
unfolding types_of
program_kinds p rows =
    let all = placed p in
    let names = declared_heads all in
    let heads = heads_from names all 0 (all_declared all) in
    let bodies = bodies_from names all 0 (all_declared all) in
    let twice = twice_rows basic_names (filter_map (λ (d : Placed). name_declared d.declaration) all) in
    let used = flat_map (λ (d : Placed). declaration_rows heads d.declaration) all in
    let enums = enum_rows_from heads all 0 (all_declared all) in
    let cycles = map (cycle_row heads bodies) (all_types heads) in
    let none = rows_right twice used (rows_left (twice ++ used) enums (rows_left (twice ++ used ++ enums) cycles rows)) in
    record {
      kinds = λ t. heads_kinds names all 0 (all_declared all) (declared_kinds heads all none) t t;
      units = λ name u e. units_fit heads p none u (found_in (λ (u : TableUnit). bytes_eq u.name name) (units_of p.files) u e).0;
    }

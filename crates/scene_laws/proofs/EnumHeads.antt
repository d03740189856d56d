-- Each enum of a program without a fault of headings has members with distinct, small numbers.
use Rattle.std.proofs.Common.{◌≡◌, ℕ, zero, suc, ◌+◌, refl, sym, ap, ◌∙◌, subst, inl, inr, List, [], ◌∷◌, ◌++◌, true, false, cond, Some, map, length, arith, true≢false}
use Rattle.std.specs.Prelude.{flat_map, filter_map, slice_index_or, nat_lt}
use Rattle.std.specs.List.{list_all}
use Rattle.expansion_laws.specs.dsl_tree.declared.enums.EnumItem.{EnumItem}
use Rattle.expansion_laws.specs.dsl_tree.FileTree.{DeclarationTree}
use Rattle.expansion_laws.specs.type_heads.Form.{Form, EnumMember}
use Rattle.expansion_laws.specs.type_heads.Table.{TypeHead, int_head, form, is_enum, all_types}
use Rattle.expansion_laws.specs.type_heads.Types.{Program}
use Rattle.expansion_laws.specs.type_heads.Units.{exponents_of}
use Rattle.expansion_laws.specs.type_heads.HeadingFaults.{item_rows, enum_rows_from, heading_rows, basic_names, name_declared, twice_rows, declaration_rows, cycle_row}
use Rattle.expansion_laws.specs.type_heads.DeclaredTypes.{Placed, placed, Declared, declared, compound, basic_types, type_declared, all_declared, items_added, items_with, numbered_from, form_with, heads_from, bodies_from, declared_heads, types_of}
use Rattle.expansion_laws.specs.expr_nodes.Parts.{any_holds}
use Rattle.field_flatten.proofs.Tests.{In, in_either, all_at}
use Rattle.scene_laws.specs.Premises.{is_spelled, is_spelled_program}
use Rattle.scene_laws.proofs.FaultRows.{rows_left, rows_right}
use Rattle.scene_laws.proofs.Picked.{filter_map_in}
use Rattle.scene_laws.proofs.DeclaredNames.{SameNames, names_kept, items_kept}
use Rattle.scene_laws.proofs.EnumNumbers.{IsEnum, enum_is}

-- an enum that is declared has items
abbrev HasItems : Declared → Type 0
HasItems d = (none : List EnumMember) → d.head.form ≡ Form.Enum none → nat_lt 0 (length d.items) ≡ true

more_items : (items more : List EnumItem) → nat_lt 0 (length items) ≡ true → nat_lt 0 (length (items ++ more)) ≡ true
more_items [] more h = absurd (true≢false (sym h))
more_items (i ∷ is) more h = by (is ++ more)
  where
    by : (rest : List EnumItem) → nat_lt 0 (length (i ∷ rest)) ≡ true
    by rest = grind arith

module _ (heads names : List TypeHead) (all : List Placed) (same : SameNames heads names) where
  enum_at : (t : ℕ) (d : Declared) (form : Form) → d.head.form ≡ form → HasItems d
      → any_holds (let items = cond (is_enum form) (items_with heads all t d.items) [] in item_rows [] items (numbered_from 0 items)) ≡ false
      → (members : List EnumMember) → form_with (items_with names all t d.items) form ≡ Form.Enum members → IsEnum members
  enum_at t d (Form.Enum none) e has rows members is =
      let made : numbered_from 0 (items_with names all t d.items) ≡ members = cc in
      let some = more_items d.items (flat_map (λ (p : Placed). items_added heads t p.declaration) all) (has none e) in
      subst IsEnum made (subst (λ items. IsEnum (numbered_from 0 items)) (items_kept heads names same all t d.items) (enum_is 0 (items_with heads all t d.items) some rows))
  enum_at t d Form.Int e has rows members is = cc
  enum_at t d Form.Uint e has rows members is = cc
  enum_at t d Form.Float e has rows members is = cc
  enum_at t d Form.Truth e has rows members is = cc
  enum_at t d Form.Chars e has rows members is = cc
  enum_at t d (Form.Physical x) e has rows members is = cc
  enum_at t d (Form.Compound k) e has rows members is = cc

  enum_from : (t : ℕ) (ds : List Declared) → any_holds (enum_rows_from heads all t ds) ≡ false → ((d : Declared) → In d ds → HasItems d)
      → (k : ℕ) (members : List EnumMember) → (slice_index_or (heads_from names all t ds) k int_head).form ≡ Form.Enum members → IsEnum members
  enum_from t [] rows has k members is = cc
  enum_from t (d ∷ ds) rows has zero members is =
      let items = cond (is_enum d.head.form) (items_with heads all t d.items) [] in
      enum_at t d d.head.form refl (has d (inl refl)) (rows_left (item_rows [] items (numbered_from 0 items)) (enum_rows_from heads all (t + 1) ds) rows) members is
  enum_from t (d ∷ ds) rows has (suc k) members is =
      let items = cond (is_enum d.head.form) (items_with heads all t d.items) [] in
      enum_from (t + 1) ds (rows_right (item_rows [] items (numbered_from 0 items)) (enum_rows_from heads all (t + 1) ds) rows) (λ e i. has e (inr i)) k members is

apart : {A : Type 0} (f : Form) (none : List EnumMember) → f ≡ Form.Enum none → is_enum f ≡ false → A
apart f none e h = absurd (true≢false (sym (ap is_enum e) ∙ h))

-- the declarations of enums have items
declared_items : (all : List Placed) → list_all (λ (d : Placed). is_spelled d.declaration) all ≡ true → (d : Declared) → In d (all_declared all) → HasItems d
declared_items all written d i = elim (in_either d basic_types (filter_map (λ (d : Placed). type_declared d.file d.index d.declaration) all) i) as (λ _. HasItems d) [
  | inl j ↦ basic j
  | inr j ↦
      let g = filter_map_in (λ (d : Placed). type_declared d.file d.index d.declaration) all d j in
      by g.0.file g.0.index g.0.declaration (all_at (λ (d : Placed). is_spelled d.declaration) all written g.0 g.1) g.2
]
  where
    basic : In d basic_types → HasItems d
    basic (inl e) none is = let f : d.head.form ≡ Form.Int = ap (λ z. z.head.form) e in apart Form.Int none (sym f ∙ is) refl
    basic (inr (inl e)) none is = let f : d.head.form ≡ Form.Uint = ap (λ z. z.head.form) e in apart Form.Uint none (sym f ∙ is) refl
    basic (inr (inr (inl e))) none is = let f : d.head.form ≡ Form.Float = ap (λ z. z.head.form) e in apart Form.Float none (sym f ∙ is) refl
    basic (inr (inr (inr (inl e)))) none is = let f : d.head.form ≡ Form.Truth = ap (λ z. z.head.form) e in apart Form.Truth none (sym f ∙ is) refl
    basic (inr (inr (inr (inr (inl e))))) none is = let f : d.head.form ≡ Form.Chars = ap (λ z. z.head.form) e in apart Form.Chars none (sym f ∙ is) refl
    basic (inr (inr (inr (inr (inr i))))) none is = absurd i

    by : (file index : ℕ) (t : DeclarationTree) → is_spelled t ≡ true → type_declared file index t ≡ Some d → HasItems d
    by file index (DeclarationTree.EnumDeclaration e) s is none as_enum = let same : e.items ≡ d.items = cc in subst (λ items. nat_lt 0 (length items) ≡ true) same s
    by file index (DeclarationTree.TypeDeclaration e) s is none as_enum =
        let same : declared e.name.text (Form.Physical (exponents_of e.bases)) e.name.place ≡ d = cc in
        apart (Form.Physical (exponents_of e.bases)) none (ap (λ z. z.head.form) same ∙ as_enum) refl
    by file index (DeclarationTree.CompoundDeclaration e) s is none as_enum =
        let same : compound file index e ≡ d = cc in
        apart (Form.Compound e.kind) none (ap (λ z. z.head.form) same ∙ as_enum) refl
    by file index (DeclarationTree.UnitDeclaration e) s is none as_enum = cc
    by file index (DeclarationTree.MemberExtension e) s is none as_enum = cc
    by file index (DeclarationTree.EnumExtension e) s is none as_enum = cc

-- the enums of a program without a fault of headings
pub program_enums : (p : Program) → is_spelled_program p ≡ true → any_holds (heading_rows p (types_of p)) ≡ false → (t : ℕ) (members : List EnumMember) → form (types_of p).table.heads t ≡ Form.Enum members → IsEnum members
unfolding types_of
program_enums p written rows t members is =
    let all = placed p in
    let names = declared_heads all in
    let heads = heads_from names all 0 (all_declared all) in
    let bodies = bodies_from names all 0 (all_declared all) in
    let twice = twice_rows basic_names (filter_map (λ (d : Placed). name_declared d.declaration) all) in
    let used = flat_map (λ (d : Placed). declaration_rows heads d.declaration) all in
    let enums = enum_rows_from heads all 0 (all_declared all) in
    let cycles = map (cycle_row heads bodies) (all_types heads) in
    enum_from heads names all (names_kept names all 0 (all_declared all)) 0 (all_declared all)
    (rows_right (twice ++ used) enums (rows_left (twice ++ used ++ enums) cycles rows)) (declared_items all written) t members is

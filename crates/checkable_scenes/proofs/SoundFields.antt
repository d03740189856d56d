-- The constraints of a field are sound: those of its rules, its initial values, and the conditions of its type.
use Rattle.std.proofs.Common.{◌≡◌, ℕ, zero, suc, ◌+◌, ◌<◌, refl, sym, ap, ap₂, ◌∙◌, subst, inl, inr, List, [], ◌∷◌, ◌++◌, true, false, ◌&&◌, not, cond, Option, Some, None, map, length, arith, true≢false}
use Rattle.std.specs.Prelude.{find, slice_get, slice_index_or, option_map, option_and_then, is_some, bytes_eq, codes}
use Rattle.std.specs.Option.{option_map_or}
use Rattle.std.specs.List.{list_any}
use Rattle.osc_base.specs.declared.fault.Place.{Place}
use Rattle.osc_base.specs.declared.mark.Strength.{Strength}
use Rattle.osc_base.specs.declared.path.Path.{Path}
use Rattle.osc_base.specs.Paths.{root, then_name, then_index}
use Rattle.expr_eval.specs.dsl_tree.declared.parts.Ident.{Ident}
use Rattle.expr_eval.specs.dsl_tree.ExprTree as Tree
use Rattle.expr_eval.specs.dsl_tree.ExprTree.{ExprTree, ExprRow}
use Rattle.expr_eval.specs.type_heads.Form.{Form}
use Rattle.expr_eval.specs.type_heads.MemberFaults.{is_list_of, initial_rows}
use Rattle.expr_eval.specs.type_heads.Members.{list_length, field, field_type, fields, members, items_in, table_fields}
use Rattle.expr_eval.specs.type_heads.Table.{Table, TableField, form, base, field_of, has_members, is_object, is_behaviour}
use Rattle.expr_eval.specs.type_heads.Types.{Types, Member, Field}
use Rattle.expr_eval.specs.expr_nodes.declared.compare.Compare.{Compare}
use Rattle.expr_eval.specs.expr_nodes.Fits.{is_kind, differs, ends_of, sizes_of, initial_fit_rows}
use Rattle.expr_eval.specs.expr_nodes.Kinds.{ValueKind, kind_of, are_alike}
use Rattle.expr_eval.specs.expr_nodes.Names.{per_of, single, elements_from, held_at, typed_meaning, after_point, field_meant, duration_if, is_duration, it_at}
use Rattle.expr_eval.specs.expr_nodes.Operators.{truth_at, comparison_rows}
use Rattle.expr_eval.specs.expr_nodes.Operators as Operators
use Rattle.expr_eval.specs.expr_nodes.Parts.{any_holds, unless, on_two, is_scalar}
use Rattle.expr_eval.specs.expr_nodes.Scope.{It, Scope}
use Rattle.expr_eval.specs.expr_nodes.Sizes.{info_at, size, unit_size, field_size, joined, is_wide}
use Rattle.expr_eval.specs.expr_nodes.Typed as Nodes
use Rattle.expr_eval.specs.expr_nodes.Typed.{Typed, Read, Whole, kind, moved, place_of, begun_at}
use Rattle.expr_eval.specs.expr_nodes.Typing.{typed, expr_rows, items_rows, first}
use Rattle.expr_eval.specs.Resolved.{IsResolved}
use Rattle.expr_eval.proofs.TypedForms.{typed_or_refused}
use Rattle.run_values.specs.composition.declared.guard.Guard.{Guard}
use Rattle.run_values.specs.composition.Calls.{scope_at}
use Rattle.run_values.specs.composition.Givens.{Here, Given, FieldHere, from_root, given_keep, equals, it_of, field_here, given_initial, given_initials, given_elements, element}
use Rattle.run_values.specs.composition.Tokens.{tokens}
use Rattle.run_values.specs.composition.Uses.{values_rows, values_given}
use Rattle.run_values.proofs.of_field_flatten.Tests.{left_of, right_of, In}
use Rattle.scene_laws.specs.Premises.{IsSmallTable, are_short, row_is_short}
use Rattle.scene_laws.proofs.FaultRows.{no_left, no_right, rows_left, rows_right, rows_among, holds_not}
use Rattle.scene_laws.proofs.IsSound.{IsGood, comparison_good}
use Rattle.scene_laws.proofs.MemberPhases.{Resolves}
use Rattle.scene_laws.proofs.TypedSound.{typed_good}
use Rattle.checkable_scenes.proofs.KnownPaths.{it_free}
use Rattle.checkable_scenes.proofs.ReadFacts.{table_found}
use Rattle.checkable_scenes.proofs.ReadObjects.{AllKnown}
use Rattle.checkable_scenes.proofs.ShortTexts.{AreShort}
use Rattle.checkable_scenes.proofs.SoundConstraints.{GivenSound, or_false, single_compared, constraint_moved}
use Rattle.checkable_scenes.proofs.ResolvedScopes.{field_it_told, scope_resolved}

-- what is known of a program's types, for the constraints of their texts
pub record TextsKnown (ts : Types) : Type 0 where
  pub known : AllKnown ts
  pub resolves : Resolves ts
  pub short : AreShort ts
  pub small : IsSmallTable ts.table
  pub tabled : (t : ℕ) → slice_index_or ts.table.fields t [] ≡ table_fields ts.table.heads (members ts t)
  pub lone : (t : ℕ) (f : Field) → In f (fields ts t) → (of : ℕ) → field_type ts f ≡ Some of → (n : ℕ) → list_length f.tree ≡ Some n → is_object (form ts.table.heads of) ≡ false
  pub begun : (t : ℕ) (m : Member) → In m (members ts t) → any_holds (initial_rows ts.table.heads m.written.member) ≡ false
  pub heirs : (t b : ℕ) → base ts.table.heads t ≡ Some b → has_members (form ts.table.heads t) ≡ true

-- ---- what is compared

scalar_ends : (y : Typed) → is_scalar y ≡ true → ends_of y ≡ y ∷ []
scalar_ends (Nodes.Span i l h) s = absurd (true≢false (sym s))
scalar_ends (Nodes.Constant i n) s = refl
scalar_ends (Nodes.Read i p per) s = refl
scalar_ends (Nodes.Whole i p) s = refl
scalar_ends (Nodes.Listed i g items) s = refl
scalar_ends (Nodes.Minus i a) s = refl
scalar_ends (Nodes.Not i a) s = refl
scalar_ends (Nodes.Sum i l r) s = refl
scalar_ends (Nodes.Times i l r) s = refl
scalar_ends (Nodes.And i l r) s = refl
scalar_ends (Nodes.Or i l r) s = refl
scalar_ends (Nodes.Implies i l r) s = refl
scalar_ends (Nodes.Relation i g l r) s = refl
scalar_ends (Nodes.Within i l r) s = refl

-- a value can be compared with what it is given to
fit_compared : (p : Place) (x : Typed) → is_scalar x ≡ true → (q : Place) (y : Typed) → any_holds (initial_fit_rows (kind x) (size x) p (Some y)) ≡ false → any_holds (comparison_rows q Compare.Equal (Some x) (Some y)) ≡ false
fit_compared p x s q y h =
    let fits = or_false (is_scalar y && are_alike (kind x) (kind y)) (holds_not (is_kind false (kind x) y) (no_left (not (is_kind false (kind x) y)) _ h)) in
    let scalar = left_of (is_scalar y) _ fits in
    let ends = scalar_ends y scalar in
    let rest = no_right (not (is_kind false (kind x) y)) _ h in
    let units = subst (λ l. list_any (differs (kind x)) l ≡ false) ends (no_left (list_any (differs (kind x)) (ends_of y)) _ rest) in
    let wide = subst (λ l. list_any (λ z. is_wide (joined (size x) z)) (map size l) ≡ false) ends (no_left (list_any (λ z. is_wide (joined (size x) z)) (sizes_of y)) false (no_right (list_any (differs (kind x)) (ends_of y)) _ rest)) in
    single_compared p x s q y scalar (right_of (is_scalar y) _ fits) units wide

-- the equality of two values that can be compared
pub equal_sound : (ts : Types) (h : Here) (holder : Path) (under : List Guard) (place : Place) (s : Strength) → (s ≡ Strength.Remove → ⊥) → (left value : ExprTree) (count : ℕ) (l y : Typed)
    → typed ts.table h.scope left ≡ Some l → typed ts.table h.scope value ≡ Some y → IsGood l → IsGood y → any_holds (comparison_rows (first value) Compare.Equal (Some l) (Some y)) ≡ false
    → GivenSound (given_keep ts h holder under place s (equals left value) count)
equal_sound ts h holder under place s stays left value count l y e f g d rows =
    let r : Typed = Nodes.Relation (truth_at (place_of l)) Compare.Equal l y in
    let is : typed ts.table h.scope (equals left value) ≡ Some r =
    ap₂ (λ a b. unless (comparison_rows (first value) Compare.Equal a b) (on_two a b (λ x y. Nodes.Relation (truth_at (place_of x)) Compare.Equal x y))) e f ∙ ap (λ c. cond c None (Some r)) rows in
    inr (stays, (moved (from_root h) r, ap (λ o. option_map (moved (from_root h)) o) is, constraint_moved (from_root h) r (comparison_good (first value) Compare.Equal l y g d rows) refl refl))

-- ---- what `it` and its fields are

whole_kind : (t : ℕ) (f : Form) → has_members f ≡ true → kind_of t f ≡ Some (ValueKind.Object t)
whole_kind t (Form.Compound k) h = refl
whole_kind t Form.Int h = absurd (true≢false (sym h))
whole_kind t Form.Uint h = absurd (true≢false (sym h))
whole_kind t Form.Float h = absurd (true≢false (sym h))
whole_kind t Form.Truth h = absurd (true≢false (sym h))
whole_kind t Form.Chars h = absurd (true≢false (sym h))
whole_kind t (Form.Physical x) h = absurd (true≢false (sym h))
whole_kind t (Form.Enum x) h = absurd (true≢false (sym h))

module _ (table : Table) (place : Place) (path : Path) (t : ℕ) where
  abbrev pub single_of : Form → Option ValueKind → Option Typed
  single_of f o = option_map (λ k. cond (has_members f) (Whole (info_at place k unit_size) path) (Read (info_at place k (field_size (per_of f))) path (per_of f))) o

  pub single_read : (k : ValueKind) → kind_of t (form table.heads t) ≡ Some k → has_members (form table.heads t) ≡ false
      → single table place path t ≡ Some (Read (info_at place k (field_size (per_of (form table.heads t)))) path (per_of (form table.heads t)))
  single_read k e h =
      ap (λ o. single_of (form table.heads t) o) e
      ∙ ap (λ b. Some (cond b (Whole (info_at place k unit_size) path) (Read (info_at place k (field_size (per_of (form table.heads t)))) path (per_of (form table.heads t))))) h

  pub single_whole : has_members (form table.heads t) ≡ true → single table place path t ≡ Some (Whole (info_at place (ValueKind.Object t) unit_size) path)
  single_whole h =
      ap (λ o. single_of (form table.heads t) o) (whole_kind t (form table.heads t) h)
      ∙ ap (λ b. Some (cond b (Whole (info_at place (ValueKind.Object t) unit_size) path) (Read (info_at place (ValueKind.Object t) (field_size (per_of (form table.heads t)))) path (per_of (form table.heads t))))) h

  pub single_form : (f : Form) → form table.heads t ≡ f → single table place path t ≡ single_of f (kind_of t f)
  single_form f e = ap (λ z. single_of z (kind_of t z)) e

-- a field of `it` that is an object
pub member_typed : (table : Table) (sc : Scope) (place : Place) (u : ℕ) → typed table sc (ExprTree.It place) ≡ Some (Whole (info_at place (ValueKind.Object u) unit_size) (then_name root (codes "it"))) → (i : Ident) (x : TableField) → field_of table u i.text ≡ Some x
    → typed table sc (ExprTree.Dot (ExprTree.It place) i) ≡ held_at table place (then_name (then_name root (codes "it")) i.text) x.of x.length
member_typed table sc place u e i x f =
    let itself = then_name root (codes "it") in
    ap (λ o. option_and_then (λ h. typed_meaning (after_point table h i.text)) o) e
    ∙ ap (λ o. typed_meaning (option_map_or (field_meant table place (then_name itself i.text)) o (duration_if place itself (is_duration i.text && is_behaviour (form table.heads u))))) f

-- a field of a type, as expressions see it
pub named_field : (ts : Types) → TextsKnown ts → (u : ℕ) (name : List ℕ) (g : Field) (v : ℕ) → field ts u name ≡ Some g → field_type ts g ≡ Some v → field_of ts.table u name ≡ Some (record { name = g.name.text; of = v; length = list_length g.tree })
named_field ts k u name g v at is = ap (λ l. find (λ (x : TableField). bytes_eq x.name name) l) (k.tabled u) ∙ table_found ts.table.heads (fields ts u) name g at v is

-- the elements of a list field are read
element_read : (m count n : ℕ) (one : Path → Typed) (path : Path) → n < count → (q : Path) × (slice_get (Nodes.items_of (elements_from m count one path)) n ≡ Some (one q))
element_read m zero n one path h = absurd (none n h)
  where
    none : (k : ℕ) → k < 0 → ⊥
    none k e = absurd (omega (arith, e))
element_read m (suc count) zero one path h = (then_index path m, refl)
element_read m (suc count) (suc n) one path h = element_read (m + 1) count n one path (fewer n count h)
  where
    fewer : (a b : ℕ) → suc a < suc b → a < b
    fewer a b e = omega (arith, e)

item_free : (table : Table) (sc : Scope) (row : ExprRow) → any_holds (items_rows table sc row) ≡ false → row_is_short row ≡ true → (e : ExprTree) → In e (Tree.items_of row) → (any_holds (expr_rows table sc e) ≡ false) × (are_short e ≡ true)
item_free table sc Tree.End h s e i = absurd i
item_free table sc (Tree.Item a others) h s e (inl same) =
    let own = Operators.part_rows (typed table sc a) in
    subst (λ z. (any_holds (expr_rows table sc z) ≡ false) × (are_short z ≡ true)) (sym same) (rows_right own (expr_rows table sc a) (rows_left (own ++ expr_rows table sc a) (items_rows table sc others) h), left_of (are_short a) _ s)
item_free table sc (Tree.Item a others) h s e (inr i) =
    item_free table sc others (rows_right (Operators.part_rows (typed table sc a) ++ expr_rows table sc a) (items_rows table sc others) h) (right_of (are_short a) _ s) e i

-- a list's initial value is a list constructor
listed_of : (e : ExprTree) → is_list_of (Some e) ≡ true → (p : Place) × (items : ExprRow) × (e ≡ ExprTree.Listed p items)
listed_of (ExprTree.Listed p items) h = (p, items, refl)
listed_of (ExprTree.Implies p l r) h = absurd (true≢false (sym h))
listed_of (ExprTree.Or p o l r) h = absurd (true≢false (sym h))
listed_of (ExprTree.And p o l r) h = absurd (true≢false (sym h))
listed_of (ExprTree.Not p x) h = absurd (true≢false (sym h))
listed_of (ExprTree.Relation p s l r) h = absurd (true≢false (sym h))
listed_of (ExprTree.Sum p o l r) h = absurd (true≢false (sym h))
listed_of (ExprTree.Product p o l r) h = absurd (true≢false (sym h))
listed_of (ExprTree.Minus p x) h = absurd (true≢false (sym h))
listed_of (ExprTree.Dot x n) h = absurd (true≢false (sym h))
listed_of (ExprTree.Index p x n) h = absurd (true≢false (sym h))
listed_of (ExprTree.Number d) h = absurd (true≢false (sym h))
listed_of (ExprTree.Physical d u) h = absurd (true≢false (sym h))
listed_of (ExprTree.Chars p x) h = absurd (true≢false (sym h))
listed_of (ExprTree.Truth p v) h = absurd (true≢false (sym h))
listed_of (ExprTree.It p) h = absurd (true≢false (sym h))
listed_of (ExprTree.Actor p) h = absurd (true≢false (sym h))
listed_of (ExprTree.Name n) h = absurd (true≢false (sym h))
listed_of (ExprTree.EnumName e m) h = absurd (true≢false (sym h))
listed_of (ExprTree.Group p x) h = absurd (true≢false (sym h))
listed_of (ExprTree.Span p l r) h = absurd (true≢false (sym h))
listed_of (ExprTree.RangeCall p l r) h = absurd (true≢false (sym h))
listed_of (ExprTree.Start x) h = absurd (true≢false (sym h))

-- ---- fields

module _ (ts : Types) (k : TextsKnown ts) (path : Path) (t : ℕ) (f : Field) (of : ℕ) (is : field_type ts f ≡ Some of) where
  abbrev at : FieldHere
  at = field_here ts path t f

  abbrev bare : Scope
  bare = scope_at ts f.holder None []

  abbrev itself : Path
  itself = then_name root (codes "it")

  abbrev per : ℕ
  per = per_of (form ts.table.heads of)

  pub field_resolved : IsResolved ts.table at.here.scope
  field_resolved = scope_resolved ts k.known.kinds k.resolves f.holder (it_of ts f) [] (field_it_told (field_type ts f) (list_length f.tree))

  field_bare : IsResolved ts.table bare
  field_bare = scope_resolved ts k.known.kinds k.resolves f.holder None [] refl

  pub it_is : (p : Place) → typed ts.table at.here.scope (ExprTree.It p) ≡ held_at ts.table p itself of (list_length f.tree)
  it_is p = ap (λ o. option_and_then (it_at ts.table p) (option_map (λ t. It.Of t (list_length f.tree)) o)) is

  soft : Strength.Default ≡ Strength.Remove → ⊥
  soft h = cc

  -- one value that is given to the field or to an element of it
  value_sound : (left value : ExprTree) (v : ValueKind) (q : Path) → typed ts.table at.here.scope left ≡ Some (Read (info_at (first value) v (field_size per)) q per)
      → are_short left ≡ true → any_holds (expr_rows ts.table bare value) ≡ false → are_short value ≡ true
      → any_holds (initial_fit_rows v (field_size per) (first value) (typed ts.table bare value)) ≡ false → GivenSound (given_initial ts at left value)
  value_sound left value v q e s free short fits =
      let y = typed_or_refused ts.table bare field_bare value free in
      let there = sym (it_free ts.table bare (it_of ts f) refl value free) ∙ y.1 in
      let l : Typed = Read (info_at (first value) v (field_size per)) q per in
      equal_sound ts at.here path at.under (first value) Strength.Default soft left value (tokens value) l y.0 e there (typed_good ts.table k.small at.here.scope left s l e) (typed_good ts.table k.small at.here.scope value short y.0 there)
      (fit_compared (first value) l refl (first value) y.0 (subst (λ o. any_holds (initial_fit_rows v (field_size per) (first value) o) ≡ false) y.1 fits))

  -- the elements of a list
  elements_sound : (v : ValueKind) → kind_of of (form ts.table.heads of) ≡ Some v → (count : ℕ) → list_length f.tree ≡ Some count → (n : ℕ) (values : List ExprTree) → n + length values ≡ count
      → ((e : ExprTree) → In e values
      → (any_holds (expr_rows ts.table bare e) ≡ false) × (are_short e ≡ true) × (any_holds (initial_fit_rows v (field_size per) (first e) (typed ts.table bare e)) ≡ false))
      → (g : Given) → In g (given_elements ts at n values) → GivenSound g
  elements_sound v kd count listed n [] all facts g i = absurd i
  elements_sound v kd count listed n (value ∷ values) all facts g (inl same) =
      let p = first value in
      let one : Path → Typed = λ q. Read (info_at p v (field_size per)) q per in
      let r = element_read 0 count n one itself (room n (length values) count all) in
      let l : Typed = Nodes.Listed (info_at p v unit_size) true (elements_from 0 count one itself) in
      let list : typed ts.table at.here.scope (ExprTree.It p) ≡ Some l =
      it_is p ∙ ap (λ o. held_at ts.table p itself of o) listed
      ∙ ap (λ o. option_map (λ k. Nodes.Listed (info_at p k unit_size) true (elements_from 0 count (λ q. Read (info_at p k (field_size per)) q per) itself)) o) kd in
      let there : typed ts.table at.here.scope (element p n) ≡ Some (one r.0) =
      ap (λ o. option_and_then (λ h. option_map (begun_at (place_of h)) (Operators.element n h)) o) list ∙ ap (λ o. option_map (begun_at p) o) r.1 in
      let known = facts value (inl refl) in
      subst GivenSound (sym same) (value_sound (element p n) value v r.0 there refl known.0 known.1 known.2)
    where
      room : (a b c : ℕ) → a + suc b ≡ c → a < c
      room a b c e = omega (arith, e)
  elements_sound v kd count listed n (value ∷ values) all facts g (inr i) = elements_sound v kd count listed (n + 1) values (next n (length values) count all) (λ e j. facts e (inr j)) g i
    where
      next : (a b c : ℕ) → a + suc b ≡ c → (a + 1) + b ≡ c
      next a b c e = omega (arith, e)

  -- the initial value of a field, or of each element of a list
  pub initials_sound : (v : ValueKind) → kind_of of (form ts.table.heads of) ≡ Some v → (list : Option Place) → f.tree.list ≡ list → has_members (form ts.table.heads of) ≡ false → (e : ExprTree) → f.tree.initial ≡ Some e
      → is_some list && not (is_list_of (Some e)) ≡ false → any_holds (expr_rows ts.table bare e) ≡ false → are_short e ≡ true
      → any_holds (values_rows ts.table bare (values_given (is_some list) e) v (field_size per)) ≡ false
      → (g : Given) → In g (given_initials ts at (option_map_or (λ (place : Place). true) list false) e) → GivenSound g
  initials_sound v kd None alone plain e initial shape free short fits g (inl same) =
      let p = first e in
      let left = it_is p ∙ ap (λ (o : Option Place). held_at ts.table p itself of (option_map (λ (place : Place). items_in f.tree.initial) o)) alone ∙ single_read ts.table p itself of v kd plain in
      let fit = rows_among (λ e. initial_fit_rows v (field_size per) (first e) (typed ts.table bare e)) (e ∷ []) fits e (inl refl) in
      subst GivenSound (sym same) (value_sound (ExprTree.It p) e v itself left refl free short fit)
  initials_sound v kd None alone plain e initial shape free short fits g (inr i) = absurd i
  initials_sound v kd (Some place) listed plain e initial shape free short fits g i =
      let l = listed_of e (holds_not (is_list_of (Some e)) shape) in
      by l.0 l.1 (initial ∙ ap Some l.2) (subst (λ z. any_holds (expr_rows ts.table bare z) ≡ false) l.2 free) (subst (λ z. are_short z ≡ true) l.2 short)
      (subst (λ z. any_holds (values_rows ts.table bare (values_given true z) v (field_size per)) ≡ false) l.2 fits) (subst (λ z. In g (given_initials ts at true z)) l.2 i)
    where
      zero_more : (n : ℕ) → 0 + n ≡ n
      zero_more n = omega arith

      by : (p : Place) (items : ExprRow) → f.tree.initial ≡ Some (ExprTree.Listed p items) → any_holds (items_rows ts.table bare items) ≡ false → row_is_short items ≡ true
          → any_holds (values_rows ts.table bare (Tree.items_of items) v (field_size per)) ≡ false → In g (given_elements ts at 0 (Tree.items_of items)) → GivenSound g
      by p items begins free short fits i =
          let count : list_length f.tree ≡ Some (length (Tree.items_of items)) = ap (λ (o : Option Place). option_map (λ (place : Place). items_in f.tree.initial) o) listed ∙ ap (λ o. Some (items_in o)) begins in
          elements_sound v kd (length (Tree.items_of items)) count 0 (Tree.items_of items) (zero_more (length (Tree.items_of items)))
          (λ e j. let r = item_free ts.table bare items free short e j in (r.0, r.1, rows_among (λ e. initial_fit_rows v (field_size per) (first e) (typed ts.table bare e)) (Tree.items_of items) fits e j)) g i

-- What is known of the fields and kinds of a program's types.
use Rattle.std.proofs.Common.{◌≡◌, ℕ, zero, suc, ◌+◌, refl, sym, ap, ◌∙◌, subst, inl, inr, List, [], ◌∷◌, ◌++◌, Bool, true, false, not, cond, Option, Some, None, map, length, true≢false}
use Rattle.std.specs.Prelude.{flat_map, filter_map, find, is_none, slice_index_or, bytes_eq, codes, option_map, option_and_then}
use Rattle.std.specs.Option.{option_map_or}
use Rattle.std.specs.List.{list_all, cons_option}
use Rattle.std.proofs.lemmas.Slice.Eq.{bytes_eq-Decides}
use Rattle.expr_eval.specs.dsl_tree.declared.parts.Ident.{Ident}
use Rattle.expr_eval.specs.dsl_tree.declared.parts.QName.{QName}
use Rattle.expr_eval.specs.dsl_tree.declared.compounds.CompoundKind.{CompoundKind}
use Rattle.expr_eval.specs.dsl_tree.declared.compounds.Heir.{Heir}
use Rattle.expr_eval.specs.dsl_tree.declared.enums.EnumItem.{EnumItem}
use Rattle.expr_eval.specs.dsl_tree.FileTree.{MemberTree, CompoundTree, DeclarationTree}
use Rattle.expr_eval.specs.type_heads.Form.{Form}
use Rattle.expr_eval.specs.type_heads.Table.{TypeHead, TableField, int_head, form, base, line_within, named, field_of, is_behaviour, is_compound, has_members, all_types}
use Rattle.expr_eval.specs.type_heads.Types.{Program, Types, Member, Field}
use Rattle.expr_eval.specs.type_heads.Members.{list_length, members, members_of, fields, field_type, fields_declared, table_field, table_fields}
use Rattle.expr_eval.specs.type_heads.HeadingFaults.{can_hold, member_rows, meant_row, fits_base, name_rows, heir_rows, compound_rows, declaration_rows, heading_rows, twice_rows, basic_names, name_declared, enum_rows_from, cycle_row, owner_rows}
use Rattle.expr_eval.specs.type_heads.DeclaredTypes.{Placed, placed, Declared, basic_types, type_declared, all_declared, meant, items_with, form_with, heads_from, bodies_from, declared_heads, types_of}
use Rattle.expr_eval.specs.expr_nodes.Parts.{any_holds}
use Rattle.run_values.proofs.of_field_flatten.Tests.{left_of, two_ways, In, in_either, flat_map_in, map_in, found_in, all_from}
use Rattle.scene_laws.specs.Premises.{is_free}
use Rattle.scene_laws.proofs.FaultRows.{no_left, no_right, not_so, not_from, holds_not, rows_left, rows_right, rows_among}
use Rattle.scene_laws.proofs.Picked.{filter_map_in}
use Rattle.scene_laws.proofs.DeclaredNames.{SameNames, names_kept}
use Rattle.scene_laws.proofs.WrittenMembers.{members_pass, all_members}
use Rattle.checkable_scenes.proofs.Inherited.{Up, chain_up, member_comes}
use Rattle.checkable_scenes.proofs.ConditionFields.{IsInherited, member_below}
use Rattle.checkable_scenes.proofs.ResolvedScopes.{any_some}
use Rattle.checkable_scenes.proofs.TypedShapes.{FieldsKnown}

-- ---- the rows of headings, by declaration

pub used_rows : (p : Program) (ts : Types) → any_holds (heading_rows p ts) ≡ false → any_holds (flat_map (λ (d : Placed). declaration_rows ts.table.heads d.declaration) (placed p)) ≡ false
used_rows p ts rows =
    let heads = ts.table.heads in
    let all = placed p in
    let twice = twice_rows basic_names (filter_map (λ (d : Placed). name_declared d.declaration) all) in
    let used = flat_map (λ (d : Placed). declaration_rows heads d.declaration) all in
    let enums = enum_rows_from heads all 0 (all_declared all) in
    let cycles = map (cycle_row heads ts.bodies) (all_types heads) in
    rows_right twice used (rows_left (twice ++ used) enums (rows_left (twice ++ used ++ enums) cycles rows))

-- ---- the types of fields

abbrev pub holds_right : List TypeHead → MemberTree → Bool
holds_right heads m = not (any_holds (member_rows heads m))

pub members_right : (p : Program) (heads : List TypeHead) → any_holds (flat_map (λ (d : Placed). declaration_rows heads d.declaration) (placed p)) ≡ false → list_all (λ (d : Placed). members_pass (holds_right heads) d.declaration) (placed p) ≡ true
members_right p heads rows = all_from (λ (d : Placed). members_pass (holds_right heads) d.declaration) (placed p) (λ d i. by d.declaration (rows_among (λ (d : Placed). declaration_rows heads d.declaration) (placed p) rows d i))
  where
    each : (ms : List MemberTree) → any_holds (flat_map (member_rows heads) ms) ≡ false → list_all (holds_right heads) ms ≡ true
    each ms h = all_from (holds_right heads) ms (λ m i. not_so (any_holds (member_rows heads m)) (rows_among (member_rows heads) ms h m i))

    by : (t : DeclarationTree) → any_holds (declaration_rows heads t) ≡ false → members_pass (holds_right heads) t ≡ true
    by (DeclarationTree.CompoundDeclaration d) h =
        each d.members (rows_right (option_map_or (λ name. owner_rows heads d.name.first) d.name.second [] ++ option_map_or (heir_rows heads d) d.heir []) (flat_map (member_rows heads) d.members) h)
    by (DeclarationTree.MemberExtension d) h =
        each d.members (no_right (meant_row heads (λ t. has_members (form heads t)) d.name).holds (any_holds (flat_map (member_rows heads) d.members))
        (rows_right (name_rows heads d.name.first d.name.second) (meant_row heads (λ t. has_members (form heads t)) d.name ∷ flat_map (member_rows heads) d.members) h))
    by (DeclarationTree.TypeDeclaration d) h = refl
    by (DeclarationTree.UnitDeclaration d) h = refl
    by (DeclarationTree.EnumDeclaration d) h = refl
    by (DeclarationTree.EnumExtension d) h = refl

-- a field holds no behaviour
abbrev pub HoldNoBehaviours : Types → Type 0
HoldNoBehaviours ts = (t : ℕ) (f : Field) → In f (fields ts t) → (of : ℕ) → field_type ts f ≡ Some of → is_behaviour (form ts.table.heads of) ≡ false

pub program_holds : (p : Program) → any_holds (heading_rows p (types_of p)) ≡ false → HoldNoBehaviours (types_of p)
program_holds p rows t f i of typed =
    let ts = types_of p in
    let all = all_members (holds_right ts.table.heads) p (members_right p ts.table.heads (used_rows p ts rows)) in
    let g = flat_map_in (λ (m : Member). fields_declared m m.written.member) (members ts t) f i in
    by g.0 g.0.written.member (not_from (any_holds (member_rows ts.table.heads g.0.written.member)) (all.members t g.0 g.1)) g.2
  where
    by : (m : Member) (tree : MemberTree) → any_holds (member_rows (types_of p).table.heads tree) ≡ false → In f (fields_declared m tree) → is_behaviour (form (types_of p).table.heads of) ≡ false
    by m (MemberTree.Field x) h j =
        let heads = (types_of p).table.heads in
        let n = map_in (λ (i : Ident). record { name = i; tree = x; holder = m.holder; under = m.under }) x.names f j in
        let is : named heads None x.of.text ≡ Some of = subst (λ (z : Field). named heads None z.tree.of.text ≡ Some of) n.2 typed in
        let row = no_left (option_map_or (λ t. not (can_hold x (form heads t))) (named heads None x.of.text) false) false (no_right _ _ h) in
        let fits = holds_not (can_hold x (form heads of)) (subst (λ o. option_map_or (λ t. not (can_hold x (form heads t))) o false ≡ false) is row) in
        no_left (is_behaviour (form heads of)) _ (not_from _ fits)
    by m (MemberTree.Rule r) h j = absurd j
    by m (MemberTree.Do place phase) h j = absurd j

-- the type of a field is declared
pub program_declared : (p : Program) → any_holds (heading_rows p (types_of p)) ≡ false → (t : ℕ) (f : Field) → In f (fields (types_of p) t) → (of : ℕ) × (field_type (types_of p) f ≡ Some of)
program_declared p rows t f i =
    let ts = types_of p in
    let all = all_members (holds_right ts.table.heads) p (members_right p ts.table.heads (used_rows p ts rows)) in
    let g = flat_map_in (λ (m : Member). fields_declared m m.written.member) (members ts t) f i in
    by g.0 g.0.written.member (not_from (any_holds (member_rows ts.table.heads g.0.written.member)) (all.members t g.0 g.1)) g.2
  where
    by : (m : Member) (tree : MemberTree) → any_holds (member_rows (types_of p).table.heads tree) ≡ false → In f (fields_declared m tree) → (of : ℕ) × (field_type (types_of p) f ≡ Some of)
    by m (MemberTree.Field x) h j =
        let heads = (types_of p).table.heads in
        let n = map_in (λ (i : Ident). record { name = i; tree = x; holder = m.holder; under = m.under }) x.names f j in
        let o = any_some (named heads None x.of.text) (no_left (is_none (named heads None x.of.text)) _ h) in
        (o.0, subst (λ (z : Field). named heads None z.tree.of.text ≡ Some o.0) (sym n.2) o.1)
    by m (MemberTree.Rule r) h j = absurd j
    by m (MemberTree.Do place phase) h j = absurd j

-- ---- fields of the table

index_map : {A B : Type 0} (f : List A → List B) → f [] ≡ [] → (xs : List (List A)) (n : ℕ) → slice_index_or (map f xs) n [] ≡ f (slice_index_or xs n [])
index_map f e [] n = sym e
index_map f e (x ∷ xs) zero = refl
index_map f e (x ∷ xs) (suc n) = index_map f e xs n

-- a field of a type is one of the table
pub table_found : (heads : List TypeHead) (fs : List Field) (name : List ℕ) (g : Field) → find (λ (f : Field). bytes_eq f.name.text name) fs ≡ Some g → (v : ℕ) → named heads None g.tree.of.text ≡ Some v
    → find (λ (x : TableField). bytes_eq x.name name) (filter_map (table_field heads) fs) ≡ Some (record { name = g.name.text; of = v; length = list_length g.tree })
table_found heads [] name g h v is = cc
table_found heads (f ∷ fs) name g h v is = by (bytes_eq f.name.text name) refl (named heads None f.tree.of.text) refl h (λ r. table_found heads fs name g r v is)
  where
    by : (b : Bool) → bytes_eq f.name.text name ≡ b → (o : Option ℕ) → named heads None f.tree.of.text ≡ o → cond b (Some f) (find (λ (f : Field). bytes_eq f.name.text name) fs) ≡ Some g
        → (find (λ (f : Field). bytes_eq f.name.text name) fs ≡ Some g → find (λ (x : TableField). bytes_eq x.name name) (filter_map (table_field heads) fs) ≡ Some (record { name = g.name.text; of = v; length = list_length g.tree }))
        → find (λ (x : TableField). bytes_eq x.name name) (cons_option (option_map (λ (u : ℕ). record { name = f.name.text; of = u; length = list_length f.tree }) o) (filter_map (table_field heads) fs))
        ≡ Some (record { name = g.name.text; of = v; length = list_length g.tree })
    by true e None n k rest = let same : f ≡ g = cc in absurd (never (sym n ∙ ap (λ (z : Field). named heads None z.tree.of.text) same ∙ is))
      where
        never : None ≡ Some v → ⊥
        never q = cc
    by true e (Some u) n k rest =
        let same : f ≡ g = cc in
        let one : u ≡ v = some_same (sym n ∙ ap (λ (z : Field). named heads None z.tree.of.text) same ∙ is) in
        ap (λ b. cond b (Some (record { name = f.name.text; of = u; length = list_length f.tree })) (find (λ (x : TableField). bytes_eq x.name name) (filter_map (table_field heads) fs))) e
        ∙ ap (λ (z : Field). Some (record { name = z.name.text; of = u; length = list_length z.tree })) same ∙ ap (λ z. Some (record { name = g.name.text; of = z; length = list_length g.tree })) one
      where
        some_same : {x y : ℕ} → Some x ≡ Some y → x ≡ y
        some_same q = cc
    by false e None n k rest = rest k
    by false e (Some u) n k rest = ap (λ b. cond b (Some (record { name = f.name.text; of = u; length = list_length f.tree })) (find (λ (x : TableField). bytes_eq x.name name) (filter_map (table_field heads) fs))) e ∙ rest k

pub table_is : (p : Program) (t : ℕ) → slice_index_or (types_of p).table.fields t [] ≡ table_fields (types_of p).table.heads (members (types_of p) t)
unfolding types_of
table_is p t =
    let all = placed p in
    let names = declared_heads all in
    let heads = heads_from names all 0 (all_declared all) in
    let bodies = bodies_from names all 0 (all_declared all) in
    index_map (table_fields heads) refl (map (members_of heads bodies) (all_types heads)) t

-- a field of the table is one of the type
pub record OfTable (ts : Types) (t : ℕ) (name : List ℕ) (x : TableField) : Type 0 where
  pub f : Field
  pub inside : In f (fields ts t)
  pub named : f.name.text ≡ name
  pub typed : field_type ts f ≡ Some x.of
  pub count : list_length f.tree ≡ x.length

pub of_table : (p : Program) (t : ℕ) (name : List ℕ) (x : TableField) → field_of (types_of p).table t name ≡ Some x → OfTable (types_of p) t name x
of_table p t name x e =
    let ts = types_of p in
    let g = found_in (λ (f : TableField). bytes_eq f.name name) (slice_index_or ts.table.fields t []) x e in
    let h = filter_map_in (table_field ts.table.heads) (fields ts t) x (subst (In x) (table_is p t) g.0) in
    by h.0 h.1 (named ts.table.heads None h.0.tree.of.text) refl h.2 ((bytes_eq-Decides x.name name).0 g.1)
  where
    by : (f : Field) → In f (fields (types_of p) t) → (o : Option ℕ) → named (types_of p).table.heads None f.tree.of.text ≡ o
        → option_map (λ (u : ℕ). record { name = f.name.text; of = u; length = list_length f.tree }) o ≡ Some x → x.name ≡ name → OfTable (types_of p) t name x
    by f i None is k same = cc
    by f i (Some u) is k same =
        let one : record { name = f.name.text; of = u; length = list_length f.tree } ≡ x = cc in
        record { f = f; inside = i; named = ap (λ (z : TableField). z.name) one ∙ same; typed = is ∙ ap (λ (z : TableField). Some z.of) one; count = ap (λ (z : TableField). z.length) one }

pub not_do : (name : List ℕ) → is_free name ≡ true → name ≡ codes "do" → ⊥
not_do name h e = true≢false (sym (subst (λ z. is_free z ≡ true) e h))

pub not_it : (name : List ℕ) → is_free name ≡ true → bytes_eq name (codes "it") ≡ false
not_it name h = no_left (bytes_eq name (codes "it")) _ (not_from _ h)

pub fields_known : (p : Program) → HoldNoBehaviours (types_of p) → ((t : ℕ) (f : Field) → In f (fields (types_of p) t) → is_free f.name.text ≡ true)
    → ((t : ℕ) → is_behaviour (form (types_of p).table.heads t) ≡ true → (f : Field) → In f (fields (types_of p) t) → f.name.text ≡ codes "duration" → ⊥) → FieldsKnown (types_of p).table
fields_known p holds free untimed = record {
  free = λ t name x e. let o = of_table p t name x e in not_do name (subst (λ z. is_free z ≡ true) o.named (free t o.f o.inside));
  untimed = λ t name x e same. let o = of_table p t name x e in two_ways (is_behaviour (form (types_of p).table.heads t)) (λ b. absurd (untimed t b o.f o.inside (o.named ∙ same))) (λ b. b);
  held = λ t name x e. let o = of_table p t name x e in holds t o.f o.inside x.of o.typed;
}

-- ---- what inherits is a behaviour if its base is

same_behaves : (k : CompoundKind) (f : Form) → is_compound k f ≡ true → is_behaviour (Form.Compound k) ≡ is_behaviour f
same_behaves CompoundKind.Struct (Form.Compound CompoundKind.Struct) h = refl
same_behaves CompoundKind.Actor (Form.Compound CompoundKind.Actor) h = refl
same_behaves CompoundKind.Action (Form.Compound CompoundKind.Action) h = refl
same_behaves CompoundKind.Scenario (Form.Compound CompoundKind.Scenario) h = refl
same_behaves CompoundKind.Struct (Form.Compound CompoundKind.Actor) h = absurd (true≢false (sym h))
same_behaves CompoundKind.Struct (Form.Compound CompoundKind.Action) h = absurd (true≢false (sym h))
same_behaves CompoundKind.Struct (Form.Compound CompoundKind.Scenario) h = absurd (true≢false (sym h))
same_behaves CompoundKind.Actor (Form.Compound CompoundKind.Struct) h = absurd (true≢false (sym h))
same_behaves CompoundKind.Actor (Form.Compound CompoundKind.Action) h = absurd (true≢false (sym h))
same_behaves CompoundKind.Actor (Form.Compound CompoundKind.Scenario) h = absurd (true≢false (sym h))
same_behaves CompoundKind.Action (Form.Compound CompoundKind.Struct) h = absurd (true≢false (sym h))
same_behaves CompoundKind.Action (Form.Compound CompoundKind.Actor) h = absurd (true≢false (sym h))
same_behaves CompoundKind.Action (Form.Compound CompoundKind.Scenario) h = absurd (true≢false (sym h))
same_behaves CompoundKind.Scenario (Form.Compound CompoundKind.Struct) h = absurd (true≢false (sym h))
same_behaves CompoundKind.Scenario (Form.Compound CompoundKind.Actor) h = absurd (true≢false (sym h))
same_behaves CompoundKind.Scenario (Form.Compound CompoundKind.Action) h = absurd (true≢false (sym h))
same_behaves k Form.Int h = absurd (true≢false (sym h))
same_behaves k Form.Uint h = absurd (true≢false (sym h))
same_behaves k Form.Float h = absurd (true≢false (sym h))
same_behaves k Form.Truth h = absurd (true≢false (sym h))
same_behaves k Form.Chars h = absurd (true≢false (sym h))
same_behaves k (Form.Physical x) h = absurd (true≢false (sym h))
same_behaves k (Form.Enum x) h = absurd (true≢false (sym h))

module _ (heads names : List TypeHead) (all : List Placed) (same : SameNames heads names) (rows : any_holds (flat_map (λ (d : Placed). declaration_rows heads d.declaration) all) ≡ false) where
  meant_same : (q : QName) → meant heads q ≡ meant names q
  meant_same q = by q.second
    where
      by : (o : Option Ident) → option_map_or (λ (second : Ident). named heads (Some q.first.text) second.text) o (named heads None q.first.text) ≡ option_map_or (λ (second : Ident). named names (Some q.first.text) second.text) o (named names None q.first.text)
      by None = same None q.first.text
      by (Some second) = same (Some q.first.text) second.text

  abbrev FitsBase : Declared → Type 0
  FitsBase d = (h : Heir) → d.body.heir ≡ Some h → (b : ℕ) → meant names h.base ≡ Some b → is_behaviour d.head.form ≡ is_behaviour (form heads b)

  declared_fits : (d : Declared) → In d (all_declared all) → FitsBase d
  declared_fits d i = elim (in_either d basic_types (filter_map (λ (d : Placed). type_declared d.file d.index d.declaration) all) i) as (λ _. FitsBase d) [
    | inl j ↦ basic j
    | inr j ↦
        let g = filter_map_in (λ (d : Placed). type_declared d.file d.index d.declaration) all d j in
        by g.0.file g.0.index g.0.declaration (rows_among (λ (d : Placed). declaration_rows heads d.declaration) all rows g.0 g.1) g.2
  ]
    where
      none : {e : Declared} → d ≡ e → e.body.heir ≡ None → FitsBase d
      none same empty h is b m = let other : d.body.heir ≡ None = ap (λ (z : Declared). z.body.heir) same ∙ empty in cc

      basic : In d basic_types → FitsBase d
      basic (inl e) = none e refl
      basic (inr (inl e)) = none e refl
      basic (inr (inr (inl e))) = none e refl
      basic (inr (inr (inr (inl e)))) = none e refl
      basic (inr (inr (inr (inr (inl e))))) = none e refl
      basic (inr (inr (inr (inr (inr k))))) = absurd k

      some : {e : Declared} → Some e ≡ Some d → d ≡ e
      some is = cc

      fits : (e : CompoundTree) (h : Heir) → e.heir ≡ Some h → any_holds (compound_rows heads e) ≡ false → (b : ℕ) → meant names h.base ≡ Some b → is_behaviour (Form.Compound e.kind) ≡ is_behaviour (form heads b)
      fits e h is r b m =
          let first = option_map_or (λ name. owner_rows heads e.name.first) e.name.second [] in
          let second = option_map_or (heir_rows heads e) e.heir [] in
          let heirs = subst (λ o. any_holds (option_map_or (heir_rows heads e) o []) ≡ false) is (rows_right first second (rows_left (first ++ second) (flat_map (member_rows heads) e.members) r)) in
          let row = no_left (option_map_or (λ t. not (fits_base heads e t)) (meant heads h.base) false) _ (rows_right (name_rows heads h.base.first h.base.second) _ heirs) in
          let ok = holds_not (fits_base heads e b) (subst (λ o. option_map_or (λ t. not (fits_base heads e t)) o false ≡ false) (meant_same h.base ∙ m) row) in
          same_behaves e.kind (form heads b) (left_of (is_compound e.kind (form heads b)) _ ok)

      by : (file index : ℕ) (t : DeclarationTree) → any_holds (declaration_rows heads t) ≡ false → type_declared file index t ≡ Some d → FitsBase d
      by file index (DeclarationTree.EnumDeclaration e) r is = none (some is) refl
      by file index (DeclarationTree.TypeDeclaration e) r is = none (some is) refl
      by file index (DeclarationTree.CompoundDeclaration e) r is = λ h at b m.
          let one = some is in
          subst (λ (z : Declared). is_behaviour z.head.form ≡ is_behaviour (form heads b)) (sym one) (fits e h (sym (ap (λ (z : Declared). z.body.heir) one) ∙ at) r b m)
      by file index (DeclarationTree.UnitDeclaration e) r is = cc
      by file index (DeclarationTree.MemberExtension e) r is = cc
      by file index (DeclarationTree.EnumExtension e) r is = cc

  kept_behaves : (items : List EnumItem) (f : Form) → is_behaviour (form_with items f) ≡ is_behaviour f
  kept_behaves items (Form.Compound k) = refl
  kept_behaves items (Form.Enum ms) = refl
  kept_behaves items Form.Int = refl
  kept_behaves items Form.Uint = refl
  kept_behaves items Form.Float = refl
  kept_behaves items Form.Truth = refl
  kept_behaves items Form.Chars = refl
  kept_behaves items (Form.Physical x) = refl

  heads_fit : (t : ℕ) (ds : List Declared) → ((d : Declared) → In d ds → FitsBase d) → (k b : ℕ) → (slice_index_or (heads_from names all t ds) k int_head).base ≡ Some b
      → is_behaviour (slice_index_or (heads_from names all t ds) k int_head).form ≡ is_behaviour (form heads b)
  heads_fit t [] f k b h = cc
  heads_fit t (d ∷ ds) f zero b h = by d.body.heir refl h
    where
      by : (o : Option Heir) → d.body.heir ≡ o → option_and_then (λ (h : Heir). meant names h.base) o ≡ Some b → is_behaviour (form_with (items_with names all t d.items) d.head.form) ≡ is_behaviour (form heads b)
      by None e g = cc
      by (Some x) e g = kept_behaves (items_with names all t d.items) d.head.form ∙ f d (inl refl) x e b g
  heads_fit t (d ∷ ds) f (suc k) b h = heads_fit (t + 1) ds (λ e i. f e (inr i)) k b h

-- a type behaves if its base does
abbrev pub AreAlike : Types → Type 0
AreAlike ts = (t b : ℕ) → base ts.table.heads t ≡ Some b → is_behaviour (form ts.table.heads t) ≡ is_behaviour (form ts.table.heads b)

pub program_alike : (p : Program) → any_holds (heading_rows p (types_of p)) ≡ false → AreAlike (types_of p)
unfolding types_of
program_alike p rows t b h =
    let all = placed p in
    let names = declared_heads all in
    let heads = heads_from names all 0 (all_declared all) in
    heads_fit heads names all (names_kept names all 0 (all_declared all)) (used_rows p (types_of p) rows) 0 (all_declared all) (declared_fits heads names all (names_kept names all 0 (all_declared all)) (used_rows p (types_of p) rows)) t b h

module _ (ts : Types) (k : IsInherited ts) (alike : AreAlike ts) where
  -- what is above a type behaves as it does
  pub up_alike : (a t : ℕ) → Up ts.table.heads k.based k.unlooped a t → is_behaviour (form ts.table.heads t) ≡ is_behaviour (form ts.table.heads a)
  up_alike a t i = by (suc (length ts.table.heads)) t i
    where
      by : (n t : ℕ) → In a (line_within n ts.table.heads (Some t)) → is_behaviour (form ts.table.heads t) ≡ is_behaviour (form ts.table.heads a)
      by zero t i = absurd i
      by (suc n) t (inl e) = ap (λ z. is_behaviour (form ts.table.heads z)) (sym e)
      by (suc n) t (inr i) = step (base ts.table.heads t) refl i (λ u j. by n u j)
        where
          no_line : (m : ℕ) → In a (line_within m ts.table.heads None) → ⊥
          no_line zero j = j
          no_line (suc m) j = j

          step : (o : Option ℕ) → base ts.table.heads t ≡ o → In a (line_within n ts.table.heads o) → ((u : ℕ) → In a (line_within n ts.table.heads (Some u)) → is_behaviour (form ts.table.heads u) ≡ is_behaviour (form ts.table.heads a))
              → is_behaviour (form ts.table.heads t) ≡ is_behaviour (form ts.table.heads a)
          step None e j f = absurd (no_line n j)
          step (Some u) e j f = alike t u e ∙ f u j

  -- the holder of a member behaves as the type does
  pub holder_alike : (t : ℕ) (m : Member) → In m (members ts t) → is_behaviour (form ts.table.heads t) ≡ is_behaviour (form ts.table.heads m.holder)
  holder_alike t m i =
      let c = member_comes ts.table.heads k.based k.unlooped ts.bodies t m (member_below ts k t m i).1 in
      up_alike c.top t c.up ∙ sym (up_alike c.top m.holder (chain_up ts.table.heads k.based k.unlooped ts.bodies c.chain c.top m.holder c.down))

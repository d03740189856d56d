-- A path to an object has the typed form of a whole object, since no list holds objects.
use Rattle.std.proofs.Common.{◌≡◌, ℕ, zero, suc, ◌+◌, refl, sym, ◌∙◌, subst, inl, inr, List, [], ◌∷◌, Bool, true, false, ◌&&◌, ◌||◌, not, cond, Option, Some, None, true≢false}
use Rattle.std.specs.Prelude.{is_none, is_some, slice_get, codes, option_map, option_and_then}
use Rattle.std.specs.Option.{option_map_or}
use Rattle.osc_base.specs.declared.fault.Place.{Place}
use Rattle.osc_base.specs.declared.path.Path.{Path}
use Rattle.osc_base.specs.FaultRows.{FaultRow}
use Rattle.osc_base.specs.Paths.{root, then_name, then_index, then_duration}
use Rattle.expr_eval.specs.dsl_tree.declared.parts.Ident.{Ident}
use Rattle.expr_eval.specs.dsl_tree.declared.compounds.CompoundKind.{CompoundKind}
use Rattle.expr_eval.specs.dsl_tree.ExprTree as Tree
use Rattle.expr_eval.specs.dsl_tree.ExprTree.{ExprTree}
use Rattle.expr_eval.specs.dsl_tree.FileTree.{FieldTree, MemberTree}
use Rattle.expr_eval.specs.type_heads.Form.{Form}
use Rattle.expr_eval.specs.type_heads.Table.{Table, TableField, form, named, owner, has_members, field_of, is_object, is_behaviour, enum_number, enums_with}
use Rattle.expr_eval.specs.type_heads.Types.{Program, Member, Field}
use Rattle.expr_eval.specs.type_heads.Members.{list_length, items_in, members, fields, field_type, fields_declared}
use Rattle.expr_eval.specs.type_heads.HeadingFaults.{can_hold, member_rows, heading_rows}
use Rattle.expr_eval.specs.type_heads.DeclaredTypes.{types_of}
use Rattle.expr_eval.specs.expr_nodes.Kinds.{ValueKind, Made, kind_of, object_type}
use Rattle.expr_eval.specs.expr_nodes.Typed as Nodes
use Rattle.expr_eval.specs.expr_nodes.Typed.{Typed, TypedRow, Info, Read, Whole, kind, begun_at, place_of, items_of}
use Rattle.expr_eval.specs.expr_nodes.Scope.{It, Label, Scope}
use Rattle.expr_eval.specs.expr_nodes.Sizes.{info_at, unit_size, field_size}
use Rattle.expr_eval.specs.expr_nodes.Parts.{any_holds, unless}
use Rattle.expr_eval.specs.expr_nodes.Names.{per_of, elements_from, held_at, duration_at, Something, typed_meaning, is_duration, member_at, member_meant, label_named, label_at, meaning_by_duration, meaning_by_label, meaning_by_field, meaning, name_rows, it_at, duration_if, member_of_object, member_made, member_of_whole, after_point}
use Rattle.expr_eval.specs.expr_nodes.Operators.{index_of, element, index_typed}
use Rattle.expr_eval.specs.expr_nodes.Typing.{typed, is_path}
use Rattle.run_values.proofs.of_field_flatten.Tests.{In, map_in, flat_map_in}
use Rattle.scene_laws.proofs.FaultRows.{no_left, no_right, not_from, holds_not}
use Rattle.scene_laws.proofs.WrittenMembers.{all_members}
use Rattle.checkable_scenes.proofs.ReadFacts.{holds_right, members_right, used_rows}

-- a list holds no objects
pub program_lone : (p : Program) → any_holds (heading_rows p (types_of p)) ≡ false → (t : ℕ) (f : Field) → In f (fields (types_of p) t) → (of : ℕ) → field_type (types_of p) f ≡ Some of → (n : ℕ) → list_length f.tree ≡ Some n → is_object (form (types_of p).table.heads of) ≡ false
program_lone p rows t f i of typed n listed =
    let ts = types_of p in
    let all = all_members (holds_right ts.table.heads) p (members_right p ts.table.heads (used_rows p ts rows)) in
    let g = flat_map_in (λ (m : Member). fields_declared m m.written.member) (members ts t) f i in
    by g.0 g.0.written.member (not_from (any_holds (member_rows ts.table.heads g.0.written.member)) (all.members t g.0 g.1)) g.2
  where
    given : (a b : Bool) → a ≡ true → a && b ≡ false → b ≡ false
    given true b e f = f
    given false b e f = absurd (true≢false (sym e))

    a_list : (x : FieldTree) → list_length x ≡ Some n → is_some x.list ≡ true
    a_list x e = by_list x.list e
      where
        by_list : (o : Option Place) → option_map (λ (place : Place). items_in x.initial) o ≡ Some n → is_some o ≡ true
        by_list None g = cc
        by_list (Some q) g = refl

    by : (m : Member) (tree : MemberTree) → any_holds (member_rows (types_of p).table.heads tree) ≡ false → In f (fields_declared m tree) → is_object (form (types_of p).table.heads of) ≡ false
    by m (MemberTree.Field x) h j =
        let heads = (types_of p).table.heads in
        let k = map_in (λ (i : Ident). record { name = i; tree = x; holder = m.holder; under = m.under }) x.names f j in
        let is : named heads None x.of.text ≡ Some of = subst (λ (z : Field). named heads None z.tree.of.text ≡ Some of) k.2 typed in
        let row = no_left (option_map_or (λ t. not (can_hold x (form heads t))) (named heads None x.of.text) false) false (no_right (is_none (named heads None x.of.text)) _ h) in
        let fits = holds_not (can_hold x (form heads of)) (subst (λ o. option_map_or (λ t. not (can_hold x (form heads t))) o false ≡ false) is row) in
        given (is_some x.list) (is_object (form heads of)) (a_list x (subst (λ (z : Field). list_length z.tree ≡ Some n) k.2 listed)) (no_right (is_behaviour (form heads of)) _ (not_from _ fits))
    by m (MemberTree.Rule r) h j = absurd j
    by m (MemberTree.Do place phase) h j = absurd j

-- the items of a list field
abbrev field_items : Typed → List Typed
field_items (Nodes.Listed i true items) = items_of items
field_items _ = []

abbrev IsPlainRead : Typed → Type 0
IsPlainRead y = (i : Info) × (q : Path) × (per : ℕ) × (y ≡ Read i q per) × (object_type i.kind ≡ None)

-- an object is whole, and the items of a list aren't objects
pub record Clear (x : Typed) : Type 0 where
  pub whole : (u : ℕ) → object_type (kind x) ≡ Some u → (i : Info) × (q : Path) × (x ≡ Whole i q)
  pub items : (y : Typed) → In y (field_items x) → IsPlainRead y

clear_read : (i : Info) (q : Path) (per : ℕ) → object_type i.kind ≡ None → Clear (Read i q per)
clear_read i q per e = record { whole = λ u h. absurd (never (sym e ∙ h)); items = λ y j. absurd j }
  where
    never : {u : ℕ} → None ≡ Some u → ⊥
    never g = cc

clear_whole : (i : Info) (q : Path) → Clear (Whole i q)
clear_whole i q = record { whole = λ u h. (i, q, refl); items = λ y j. absurd j }

kind_members : (t : ℕ) (f : Form) (k : ValueKind) (u : ℕ) → kind_of t f ≡ Some k → object_type k ≡ Some u → has_members f ≡ true
kind_members t (Form.Compound CompoundKind.Struct) k u e h = refl
kind_members t (Form.Compound CompoundKind.Actor) k u e h = refl
kind_members t (Form.Compound CompoundKind.Action) k u e h = refl
kind_members t (Form.Compound CompoundKind.Scenario) k u e h = refl
kind_members t Form.Int k u e h = cc
kind_members t Form.Uint k u e h = cc
kind_members t Form.Float k u e h = cc
kind_members t Form.Truth k u e h = cc
kind_members t Form.Chars k u e h = cc
kind_members t (Form.Physical None) k u e h = cc
kind_members t (Form.Physical (Some x)) k u e h = cc
kind_members t (Form.Enum x) k u e h = cc

module _ (table : Table) (held : (t : ℕ) (name : List ℕ) (f : TableField) → field_of table t name ≡ Some f → is_behaviour (form table.heads f.of) ≡ false)
    (lone : (t : ℕ) (name : List ℕ) (f : TableField) → field_of table t name ≡ Some f → (n : ℕ) → f.length ≡ Some n → is_object (form table.heads f.of) ≡ false)
    (sc : Scope) (one : (t : ℕ) (n : Option ℕ) → sc.it ≡ Some (It.Of t n) → n ≡ None) where
  some_clear : (x y : Typed) → Clear x → Some x ≡ Some y → Clear y
  some_clear x y h e = let same : x ≡ y = cc in subst Clear same h

  elements_plain : (n count : ℕ) (i : Info) (per : ℕ) (path : Path) → object_type i.kind ≡ None → (y : Typed) → In y (items_of (elements_from n count (λ p. Read i p per) path)) → IsPlainRead y
  elements_plain n zero i per path e y j = absurd j
  elements_plain n (suc count) i per path e y (inl same) = (i, then_index path n, per, same, e)
  elements_plain n (suc count) i per path e y (inr j) = elements_plain (n + 1) count i per path e y j

  -- a field that is no list of objects
  held_clear : (place : Place) (path : Path) (t : ℕ) (count : Option ℕ) → ((n : ℕ) → count ≡ Some n → (is_object (form table.heads t) ≡ false) × (is_behaviour (form table.heads t) ≡ false)) → (x : Typed) → held_at table place path t count ≡ Some x → Clear x
  held_clear place path t None f x e = by (kind_of t (form table.heads t)) refl e
    where
      plain : (k : ValueKind) → kind_of t (form table.heads t) ≡ Some k → has_members (form table.heads t) ≡ false → (o : Option ℕ) → object_type k ≡ o → object_type k ≡ None
      plain k is m None h = h
      plain k is m (Some u) h = absurd (true≢false (sym (kind_members t (form table.heads t) k u is h) ∙ m))

      by_members : (k : ValueKind) → kind_of t (form table.heads t) ≡ Some k → (b : Bool) → has_members (form table.heads t) ≡ b
          → Some (cond b (Whole (info_at place k unit_size) path) (Read (info_at place k (field_size (per_of (form table.heads t)))) path (per_of (form table.heads t)))) ≡ Some x → Clear x
      by_members k is true m g = some_clear (Whole (info_at place k unit_size) path) x (clear_whole (info_at place k unit_size) path) g
      by_members k is false m g = some_clear (Read (info_at place k (field_size (per_of (form table.heads t)))) path (per_of (form table.heads t))) x
          (clear_read (info_at place k (field_size (per_of (form table.heads t)))) path (per_of (form table.heads t)) (plain k is m (object_type k) refl)) g

      by : (o : Option ValueKind) → kind_of t (form table.heads t) ≡ o
          → option_map (λ k. cond (has_members (form table.heads t)) (Whole (info_at place k unit_size) path) (Read (info_at place k (field_size (per_of (form table.heads t)))) path (per_of (form table.heads t)))) o ≡ Some x → Clear x
      by None is g = cc
      by (Some k) is g = by_members k is (has_members (form table.heads t)) refl g
  held_clear place path t (Some count) f x e = by (kind_of t (form table.heads t)) refl e
    where
      members : (g : Form) → is_object g ≡ false → is_behaviour g ≡ false → has_members g ≡ false
      members g p q = or_none (is_object g) (is_behaviour g) p q
        where
          or_none : (a b : Bool) → a ≡ false → b ≡ false → a || b ≡ false
          or_none true b p q = absurd (true≢false p)
          or_none false b p q = q

      plain : (k : ValueKind) → kind_of t (form table.heads t) ≡ Some k → (o : Option ℕ) → object_type k ≡ o → object_type k ≡ None
      plain k is None h = h
      plain k is (Some u) h = let m = f count refl in absurd (true≢false (sym (kind_members t (form table.heads t) k u is h) ∙ members (form table.heads t) m.0 m.1))

      by : (o : Option ValueKind) → kind_of t (form table.heads t) ≡ o
          → option_map (λ k. Nodes.Listed (info_at place k unit_size) true (elements_from 0 count (λ p. Read (info_at place k (field_size (per_of (form table.heads t)))) p (per_of (form table.heads t))) path)) o ≡ Some x → Clear x
      by None is g = cc
      by (Some k) is g =
          let no = plain k is (object_type k) refl in
          some_clear (Nodes.Listed (info_at place k unit_size) true (elements_from 0 count (λ p. Read (info_at place k (field_size (per_of (form table.heads t)))) p (per_of (form table.heads t))) path)) x (record {
            whole = λ u h. absurd (never (sym no ∙ h));
            items = λ y j. elements_plain 0 count (info_at place k (field_size (per_of (form table.heads t)))) (per_of (form table.heads t)) path no y j;
          }) g
        where
          never : {u : ℕ} → None ≡ Some u → ⊥
          never q = cc

  field_clear : (place : Place) (path : Path) (t : ℕ) (name : List ℕ) (f : TableField) → field_of table t name ≡ Some f → (x : Typed) → held_at table place path f.of f.length ≡ Some x → Clear x
  field_clear place path t name f at x e = held_clear place path f.of f.length (λ n h. (lone t name f at n h, held t name f at)) x e

  duration_clear : (place : Place) (path : Path) → Clear (duration_at place path)
  duration_clear place path = record { whole = λ u h. cc; items = λ y j. absurd j }

  object_clear : (place : Place) (path : Path) (t : ℕ) (name : List ℕ) (x : Typed) → typed_meaning (member_of_object table place path t name) ≡ Some x → Clear x
  object_clear place path t name x e = by (field_of table t name) refl e
    where
      timed : (b : Bool) → typed_meaning (duration_if place path b) ≡ Some x → Clear x
      timed true g = some_clear (duration_at place (then_duration path)) x (duration_clear place (then_duration path)) g
      timed false g = cc

      by : (q : Option TableField) → field_of table t name ≡ q
          → typed_meaning (option_map_or (λ (f : TableField). Something (held_at table place (then_name path name) f.of f.length)) q (duration_if place path (is_duration name && is_behaviour (form table.heads t)))) ≡ Some x → Clear x
      by None at g = timed (is_duration name && is_behaviour (form table.heads t)) g
      by (Some f) at g = field_clear place (then_name path name) t name f at x g

  after_clear : (h : Typed) (name : List ℕ) (x : Typed) → typed_meaning (after_point table h name) ≡ Some x → Clear x
  after_clear (Nodes.Whole i path) name x e = by i.kind e
    where
      made : (n : Made) → typed_meaning (member_made table i.place path name n) ≡ Some x → Clear x
      made Made.Nothing g = cc
      made Made.Unknown g = cc
      made (Made.Makes t) g = object_clear i.place path t name x g

      phase : (m : Made) (b : Bool) → typed_meaning (cond b (duration_if i.place path true) (member_made table i.place path name m)) ≡ Some x → Clear x
      phase m true g = some_clear (duration_at i.place (then_duration path)) x (duration_clear i.place (then_duration path)) g
      phase m false g = made m g

      by : (v : ValueKind) → typed_meaning (member_of_whole table i.place path v name) ≡ Some x → Clear x
      by (ValueKind.Object t) g = object_clear i.place path t name x g
      by (ValueKind.Phase m) g = phase m (is_duration name) g
      by ValueKind.Truth g = cc
      by (ValueKind.Number q) g = cc
      by (ValueKind.Member q) g = cc
      by ValueKind.Chars g = cc
  after_clear (Nodes.Listed i is_field items) name x e = cc
  after_clear (Nodes.Constant i number) name x e = cc
  after_clear (Nodes.Read i path per) name x e = cc
  after_clear (Nodes.Span i low high) name x e = cc
  after_clear (Nodes.Minus i part) name x e = cc
  after_clear (Nodes.Not i part) name x e = cc
  after_clear (Nodes.Sum i left right) name x e = cc
  after_clear (Nodes.Times i left right) name x e = cc
  after_clear (Nodes.And i left right) name x e = cc
  after_clear (Nodes.Or i left right) name x e = cc
  after_clear (Nodes.Implies i left right) name x e = cc
  after_clear (Nodes.Relation i sign left right) name x e = cc
  after_clear (Nodes.Within i left right) name x e = cc

  unless_some : (rows : List FaultRow) (o : Option Typed) (x : Typed) → unless rows o ≡ Some x → o ≡ Some x
  unless_some rows o x e = by (any_holds rows) e
    where
      by : (b : Bool) → cond b None o ≡ Some x → o ≡ Some x
      by true g = cc
      by false g = g

  name_clear : (i : Ident) (x : Typed) → typed table sc (Tree.Name i) ≡ Some x → Clear x
  name_clear i x e = by_field (field_of table sc.holder i.text) refl (unless_some (name_rows table sc i) (typed_meaning (meaning table sc i)) x e)
    where
      enums : (es : List ℕ) → typed_meaning (member_meant table i es) ≡ Some x → Clear x
      enums [] g = cc
      enums (a ∷ []) g = by_number (enum_number table.heads a i.text) g
        where
          by_number : (o : Option ℕ) → option_map (member_at i.place a) o ≡ Some x → Clear x
          by_number None q = cc
          by_number (Some n) q = some_clear (member_at i.place a n) x (record { whole = λ u h. cc; items = λ y j. absurd j }) q
      enums (a ∷ b ∷ es) g = cc

      by_duration : (b : Bool) → typed_meaning (meaning_by_duration table i b) ≡ Some x → Clear x
      by_duration true g = some_clear (duration_at i.place (then_duration root)) x (duration_clear i.place (then_duration root)) g
      by_duration false g = enums (enums_with table.heads i.text) g

      by_label : (o : Option Label) → typed_meaning (meaning_by_label table sc i o) ≡ Some x → Clear x
      by_label None g = by_duration (is_duration i.text && is_behaviour (form table.heads sc.holder)) g
      by_label (Some l) g = some_clear (label_at i.place l) x (record { whole = λ u h. cc; items = λ y j. absurd j }) g

      by_field : (o : Option TableField) → field_of table sc.holder i.text ≡ o → typed_meaning (meaning_by_field table sc i o) ≡ Some x → Clear x
      by_field None at g = by_label (label_named sc i.text) g
      by_field (Some f) at g = field_clear i.place (then_name root i.text) sc.holder i.text f at x g

  index_clear : (head : Option Typed) (index : ExprTree) → ((t : Typed) → head ≡ Some t → Clear t) → (x : Typed) → index_typed head index ≡ Some x → Clear x
  index_clear head index g x h = by_index (index_of index) h
    where
      at_item : (items : TypedRow) (n : ℕ) (y : Typed) → slice_get (items_of items) n ≡ Some y → In y (items_of items)
      at_item Nodes.End n y e = cc
      at_item (Nodes.Item item others) zero y e = let same : item ≡ y = cc in inl (sym same)
      at_item (Nodes.Item item others) (suc n) y e = inr (at_item others n y e)

      item_of : (t : Typed) (n : ℕ) (y : Typed) → element n t ≡ Some y → In y (field_items t)
      item_of (Nodes.Listed i true items) n y e = at_item items n y e
      item_of (Nodes.Listed i false items) n y e = cc
      item_of (Nodes.Constant i number) n y e = cc
      item_of (Nodes.Read i path per) n y e = cc
      item_of (Nodes.Whole i path) n y e = cc
      item_of (Nodes.Span i low high) n y e = cc
      item_of (Nodes.Minus i part) n y e = cc
      item_of (Nodes.Not i part) n y e = cc
      item_of (Nodes.Sum i left right) n y e = cc
      item_of (Nodes.Times i left right) n y e = cc
      item_of (Nodes.And i left right) n y e = cc
      item_of (Nodes.Or i left right) n y e = cc
      item_of (Nodes.Implies i left right) n y e = cc
      item_of (Nodes.Relation i sign left right) n y e = cc
      item_of (Nodes.Within i left right) n y e = cc

      by_element : (t : Typed) → Clear t → (n : ℕ) (o : Option Typed) → element n t ≡ o → option_map (begun_at (place_of t)) o ≡ Some x → Clear x
      by_element t s n None is k = cc
      by_element t s n (Some y) is k =
          let r = s.items y (item_of t n y is) in
          some_clear (begun_at (place_of t) y) x (subst (λ z. Clear (begun_at (place_of t) z)) (sym r.3) (clear_read (record r.0 { place = place_of t }) r.1 r.2 r.4)) k

      by_head : (n : ℕ) (o : Option Typed) → head ≡ o → option_and_then (λ t. option_map (begun_at (place_of t)) (element n t)) o ≡ Some x → Clear x
      by_head n None is k = cc
      by_head n (Some t) is k = by_element t (g t is) n (element n t) refl k

      by_index : (o : Option ℕ) → option_and_then (λ n. option_and_then (λ t. option_map (begun_at (place_of t)) (element n t)) head) o ≡ Some x → Clear x
      by_index None k = cc
      by_index (Some n) k = by_head n head refl k

  pub path_clear : (e : ExprTree) → is_path e ≡ true → (x : Typed) → typed table sc e ≡ Some x → Clear x
  path_clear (Tree.Name i) p x h = name_clear i x h
  path_clear (Tree.It place) p x h = by sc.it refl h
    where
      by : (o : Option It) → sc.it ≡ o → option_and_then (it_at table place) o ≡ Some x → Clear x
      by None is g = cc
      by (Some It.Unresolved) is g = cc
      by (Some (It.Of t n)) is g = held_clear place (then_name root (codes "it")) t n (λ m q. absurd (never (sym (one t n is) ∙ q))) x g
        where
          never : {m : ℕ} → None ≡ Some m → ⊥
          never q = cc
  path_clear (Tree.Actor place) p x h = by (owner table.heads sc.holder) h
    where
      by : (o : Option ℕ) → option_map (λ o. Whole (info_at place (ValueKind.Object o) unit_size) (then_name root (codes "actor"))) o ≡ Some x → Clear x
      by None g = cc
      by (Some o) g = some_clear (Whole (info_at place (ValueKind.Object o) unit_size) (then_name root (codes "actor"))) x (clear_whole (info_at place (ValueKind.Object o) unit_size) (then_name root (codes "actor"))) g
  path_clear (Tree.Dot head i) p x h = by (typed table sc head) h
    where
      by : (o : Option Typed) → option_and_then (λ h. typed_meaning (after_point table h i.text)) o ≡ Some x → Clear x
      by None g = cc
      by (Some t) g = after_clear t i.text x g
  path_clear (Tree.Index q head index) p x h = index_clear (typed table sc head) index (path_clear head p) x h
  path_clear (Tree.Start a) p x h = path_clear a p x h
  path_clear (Tree.Implies q a b) p x h = absurd (true≢false (sym p))
  path_clear (Tree.Or q op a b) p x h = absurd (true≢false (sym p))
  path_clear (Tree.And q op a b) p x h = absurd (true≢false (sym p))
  path_clear (Tree.Not q a) p x h = absurd (true≢false (sym p))
  path_clear (Tree.Relation q s a b) p x h = absurd (true≢false (sym p))
  path_clear (Tree.Sum q op a b) p x h = absurd (true≢false (sym p))
  path_clear (Tree.Product q op a b) p x h = absurd (true≢false (sym p))
  path_clear (Tree.Minus q a) p x h = absurd (true≢false (sym p))
  path_clear (Tree.Number d) p x h = absurd (true≢false (sym p))
  path_clear (Tree.Physical d u) p x h = absurd (true≢false (sym p))
  path_clear (Tree.Chars q t) p x h = absurd (true≢false (sym p))
  path_clear (Tree.Truth q v) p x h = absurd (true≢false (sym p))
  path_clear (Tree.EnumName of m) p x h = absurd (true≢false (sym p))
  path_clear (Tree.Group q a) p x h = absurd (true≢false (sym p))
  path_clear (Tree.Span q a b) p x h = absurd (true≢false (sym p))
  path_clear (Tree.Listed q xs) p x h = absurd (true≢false (sym p))
  path_clear (Tree.RangeCall q a b) p x h = absurd (true≢false (sym p))

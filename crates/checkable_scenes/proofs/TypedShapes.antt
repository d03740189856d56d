-- What the paths of a typed expression lead to: a duration is read of phases alone, and a field of no phase.
use Rattle.std.proofs.Common.{◌≡◌, ℕ, zero, suc, ◌+◌, refl, sym, ap, ◌∙◌, subst, ◌⊎◌, inl, inr, List, [], ◌∷◌, ◌++◌, Bool, true, false, ◌&&◌, ◌||◌, cond, Option, Some, None, true≢false}
use Rattle.std.specs.Prelude.{⊤, slice_get, bytes_eq, codes, nat_eq, option_map, option_and_then, unwrap_or, ℤ, pos}
use Rattle.std.specs.Option.{option_map_or}
use Rattle.std.proofs.lemmas.Slice.Eq.{bytes_eq-Decides}
use Rattle.osc_base.specs.declared.fault.Place.{Place}
use Rattle.osc_base.specs.declared.path.Path.{Path}
use Rattle.osc_base.specs.declared.path.Step.{Step}
use Rattle.osc_base.specs.declared.path.Step.TheVariants.{Name, Index}
use Rattle.osc_base.specs.FaultRows.{FaultRow}
use Rattle.osc_base.specs.LowestTerms.{lowest}
use Rattle.osc_base.specs.Number.{whole}
use Rattle.scene_laws.specs.name_scope.Declaring.{first_place}
use Rattle.osc_base.specs.Paths.{path_of, root, then_name, then_duration}
use Rattle.expr_eval.specs.dsl_tree.declared.parts.Ident.{Ident}
use Rattle.expr_eval.specs.dsl_tree.declared.parts.Digits.{Digits}
use Rattle.expr_eval.specs.dsl_tree.declared.expr.Operator.{Operator}
use Rattle.expr_eval.specs.dsl_tree.declared.expr.RelationSign.{RelationSign}
use Rattle.expr_eval.specs.dsl_tree.ExprTree as Tree
use Rattle.expr_eval.specs.dsl_tree.ExprTree.{ExprTree, ExprRow}
use Rattle.expr_eval.specs.units_si.declared.units.Exponents.{Exponents}
use Rattle.expr_eval.specs.type_heads.Form.{Form}
use Rattle.expr_eval.specs.type_heads.Table.{Table, TableField, TableUnit, form, owner, has_members, field_of, is_behaviour, is_object, unit, enum_number, enums_with}
use Rattle.expr_eval.specs.type_heads.Units.{digits_number}
use Rattle.expr_eval.specs.expr_nodes.declared.compare.Compare.{Compare}
use Rattle.expr_eval.specs.expr_nodes.Kinds.{ValueKind, Made, plain, kind_of}
use Rattle.expr_eval.specs.expr_nodes.Typed as Types
use Rattle.expr_eval.specs.expr_nodes.Typed.{Typed, TypedRow, Info, Read, Whole, info, kind, begun_at, place_of, items_of}
use Rattle.expr_eval.specs.expr_nodes.Scope.{It, Label, Scope}
use Rattle.expr_eval.specs.expr_nodes.Sizes.{info_at, unit_size, field_size, duration_size, is_wide}
use Rattle.expr_eval.specs.expr_nodes.Sound.{has_size}
use Rattle.expr_eval.specs.expr_nodes.Parts.{any_holds, unless}
use Rattle.expr_eval.specs.expr_nodes.Names.{per_of, elements_from, held_at, duration_at, Something, typed_meaning, is_duration, member_at, member_meant, label_named, label_at, meaning_by_duration, meaning_by_label, meaning_by_field, meaning, name_rows, it_at, enum_named, duration_if, member_of_object, member_made, member_of_phase, member_of_whole, after_point}
use Rattle.expr_eval.specs.expr_nodes.Operators.{number_rows, row_kind, constant_at, count_in, truth_at, not_rows, logic_rows, minus_rows, sum_rows, sum_of, product_rows, product_of, quotient_rows, reciprocal_of, factor_typed, comparison_rows, comparison_typed, compare_of, within_rows, within_typed, relation_typed, part_rows, span_rows, span_typed, item_typed, list_typed, index_of, element, index_typed, group_typed, physical_typed}
use Rattle.expr_eval.specs.expr_nodes.Typing.{typed, typed_row}
use Rattle.run_values.proofs.of_field_flatten.Tests.{right_of, In, found_in}
use Rattle.scene_laws.proofs.FaultRows.{one_made, two_made}
use Rattle.scene_laws.proofs.IsSound.{sized}
use Rattle.checkable_scenes.proofs.PhaseSteps.{OnlyPhases, IsTimed, IsThing, named_thing, index_untimed}

-- a path with a step
abbrev pub HasStep : Path → Type 0
HasStep p = (x : Step) × (xs : List Step) × (p.steps ≡ x ∷ xs)

pub step_more : (p : Path) (s : Step) → HasStep p → HasStep (path_of (p.steps ++ s ∷ []))
step_more p s h = (h.0, h.1 ++ s ∷ [], ap (λ l. l ++ s ∷ []) h.2)

-- what is known of the fields of a table
pub record FieldsKnown (table : Table) : Type 0 where
  pub free : (t : ℕ) (name : List ℕ) (f : TableField) → field_of table t name ≡ Some f → name ≡ codes "do" → ⊥
  pub untimed : (t : ℕ) (name : List ℕ) (f : TableField) → field_of table t name ≡ Some f → name ≡ codes "duration" → is_behaviour (form table.heads t) ≡ false
  pub held : (t : ℕ) (name : List ℕ) (f : TableField) → field_of table t name ≡ Some f → is_behaviour (form table.heads f.of) ≡ false

-- a behaviour's object is a phase, another object is a thing
abbrev pub IsObjectAt : Table → ℕ → Path → Type 0
IsObjectAt table t p = ((is_behaviour (form table.heads t) ≡ true) × OnlyPhases p.steps) ⊎ ((is_behaviour (form table.heads t) ≡ false) × IsThing p.steps)

-- what is known of the paths of a scope
pub record PathsKnown (table : Table) (sc : Scope) (to : Path → Path) : Type 0 where
  pub later : (p : Path) → HasStep p → (s : Step) → (to (path_of (p.steps ++ s ∷ []))).steps ≡ (to p).steps ++ s ∷ []
  pub field : (name : List ℕ) (f : TableField) → field_of table sc.holder name ≡ Some f → IsThing (to (then_name root name)).steps
  pub actor : (o : ℕ) → owner table.heads sc.holder ≡ Some o → (is_behaviour (form table.heads o) ≡ false) × IsThing (to (then_name root (codes "actor"))).steps
  pub duration : is_behaviour (form table.heads sc.holder) ≡ true → IsTimed (to (then_duration root)).steps
  pub label : (l : Label) → In l sc.labels → HasStep l.path × OnlyPhases (to l.path).steps
  pub it : (t : ℕ) (n : Option ℕ) → sc.it ≡ Some (It.Of t n) → IsObjectAt table t (to (then_name root (codes "it"))) × ((n ≡ None) ⊎ IsThing (to (then_name root (codes "it"))).steps)

-- a read of a duration, or of a field
abbrev pub FitRead : Info → Path → ℕ → Type 0
FitRead i p per = ((nat_eq per 1000 && has_size i duration_size ≡ true) × IsTimed p.steps) ⊎ ((has_size i (field_size per) ≡ true) × (IsTimed p.steps → ⊥))

module _ (table : Table) (to : Path → Path) where
  abbrev mutual
    pub Shape : Typed → Type 0
    Shape (Types.Whole i path) = HasStep path × ((t : ℕ) → i.kind ≡ ValueKind.Object t → IsObjectAt table t (to path)) × ((m : Made) → i.kind ≡ ValueKind.Phase m → OnlyPhases (to path).steps)
    Shape (Types.Read i path per) = FitRead i (to path) per
    Shape (Types.Listed i is_field items) = ShapeRow items
    Shape (Types.Constant i number) = ⊤
    Shape (Types.Span i low high) = Shape low × Shape high
    Shape (Types.Minus i part) = Shape part
    Shape (Types.Not i part) = Shape part
    Shape (Types.Sum i left right) = Shape left × Shape right
    Shape (Types.Times i left right) = Shape left × Shape right
    Shape (Types.And i left right) = Shape left × Shape right
    Shape (Types.Or i left right) = Shape left × Shape right
    Shape (Types.Implies i left right) = Shape left × Shape right
    Shape (Types.Relation i sign left right) = Shape left × Shape right
    Shape (Types.Within i left right) = Shape left × Shape right

    pub ShapeRow : TypedRow → Type 0
    ShapeRow Types.End = ⊤
    ShapeRow (Types.Item item others) = Shape item × ShapeRow others

  begun_shape : (p : Place) (x : Typed) → Shape x → Shape (begun_at p x)
  begun_shape p (Types.Whole i path) h = h
  begun_shape p (Types.Listed i is_field items) h = h
  begun_shape p (Types.Constant i number) h = h
  begun_shape p (Types.Read i path per) h = h
  begun_shape p (Types.Span i low high) h = h
  begun_shape p (Types.Minus i part) h = h
  begun_shape p (Types.Not i part) h = h
  begun_shape p (Types.Sum i left right) h = h
  begun_shape p (Types.Times i left right) h = h
  begun_shape p (Types.And i left right) h = h
  begun_shape p (Types.Or i left right) h = h
  begun_shape p (Types.Implies i left right) h = h
  begun_shape p (Types.Relation i sign left right) h = h
  begun_shape p (Types.Within i left right) h = h

  item_shape : (items : TypedRow) → ShapeRow items → (n : ℕ) (x : Typed) → slice_get (items_of items) n ≡ Some x → Shape x
  item_shape Types.End k n x e = cc
  item_shape (Types.Item item others) k zero x e = let same : item ≡ x = cc in subst Shape same k.0
  item_shape (Types.Item item others) k (suc n) x e = item_shape others k.1 n x e

  some_shape : (x y : Typed) → Shape x → Some x ≡ Some y → Shape y
  some_shape x y h e = let same : x ≡ y = cc in subst Shape same h

  kind_object : (t : ℕ) (f : Form) (u : ℕ) → kind_of t f ≡ Some (ValueKind.Object u) → t ≡ u
  kind_object t (Form.Compound k) u e = cc
  kind_object t Form.Int u e = cc
  kind_object t Form.Uint u e = cc
  kind_object t Form.Float u e = cc
  kind_object t Form.Truth u e = cc
  kind_object t Form.Chars u e = cc
  kind_object t (Form.Physical None) u e = cc
  kind_object t (Form.Physical (Some x)) u e = cc
  kind_object t (Form.Enum x) u e = cc

  kind_no_phase : (t : ℕ) (f : Form) (m : Made) → kind_of t f ≡ Some (ValueKind.Phase m) → ⊥
  kind_no_phase t (Form.Compound k) m e = cc
  kind_no_phase t Form.Int m e = cc
  kind_no_phase t Form.Uint m e = cc
  kind_no_phase t Form.Float m e = cc
  kind_no_phase t Form.Truth m e = cc
  kind_no_phase t Form.Chars m e = cc
  kind_no_phase t (Form.Physical None) m e = cc
  kind_no_phase t (Form.Physical (Some x)) m e = cc
  kind_no_phase t (Form.Enum x) m e = cc

  per_narrow : (f : Form) → is_wide (field_size (per_of f)) ≡ false
  per_narrow Form.Int = refl
  per_narrow Form.Uint = refl
  per_narrow Form.Float = refl
  per_narrow Form.Truth = refl
  per_narrow Form.Chars = refl
  per_narrow (Form.Physical x) = refl
  per_narrow (Form.Enum x) = refl
  per_narrow (Form.Compound k) = refl

  module _ (fields : FieldsKnown table) (sc : Scope) (paths : PathsKnown table sc to) where
    elements_shape : (n count : ℕ) (place : Place) (k : ValueKind) (f : Form) (path : Path) → HasStep path → ShapeRow (elements_from n count (λ p. Read (info_at place k (field_size (per_of f))) p (per_of f)) path)
    elements_shape n zero place k f path h = tt
    elements_shape n (suc count) place k f path h =
        (inr (sized place k (field_size (per_of f)) (per_narrow f), λ t. index_untimed (to path).steps n (subst IsTimed (paths.later path h (Index n)) t)), elements_shape (n + 1) count place k f path h)

    -- a field that is held, where it can't be timed
    held_shape : (place : Place) (path : Path) (t : ℕ) (count : Option ℕ) → HasStep path → IsObjectAt table t (to path) → ((count ≡ None) × (is_behaviour (form table.heads t) ≡ true)) ⊎ IsThing (to path).steps
        → (x : Typed) → held_at table place path t count ≡ Some x → Shape x
    held_shape place path t None h o apart x e = by (kind_of t (form table.heads t)) refl e
      where
        untimed : (b : Bool) → has_members (form table.heads t) ≡ b → b ≡ false → ((◌≡◌ {A = Option ℕ} None None) × (is_behaviour (form table.heads t) ≡ true)) ⊎ IsThing (to path).steps → IsTimed (to path).steps → ⊥
        untimed b m n (inr g) timed = g.1 timed
        untimed b m n (inl g) timed = members (form table.heads t) (m ∙ n) g.1
          where
            members : (f : Form) → has_members f ≡ false → is_behaviour f ≡ true → ⊥
            members f p q = absurd (true≢false (sym (or_right (is_object f) (is_behaviour f) q) ∙ p))
              where
                or_right : (a b : Bool) → b ≡ true → a || b ≡ true
                or_right true b h = refl
                or_right false b h = h

        by_members : (k : ValueKind) → kind_of t (form table.heads t) ≡ Some k → (b : Bool) → has_members (form table.heads t) ≡ b
            → Some (cond b (Whole (info_at place k unit_size) path) (Read (info_at place k (field_size (per_of (form table.heads t)))) path (per_of (form table.heads t)))) ≡ Some x → Shape x
        by_members k is true m g = some_shape (Whole (info_at place k unit_size) path) x
            (h, λ u same. subst (λ z. IsObjectAt table z (to path)) (kind_object t (form table.heads t) u (is ∙ ap Some same)) o, λ p same. absurd (kind_no_phase t (form table.heads t) p (is ∙ ap Some same))) g
        by_members k is false m g = some_shape (Read (info_at place k (field_size (per_of (form table.heads t)))) path (per_of (form table.heads t))) x
            (inr (sized place k (field_size (per_of (form table.heads t))) (per_narrow (form table.heads t)), λ timed. untimed false m refl apart timed)) g

        by : (o : Option ValueKind) → kind_of t (form table.heads t) ≡ o
            → option_map (λ k. cond (has_members (form table.heads t)) (Whole (info_at place k unit_size) path) (Read (info_at place k (field_size (per_of (form table.heads t)))) path (per_of (form table.heads t)))) o ≡ Some x → Shape x
        by None is g = cc
        by (Some k) is g = by_members k is (has_members (form table.heads t)) refl g
    held_shape place path t (Some count) h o apart x e = by (kind_of t (form table.heads t)) e
      where
        by : (o : Option ValueKind)
            → option_map (λ k. Types.Listed (info_at place k unit_size) true (elements_from 0 count (λ p. Read (info_at place k (field_size (per_of (form table.heads t)))) p (per_of (form table.heads t))) path)) o ≡ Some x → Shape x
        by None g = cc
        by (Some k) g = some_shape (Types.Listed (info_at place k unit_size) true (elements_from 0 count (λ p. Read (info_at place k (field_size (per_of (form table.heads t)))) p (per_of (form table.heads t))) path)) x (elements_shape 0 count place k (form table.heads t) path h) g

    timed_shape : (place : Place) (path : Path) → IsTimed (to path).steps → Shape (duration_at place path)
    timed_shape place path h = inl (refl, h)

    is_timed_name : (name : List ℕ) → is_duration name ≡ true → name ≡ codes "duration"
    is_timed_name name h = (bytes_eq-Decides name (codes "duration")).0 h

    -- a field of an object at a path
    field_shape : (place : Place) (path : Path) (t : ℕ) (name : List ℕ) (f : TableField) → HasStep path → field_of table t name ≡ Some f → (name ≡ codes "duration" → OnlyPhases (to path).steps → ⊥)
        → (x : Typed) → held_at table place (then_name path name) f.of f.length ≡ Some x → Shape x
    field_shape place path t name f h at apart x e =
        let thing : IsThing (to (then_name path name)).steps = subst IsThing (sym (paths.later path h (Name name))) (named_thing (to path).steps name (fields.free t name f at) apart) in
        held_shape place (then_name path name) f.of f.length (step_more path (Name name) h) (inr (fields.held t name f at, thing)) (inr thing) x e

    object_shape : (place : Place) (path : Path) (t : ℕ) (name : List ℕ) → HasStep path → IsObjectAt table t (to path) → (x : Typed) → typed_meaning (member_of_object table place path t name) ≡ Some x → Shape x
    object_shape place path t name h o x e = by (field_of table t name) refl e
      where
        apart : (f : TableField) → field_of table t name ≡ Some f → IsObjectAt table t (to path) → name ≡ codes "duration" → OnlyPhases (to path).steps → ⊥
        apart f at (inl b) same only = true≢false (sym b.0 ∙ fields.untimed t name f at same)
        apart f at (inr b) same only = b.1.0 only

        timed : IsObjectAt table t (to path) → (b : Bool) → (is_duration name && is_behaviour (form table.heads t)) ≡ b → typed_meaning (duration_if place path b) ≡ Some x → Shape x
        timed q false is g = cc
        timed (inl b) true is g = some_shape (duration_at place (then_duration path)) x (timed_shape place (then_duration path) ((to path).steps, b.1, paths.later path h (Name (codes "duration")))) g
        timed (inr b) true is g = absurd (true≢false (sym (right_of (is_duration name) _ is) ∙ b.0))

        by : (q : Option TableField) → field_of table t name ≡ q
            → typed_meaning (option_map_or (λ (f : TableField). Something (held_at table place (then_name path name) f.of f.length)) q (duration_if place path (is_duration name && is_behaviour (form table.heads t)))) ≡ Some x → Shape x
        by None at g = timed o (is_duration name && is_behaviour (form table.heads t)) refl g
        by (Some f) at g = field_shape place path t name f h at (apart f at o) x g

    phase_shape : (place : Place) (path : Path) (m : Made) (name : List ℕ) → HasStep path → OnlyPhases (to path).steps → (x : Typed) → typed_meaning (member_of_phase table place path m name) ≡ Some x → Shape x
    phase_shape place path m name h o x e = by (is_duration name) refl e
      where
        made : (n : Made) → is_duration name ≡ false → typed_meaning (member_made table place path name n) ≡ Some x → Shape x
        made Made.Nothing d g = cc
        made Made.Unknown d g = cc
        made (Made.Makes t) d g = by_field (field_of table t name) refl g
          where
            by_field : (q : Option TableField) → field_of table t name ≡ q
                → typed_meaning (option_map_or (λ (f : TableField). Something (held_at table place (then_name path name) f.of f.length)) q (duration_if place path (is_duration name && is_behaviour (form table.heads t)))) ≡ Some x → Shape x
            by_field None at k = no_duration (is_duration name) d k
              where
                no_duration : (b : Bool) → b ≡ false → typed_meaning (duration_if place path (b && is_behaviour (form table.heads t))) ≡ Some x → Shape x
                no_duration true p l = absurd (true≢false p)
                no_duration false p l = cc
            by_field (Some f) at k = field_shape place path t name f h at (λ same only. absurd (true≢false (sym ((bytes_eq-Decides name (codes "duration")).1 same) ∙ d))) x k

        by : (b : Bool) → is_duration name ≡ b → typed_meaning (cond b (duration_if place path true) (member_made table place path name m)) ≡ Some x → Shape x
        by true d g = some_shape (duration_at place (then_duration path)) x (timed_shape place (then_duration path) ((to path).steps, o, paths.later path h (Name (codes "duration")))) g
        by false d g = made m d g

    after_shape : (h : Typed) → Shape h → (name : List ℕ) (x : Typed) → typed_meaning (after_point table h name) ≡ Some x → Shape x
    after_shape (Types.Whole i path) s name x e = by i.kind refl e
      where
        by : (v : ValueKind) → i.kind ≡ v → typed_meaning (member_of_whole table i.place path v name) ≡ Some x → Shape x
        by (ValueKind.Object t) is g = object_shape i.place path t name s.0 (s.1 t is) x g
        by (ValueKind.Phase m) is g = phase_shape i.place path m name s.0 (s.2 m is) x g
        by ValueKind.Truth is g = cc
        by (ValueKind.Number q) is g = cc
        by (ValueKind.Member q) is g = cc
        by ValueKind.Chars is g = cc
    after_shape (Types.Listed i is_field items) s name x e = cc
    after_shape (Types.Constant i number) s name x e = cc
    after_shape (Types.Read i path per) s name x e = cc
    after_shape (Types.Span i low high) s name x e = cc
    after_shape (Types.Minus i part) s name x e = cc
    after_shape (Types.Not i part) s name x e = cc
    after_shape (Types.Sum i left right) s name x e = cc
    after_shape (Types.Times i left right) s name x e = cc
    after_shape (Types.And i left right) s name x e = cc
    after_shape (Types.Or i left right) s name x e = cc
    after_shape (Types.Implies i left right) s name x e = cc
    after_shape (Types.Relation i sign left right) s name x e = cc
    after_shape (Types.Within i left right) s name x e = cc

    root_step : (name : List ℕ) → HasStep (then_name root name)
    root_step name = (Name name, [], refl)

    unless_some : (rows : List FaultRow) (o : Option Typed) (x : Typed) → unless rows o ≡ Some x → o ≡ Some x
    unless_some rows o x e = by (any_holds rows) e
      where
        by : (b : Bool) → cond b None o ≡ Some x → o ≡ Some x
        by true g = cc
        by false g = g

    name_shape : (i : Ident) (x : Typed) → typed table sc (Tree.Name i) ≡ Some x → Shape x
    name_shape i x e = by_field (field_of table sc.holder i.text) refl (unless_some (name_rows table sc i) (typed_meaning (meaning table sc i)) x e)
      where
        enums : (es : List ℕ) → typed_meaning (member_meant table i es) ≡ Some x → Shape x
        enums [] g = cc
        enums (a ∷ []) g = one (enum_number table.heads a i.text) g
          where
            one : (o : Option ℕ) → option_map (member_at i.place a) o ≡ Some x → Shape x
            one None k = cc
            one (Some n) k = some_shape (member_at i.place a n) x tt k
        enums (a ∷ b ∷ es) g = cc

        by_duration : (b : Bool) → (is_duration i.text && is_behaviour (form table.heads sc.holder)) ≡ b → typed_meaning (meaning_by_duration table i b) ≡ Some x → Shape x
        by_duration true is g = some_shape (duration_at i.place (then_duration root)) x (timed_shape i.place (then_duration root) (paths.duration (right_of (is_duration i.text) _ is))) g
        by_duration false is g = enums (enums_with table.heads i.text) g

        by_label : (o : Option Label) → label_named sc i.text ≡ o → typed_meaning (meaning_by_label table sc i o) ≡ Some x → Shape x
        by_label None is g = by_duration (is_duration i.text && is_behaviour (form table.heads sc.holder)) refl g
        by_label (Some l) is g =
            let k = paths.label l (found_in (λ (l : Label). bytes_eq l.name i.text) sc.labels l is).0 in
            some_shape (label_at i.place l) x (k.0, λ t same. absurd (phase_object same), λ m same. k.1) g
          where
            phase_object : {m : Made} {t : ℕ} → ValueKind.Phase m ≡ ValueKind.Object t → ⊥
            phase_object q = cc

        by_field : (o : Option TableField) → field_of table sc.holder i.text ≡ o → typed_meaning (meaning_by_field table sc i o) ≡ Some x → Shape x
        by_field None is g = by_label (label_named sc i.text) refl g
        by_field (Some f) is g =
            let thing = paths.field i.text f is in
            held_shape i.place (then_name root i.text) f.of f.length (root_step i.text) (inr (fields.held sc.holder i.text f is, thing)) (inr thing) x g

    it_shape : (place : Place) (x : Typed) → typed table sc (Tree.It place) ≡ Some x → Shape x
    it_shape place x e = by sc.it refl e
      where
        by : (o : Option It) → sc.it ≡ o → option_and_then (it_at table place) o ≡ Some x → Shape x
        by None is g = cc
        by (Some It.Unresolved) is g = cc
        by (Some (It.Of t n)) is g =
            let k = paths.it t n is in
            held_shape place (then_name root (codes "it")) t n (root_step (codes "it")) k.0 (apart k.0 k.1) x g
          where
            apart : IsObjectAt table t (to (then_name root (codes "it"))) → (n ≡ None) ⊎ IsThing (to (then_name root (codes "it"))).steps → ((n ≡ None) × (is_behaviour (form table.heads t) ≡ true)) ⊎ IsThing (to (then_name root (codes "it"))).steps
            apart (inl b) (inl none) = inl (none, b.0)
            apart (inr b) q = inr b.1
            apart (inl b) (inr thing) = inr thing

    actor_shape : (place : Place) (x : Typed) → typed table sc (Tree.Actor place) ≡ Some x → Shape x
    actor_shape place x e = by (owner table.heads sc.holder) refl e
      where
        by : (o : Option ℕ) → owner table.heads sc.holder ≡ o → option_map (λ o. Whole (info_at place (ValueKind.Object o) unit_size) (then_name root (codes "actor"))) o ≡ Some x → Shape x
        by None is g = cc
        by (Some o) is g =
            let k = paths.actor o is in
            some_shape (Whole (info_at place (ValueKind.Object o) unit_size) (then_name root (codes "actor"))) x
            (root_step (codes "actor"), λ t same. let t_is : o ≡ t = cc in subst (λ z. IsObjectAt table z (to (then_name root (codes "actor")))) t_is (inr (k.0, k.1)), λ m same. absurd (object_phase same)) g
          where
            object_phase : {m : Made} {t : ℕ} → ValueKind.Object t ≡ ValueKind.Phase m → ⊥
            object_phase q = cc

    element_shape : (n : ℕ) (t x : Typed) → Shape t → element n t ≡ Some x → Shape x
    element_shape n (Types.Listed i true items) x g h = item_shape items g n x h
    element_shape n (Types.Listed i false items) x g h = cc
    element_shape n (Types.Constant i number) x g h = cc
    element_shape n (Types.Read i path per) x g h = cc
    element_shape n (Types.Whole i path) x g h = cc
    element_shape n (Types.Span i low high) x g h = cc
    element_shape n (Types.Minus i part) x g h = cc
    element_shape n (Types.Not i part) x g h = cc
    element_shape n (Types.Sum i left right) x g h = cc
    element_shape n (Types.Times i left right) x g h = cc
    element_shape n (Types.And i left right) x g h = cc
    element_shape n (Types.Or i left right) x g h = cc
    element_shape n (Types.Implies i left right) x g h = cc
    element_shape n (Types.Relation i sign left right) x g h = cc
    element_shape n (Types.Within i left right) x g h = cc

    index_shape : (head : Option Typed) (index : ExprTree) → ((t : Typed) → head ≡ Some t → Shape t) → (x : Typed) → index_typed head index ≡ Some x → Shape x
    index_shape head index g x h = by_index (index_of index) h
      where
        by_element : (t : Typed) → Shape t → (n : ℕ) (o : Option Typed) → element n t ≡ o → option_map (begun_at (place_of t)) o ≡ Some x → Shape x
        by_element t s n None is k = cc
        by_element t s n (Some y) is k = some_shape (begun_at (place_of t) y) x (begun_shape (place_of t) y (element_shape n t y s is)) k

        by_head : (n : ℕ) (o : Option Typed) → head ≡ o → option_and_then (λ t. option_map (begun_at (place_of t)) (element n t)) o ≡ Some x → Shape x
        by_head n None is k = cc
        by_head n (Some t) is k = by_element t (g t is) n (element n t) refl k

        by_index : (o : Option ℕ) → option_and_then (λ n. option_and_then (λ t. option_map (begun_at (place_of t)) (element n t)) head) o ≡ Some x → Shape x
        by_index None k = cc
        by_index (Some n) k = by_head n head refl k

    dot_shape : (head : Option Typed) (i : Ident) → ((t : Typed) → head ≡ Some t → Shape t) → (x : Typed) → option_and_then (λ h. typed_meaning (after_point table h i.text)) head ≡ Some x → Shape x
    dot_shape None i g x h = cc
    dot_shape (Some t) i g x h = after_shape t (g t refl) i.text x h

    group_shape : (p : Place) (a : Option Typed) → ((t : Typed) → a ≡ Some t → Shape t) → (x : Typed) → group_typed p a ≡ Some x → Shape x
    group_shape p None g x h = cc
    group_shape p (Some t) g x h = some_shape (begun_at p t) x (begun_shape p t (g t refl)) h

    physical_shape : (d : Digits) (name : List ℕ) (x : Typed) → physical_typed table d name ≡ Some x → Shape x
    physical_shape d name x h = by_unit (unit table name) h
      where
        by_count : (e : Exponents) (o : Option ℤ) → option_map (λ n. constant_at d.place (ValueKind.Number e) (lowest n 1000)) o ≡ Some x → Shape x
        by_count e None k = cc
        by_count e (Some n) k = some_shape (constant_at d.place (ValueKind.Number e) (lowest n 1000)) x tt k

        by_exponents : (u : TableUnit) (o : Option Exponents) → option_and_then (λ e. option_map (λ n. constant_at d.place (ValueKind.Number e) (lowest n 1000)) (count_in d u)) o ≡ Some x → Shape x
        by_exponents u None k = cc
        by_exponents u (Some e) k = by_count e (count_in d u) k

        by_unit : (o : Option TableUnit) → option_and_then (λ (u : TableUnit). option_and_then (λ e. option_map (λ n. constant_at d.place (ValueKind.Number e) (lowest n 1000)) (count_in d u)) u.exponents) o ≡ Some x → Shape x
        by_unit None k = cc
        by_unit (Some u) k = by_exponents u u.exponents k

    enum_shape : (of member : Ident) (x : Typed) → typed table sc (Tree.EnumName of member) ≡ Some x → Shape x
    enum_shape of member x h = by (enum_named table of) h
      where
        one : (e : ℕ) (o : Option ℕ) → option_map (member_at of.place e) o ≡ Some x → Shape x
        one e None k = cc
        one e (Some n) k = some_shape (member_at of.place e n) x tt k

        by : (o : Option ℕ) → option_and_then (λ e. option_map (member_at of.place e) (enum_number table.heads e member.text)) o ≡ Some x → Shape x
        by None k = cc
        by (Some e) k = one e (enum_number table.heads e member.text) k

    sum_shape : (op : Operator) (x y : Typed) → Shape x → Shape y → Shape (sum_of op x y)
    sum_shape Operator.Dash x y p q = (p, q)
    sum_shape Operator.Or x y p q = (p, q)
    sum_shape Operator.And x y p q = (p, q)
    sum_shape Operator.Plus x y p q = (p, q)
    sum_shape Operator.Star x y p q = (p, q)
    sum_shape Operator.Slash x y p q = (p, q)

    relation_shape : (p : Place) (sign : RelationSign) (a b : Option Typed) → ((t : Typed) → a ≡ Some t → Shape t) → ((t : Typed) → b ≡ Some t → Shape t) → (x : Typed) → relation_typed p sign a b ≡ Some x → Shape x
    relation_shape p sign a b f g x h = by (compare_of sign) h
      where
        by : (c : Option Compare) → option_map_or (λ c. comparison_typed p c a b) c (within_typed p a b) ≡ Some x → Shape x
        by (Some c) e = two_made Shape (comparison_rows p c) (λ x y. Types.Relation (truth_at (place_of x)) c x y) a b (λ x y i j n. (f x i, g y j)) x e
        by None e = two_made Shape (within_rows p) (λ x y. Types.Within (truth_at (place_of x)) x y) a b (λ x y i j n. (f x i, g y j)) x e

    factor_shape : (p : Place) (op : Operator) (a b : Option Typed) → ((t : Typed) → a ≡ Some t → Shape t) → ((t : Typed) → b ≡ Some t → Shape t) → (x : Typed) → factor_typed p op a b ≡ Some x → Shape x
    factor_shape p op a b f g x h = by op h
      where
        by : (o : Operator) → factor_typed p o a b ≡ Some x → Shape x
        by Operator.Slash e = two_made Shape (quotient_rows p) (λ x y. product_of x (reciprocal_of y)) a b (λ x y i j n. (f x i, tt)) x e
        by Operator.Star e = two_made Shape (product_rows p) product_of a b (λ x y i j n. (f x i, g y j)) x e
        by Operator.Or e = two_made Shape (product_rows p) product_of a b (λ x y i j n. (f x i, g y j)) x e
        by Operator.And e = two_made Shape (product_rows p) product_of a b (λ x y i j n. (f x i, g y j)) x e
        by Operator.Plus e = two_made Shape (product_rows p) product_of a b (λ x y i j n. (f x i, g y j)) x e
        by Operator.Dash e = two_made Shape (product_rows p) product_of a b (λ x y i j n. (f x i, g y j)) x e

    span_shape : (p : Place) (a b : Option Typed) → ((t : Typed) → a ≡ Some t → Shape t) → ((t : Typed) → b ≡ Some t → Shape t) → (x : Typed) → span_typed p a b ≡ Some x → Shape x
    span_shape p a b f g x h = two_made Shape span_rows (λ x y. Types.Span (info_at p (kind x) unit_size) x y) a b (λ x y i j n. (f x i, g y j)) x h

    item_row_shape : (a : Option Typed) (row : Option TypedRow) → ((t : Typed) → a ≡ Some t → Shape t) → ((r : TypedRow) → row ≡ Some r → ShapeRow r) → (r : TypedRow) → item_typed a row ≡ Some r → ShapeRow r
    item_row_shape a row f g r h = by (unless (part_rows a) a) refl h
      where
        by_row : (x : Typed) → Shape x → (o : Option TypedRow) → row ≡ o → option_map (λ others. Types.Item x others) o ≡ Some r → ShapeRow r
        by_row x s None is e = cc
        by_row x s (Some others) is e = let same : Types.Item x others ≡ r = cc in subst ShapeRow same (s, g others is)

        by : (o : Option Typed) → unless (part_rows a) a ≡ o → option_and_then (λ x. option_map (λ others. Types.Item x others) row) o ≡ Some r → ShapeRow r
        by None is e = cc
        by (Some x) is e = by_row x (f x (unless_some (part_rows a) a x is)) row refl e

    mutual
      pub typed_shape : (e : ExprTree) (x : Typed) → typed table sc e ≡ Some x → Shape x
      typed_shape (Tree.Implies p a b) x h = two_made Shape (logic_rows p) (λ x y. Types.Implies (truth_at (place_of x)) x y) (typed table sc a) (typed table sc b) (λ x y i j n. (typed_shape a x i, typed_shape b y j)) x h
      typed_shape (Tree.Or p op a b) x h = two_made Shape (logic_rows p) (λ x y. Types.Or (truth_at (place_of x)) x y) (typed table sc a) (typed table sc b) (λ x y i j n. (typed_shape a x i, typed_shape b y j)) x h
      typed_shape (Tree.And p op a b) x h = two_made Shape (logic_rows p) (λ x y. Types.And (truth_at (place_of x)) x y) (typed table sc a) (typed table sc b) (λ x y i j n. (typed_shape a x i, typed_shape b y j)) x h
      typed_shape (Tree.Not p a) x h = one_made Shape (not_rows p) (λ x. Types.Not (truth_at p) x) (typed table sc a) (λ x i n. typed_shape a x i) x h
      typed_shape (Tree.Relation p sign a b) x h = relation_shape p sign (typed table sc a) (typed table sc b) (typed_shape a) (typed_shape b) x h
      typed_shape (Tree.Sum p op a b) x h = two_made Shape (sum_rows p) (sum_of op) (typed table sc a) (typed table sc b) (λ x y i j n. sum_shape op x y (typed_shape a x i) (typed_shape b y j)) x h
      typed_shape (Tree.Product p op a b) x h = factor_shape p op (typed table sc a) (typed table sc b) (typed_shape a) (typed_shape b) x h
      typed_shape (Tree.Minus p a) x h = one_made Shape (minus_rows p) (λ x. Types.Minus (record (info x) { place = p }) x) (typed table sc a) (λ x i n. typed_shape a x i) x h
      typed_shape (Tree.Dot head i) x h = dot_shape (typed table sc head) i (typed_shape head) x h
      typed_shape (Tree.Index p head index) x h = index_shape (typed table sc head) index (typed_shape head) x h
      typed_shape (Tree.Number d) x h = some_shape (constant_at d.place plain (digits_number d)) x tt (unless_some (number_rows d) (Some (constant_at d.place plain (digits_number d))) x h)
      typed_shape (Tree.Physical d name) x h = physical_shape d name x h
      typed_shape (Tree.Chars p text) x h = some_shape (constant_at p ValueKind.Chars (whole (pos (unwrap_or (first_place (bytes_eq text) 0 table.texts) 0)))) x tt h
      typed_shape (Tree.Truth p value) x h = some_shape (Types.Constant (info_at p ValueKind.Truth unit_size) (whole (cond value (pos 1) (pos 0)))) x tt h
      typed_shape (Tree.It p) x h = it_shape p x h
      typed_shape (Tree.Actor p) x h = actor_shape p x h
      typed_shape (Tree.Name i) x h = name_shape i x h
      typed_shape (Tree.EnumName of member) x h = enum_shape of member x h
      typed_shape (Tree.Group p a) x h = group_shape p (typed table sc a) (typed_shape a) x h
      typed_shape (Tree.Span p a b) x h = span_shape p (typed table sc a) (typed table sc b) (typed_shape a) (typed_shape b) x h
      typed_shape (Tree.Listed p items) x h = by (typed_row table sc items) (row_shape items) h
        where
          by : (o : Option TypedRow) → ((r : TypedRow) → o ≡ Some r → ShapeRow r) → list_typed p o ≡ Some x → Shape x
          by None f e = cc
          by (Some r) f e = some_shape (Types.Listed (info_at p (row_kind r) unit_size) false r) x (f r refl) e
      typed_shape (Tree.RangeCall p a b) x h = span_shape p (typed table sc a) (typed table sc b) (typed_shape a) (typed_shape b) x h
      typed_shape (Tree.Start a) x h = typed_shape a x h

      row_shape : (row : ExprRow) (r : TypedRow) → typed_row table sc row ≡ Some r → ShapeRow r
      row_shape Tree.End r h = let same : Types.End ≡ r = cc in subst ShapeRow same tt
      row_shape (Tree.Item a others) r h = item_row_shape (typed table sc a) (typed_row table sc others) (typed_shape a) (row_shape others) r h

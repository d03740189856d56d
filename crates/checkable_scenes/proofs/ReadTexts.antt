-- The reads of all constraints, modifiers and bindings of an expansion.
use Rattle.std.proofs.Common.{◌≡◌, ℕ, ◌+◌, refl, sym, ap, subst, ◌⊎◌, inl, inr, List, [], ◌∷◌, ◌++◌, Bool, true, false, Option, Some, None, map}
use Rattle.std.specs.Prelude.{⊤, flat_map, filter_map, find, option_to_list, option_map, is_some, reverse}
use Rattle.std.specs.Option.{option_map_or}
use Rattle.osc_base.specs.declared.fault.Place.{Place}
use Rattle.osc_base.specs.declared.path.Path.{Path}
use Rattle.osc_base.specs.Paths.{then_duration}
use Rattle.expr_eval.specs.dsl_tree.declared.parts.Ident.{Ident}
use Rattle.expr_eval.specs.dsl_tree.declared.compounds.HeirCondition.{HeirCondition}
use Rattle.expr_eval.specs.dsl_tree.ExprTree.{ExprTree, items_of}
use Rattle.expr_eval.specs.dsl_tree.PhaseTree.{RuleTree, ArgumentTree, PartTree}
use Rattle.expr_eval.specs.dsl_tree.FileTree.{MemberTree}
use Rattle.expr_eval.specs.type_heads.Table.{Table, bases}
use Rattle.expr_eval.specs.type_heads.Types.{Types, Member, Field}
use Rattle.expr_eval.specs.type_heads.Members.{members, fields_declared, fields, field, field_type, heir_condition}
use Rattle.expr_eval.specs.expr_nodes.Typed as Typing
use Rattle.expr_eval.specs.expr_nodes.Typed.{Typed, TypedRow, moved, moved_row}
use Rattle.expr_eval.specs.expr_nodes.Scope.{It}
use Rattle.expr_eval.specs.expr_nodes.Names.{duration_at}
use Rattle.expr_eval.specs.expr_nodes.Typing.{typed, first}
use Rattle.run_values.specs.composition.declared.guard.Guard.{Guard}
use Rattle.run_values.specs.composition.Calls.{Assigned, assigned, scope_at}
use Rattle.run_values.specs.composition.Givens.{Here, Given, from_root, typed_here, read_at, guards_under, FieldHere, field_here, given_rule, given_initial, given_initials, given_elements, equals, element, value_tree, given_condition, given_conditions, given_field, given_member, own_givens, required, given_required}
use Rattle.run_values.specs.composition.Expansion.{Calling, here_in, given_argument, part_rule, of_arguments, given_duration, parameter}
use Rattle.run_values.proofs.of_field_flatten.Tests.{In, in_either, map_in, flat_map_in, found_in}
use Rattle.scene_laws.proofs.Picked.{of_option}
use Rattle.checkable_scenes.proofs.PhaseSteps.{OnlyPhases}
use Rattle.checkable_scenes.proofs.TypedShapes.{FitRead, FieldsKnown, PathsKnown, Shape, ShapeRow, typed_shape}
use Rattle.checkable_scenes.proofs.EachText.{call_givens, comp_givens}

-- ---- reads of absolute paths

abbrev mutual
  pub ReadsFit : Typed → Type 0
  ReadsFit (Typing.Whole i path) = ⊤
  ReadsFit (Typing.Read i path per) = FitRead i path per
  ReadsFit (Typing.Listed i is_field items) = RowFits items
  ReadsFit (Typing.Constant i number) = ⊤
  ReadsFit (Typing.Span i low high) = ReadsFit low × ReadsFit high
  ReadsFit (Typing.Minus i part) = ReadsFit part
  ReadsFit (Typing.Not i part) = ReadsFit part
  ReadsFit (Typing.Sum i left right) = ReadsFit left × ReadsFit right
  ReadsFit (Typing.Times i left right) = ReadsFit left × ReadsFit right
  ReadsFit (Typing.And i left right) = ReadsFit left × ReadsFit right
  ReadsFit (Typing.Or i left right) = ReadsFit left × ReadsFit right
  ReadsFit (Typing.Implies i left right) = ReadsFit left × ReadsFit right
  ReadsFit (Typing.Relation i sign left right) = ReadsFit left × ReadsFit right
  ReadsFit (Typing.Within i left right) = ReadsFit left × ReadsFit right

  pub RowFits : TypedRow → Type 0
  RowFits Typing.End = ⊤
  RowFits (Typing.Item item others) = ReadsFit item × RowFits others

module _ (table : Table) (to : Path → Path) where
  mutual
    shape_fits : (x : Typed) → Shape table to x → ReadsFit (moved to x)
    shape_fits (Typing.Whole i path) h = tt
    shape_fits (Typing.Read i path per) h = h
    shape_fits (Typing.Listed i is_field items) h = shape_row_fits items h
    shape_fits (Typing.Constant i number) h = tt
    shape_fits (Typing.Span i low high) h = (shape_fits low h.0, shape_fits high h.1)
    shape_fits (Typing.Minus i part) h = shape_fits part h
    shape_fits (Typing.Not i part) h = shape_fits part h
    shape_fits (Typing.Sum i left right) h = (shape_fits left h.0, shape_fits right h.1)
    shape_fits (Typing.Times i left right) h = (shape_fits left h.0, shape_fits right h.1)
    shape_fits (Typing.And i left right) h = (shape_fits left h.0, shape_fits right h.1)
    shape_fits (Typing.Or i left right) h = (shape_fits left h.0, shape_fits right h.1)
    shape_fits (Typing.Implies i left right) h = (shape_fits left h.0, shape_fits right h.1)
    shape_fits (Typing.Relation i sign left right) h = (shape_fits left h.0, shape_fits right h.1)
    shape_fits (Typing.Within i left right) h = (shape_fits left h.0, shape_fits right h.1)

    shape_row_fits : (r : TypedRow) → ShapeRow table to r → RowFits (moved_row to r)
    shape_row_fits Typing.End h = tt
    shape_row_fits (Typing.Item item others) h = (shape_fits item h.0, shape_row_fits others h.1)

-- a text's typed form
pub here_fits : (ts : Types) → FieldsKnown ts.table → (here : Here) → PathsKnown ts.table here.scope (from_root here) → (e : ExprTree) (y : Typed) → typed_here ts here e ≡ Some y → ReadsFit y
here_fits ts fields here known e y h = by (typed ts.table here.scope e) refl h
  where
    by : (o : Option Typed) → typed ts.table here.scope e ≡ o → option_map (moved (from_root here)) o ≡ Some y → ReadsFit y
    by None is k = cc
    by (Some x) is k =
        let same : moved (from_root here) x ≡ y = cc in
        subst ReadsFit same (shape_fits ts.table (from_root here) x (typed_shape ts.table (from_root here) fields here.scope known e x is))

-- ---- which texts constraints are of

-- a constraint's expression is that of a text
abbrev pub TypedBy : Types → Here → Given → Type 0
TypedBy ts here g = (y : Typed) → g.typed ≡ Some y → (e : ExprTree) × (typed_here ts here e ≡ Some y)

rule_of : (ts : Types) (h : Here) (object : Path) (under : List Guard) (r : RuleTree) → TypedBy ts h (given_rule ts h object under r)
rule_of ts h object under (RuleTree.Keep place kind e) = λ y q. (e, q)
rule_of ts h object under (RuleTree.Remove place path) = λ y q. cc

module _ (ts : Types) (object : Path) (t : ℕ) (f : Field) where
  abbrev at : FieldHere
  at = field_here ts object t f

  elements_of : (n : ℕ) (values : List ExprTree) (g : Given) → In g (given_elements ts at n values) → TypedBy ts (field_here ts object t f).here g
  elements_of n [] g i = absurd i
  elements_of n (value ∷ values) g (inl e) = subst (TypedBy ts (field_here ts object t f).here) (sym e) (λ y q. (equals (element (first value) n) value, q))
  elements_of n (value ∷ values) g (inr i) = elements_of (n + 1) values g i

  initial_typed : (e : ExprTree) (g : Given) → In g (given_initial ts at (ExprTree.It (first e)) e ∷ []) → TypedBy ts (field_here ts object t f).here g
  initial_typed e g (inl same) = subst (TypedBy ts (field_here ts object t f).here) (sym same) (λ y q. (equals (ExprTree.It (first e)) e, q))
  initial_typed e g (inr i) = absurd i

  condition_typed : (place : Place) (c : HeirCondition) (looked_at : Field) → TypedBy ts (field_here ts object t f).here (given_condition ts at place c looked_at)
  condition_typed place c looked_at = λ y q. (equals (ExprTree.Dot (ExprTree.It place) c.field) (value_tree looked_at.tree.of c.value), q)

  initials_of : (list : Bool) (e : ExprTree) (g : Given) → In g (given_initials ts at list e) → TypedBy ts (field_here ts object t f).here g
  initials_of true (ExprTree.Listed place items) g i = elements_of 0 (items_of items) g i
  initials_of true (ExprTree.Implies p l r) g i = initial_typed (ExprTree.Implies p l r) g i
  initials_of true (ExprTree.Or p o l r) g i = initial_typed (ExprTree.Or p o l r) g i
  initials_of true (ExprTree.And p o l r) g i = initial_typed (ExprTree.And p o l r) g i
  initials_of true (ExprTree.Not p x) g i = initial_typed (ExprTree.Not p x) g i
  initials_of true (ExprTree.Relation p s l r) g i = initial_typed (ExprTree.Relation p s l r) g i
  initials_of true (ExprTree.Sum p o l r) g i = initial_typed (ExprTree.Sum p o l r) g i
  initials_of true (ExprTree.Product p o l r) g i = initial_typed (ExprTree.Product p o l r) g i
  initials_of true (ExprTree.Minus p x) g i = initial_typed (ExprTree.Minus p x) g i
  initials_of true (ExprTree.Dot h n) g i = initial_typed (ExprTree.Dot h n) g i
  initials_of true (ExprTree.Index p h n) g i = initial_typed (ExprTree.Index p h n) g i
  initials_of true (ExprTree.Number d) g i = initial_typed (ExprTree.Number d) g i
  initials_of true (ExprTree.Physical d u) g i = initial_typed (ExprTree.Physical d u) g i
  initials_of true (ExprTree.Chars p x) g i = initial_typed (ExprTree.Chars p x) g i
  initials_of true (ExprTree.Truth p v) g i = initial_typed (ExprTree.Truth p v) g i
  initials_of true (ExprTree.It p) g i = initial_typed (ExprTree.It p) g i
  initials_of true (ExprTree.Actor p) g i = initial_typed (ExprTree.Actor p) g i
  initials_of true (ExprTree.Name n) g i = initial_typed (ExprTree.Name n) g i
  initials_of true (ExprTree.EnumName e m) g i = initial_typed (ExprTree.EnumName e m) g i
  initials_of true (ExprTree.Group p x) g i = initial_typed (ExprTree.Group p x) g i
  initials_of true (ExprTree.Span p l h) g i = initial_typed (ExprTree.Span p l h) g i
  initials_of true (ExprTree.RangeCall p l h) g i = initial_typed (ExprTree.RangeCall p l h) g i
  initials_of true (ExprTree.Start x) g i = initial_typed (ExprTree.Start x) g i
  initials_of false e g i = initial_typed e g i

  conditions_of : (place : Place) (u : ℕ) (g : Given) → In g (given_conditions ts at place u) → TypedBy ts (field_here ts object t f).here g
  conditions_of place u g i =
      let c = flat_map_in (λ (c : HeirCondition). map (given_condition ts at place c) (option_to_list (field ts u c.field.text))) (filter_map (heir_condition ts.bodies) (reverse (u ∷ bases ts.table.heads u))) g i in
      let m = map_in (given_condition ts at place c.0) (option_to_list (field ts u c.0.field.text)) g c.2 in
      subst (TypedBy ts (field_here ts object t f).here) (sym m.2) (condition_typed place c.0 m.0)

  pub field_given_typed : (g : Given) → In g (given_field ts object t f) → TypedBy ts (field_here ts object t f).here g
  field_given_typed g i =
      let first = flat_map (given_conditions ts at f.tree.of.place) (option_to_list (field_type ts f)) in
      let second = map (given_rule ts at.here object at.under) f.tree.rules in
      let third = flat_map (given_initials ts at (option_map_or (λ (place : Place). true) f.tree.list false)) (option_to_list f.tree.initial) in
      elim (in_either g (first ++ second) third i) as (λ _. TypedBy ts (field_here ts object t f).here g) [
        | inl j ↦ elim (in_either g first second j) as (λ _. TypedBy ts (field_here ts object t f).here g) [
          | inl l ↦ let m = flat_map_in (given_conditions ts at f.tree.of.place) (option_to_list (field_type ts f)) g l in conditions_of f.tree.of.place m.0 g m.2
          | inr l ↦ let m = map_in (given_rule ts at.here object at.under) f.tree.rules g l in subst (TypedBy ts (field_here ts object t f).here) (sym m.2) (rule_of ts at.here object at.under m.0)
        ]
        | inr j ↦ let m = flat_map_in (given_initials ts at (option_map_or (λ (place : Place). true) f.tree.list false)) (option_to_list f.tree.initial) g j in initials_of (option_map_or (λ (place : Place). true) f.tree.list false) m.0 g m.2
      ]

-- a constraint of an object is a text of a field or of a rule
pub own_given_typed : (ts : Types) (object : Path) (t : ℕ) (g : Given) → In g (own_givens ts object t)
    → (m : Member) × In m (members ts t) × (((f : Field) × (f.holder ≡ m.holder) × In f (fields_declared m m.written.member) × TypedBy ts (field_here ts object t f).here g) ⊎ TypedBy ts (record { object = object; it = object; scope = scope_at ts m.holder None [] }) g)
own_given_typed ts object t g i =
    let m = flat_map_in (λ (m : Member). given_member ts object t m m.written.member) (members ts t) g i in
    (m.0, m.1, by m.0 m.0.written.member m.2)
  where
    by : (m : Member) (tree : MemberTree) → In g (given_member ts object t m tree)
        → ((f : Field) × (f.holder ≡ m.holder) × In f (fields_declared m tree) × TypedBy ts (field_here ts object t f).here g) ⊎ TypedBy ts (record { object = object; it = object; scope = scope_at ts m.holder None [] }) g
    by m (MemberTree.Field x) l =
        let f = flat_map_in (given_field ts object t) (fields_declared m (MemberTree.Field x)) g l in
        let n = map_in (λ (i : Ident). record { name = i; tree = x; holder = m.holder; under = m.under }) x.names f.0 f.1 in
        inl (f.0, ap (λ (z : Field). z.holder) n.2, f.1, field_given_typed ts object t f.0 g f.2)
    by m (MemberTree.Rule r) (inl e) = inr (subst (TypedBy ts (record { object = object; it = object; scope = scope_at ts m.holder None [] })) (sym e) (rule_of ts (record { object = object; it = object; scope = scope_at ts m.holder None [] }) object (guards_under ts object t m.under) r))
    by m (MemberTree.Rule r) (inr l) = absurd l
    by m (MemberTree.Do place phase) l = absurd l

required_fits : (p : Place) (l r : Typed) → ReadsFit l → ReadsFit r → ReadsFit (required p l r)
required_fits p l (Typing.Span i low high) f g = (f, g)
required_fits p l (Typing.Whole i path) f g = (f, g)
required_fits p l (Typing.Read i path per) f g = (f, g)
required_fits p l (Typing.Listed i is_field items) f g = (f, g)
required_fits p l (Typing.Constant i number) f g = (f, g)
required_fits p l (Typing.Minus i part) f g = (f, g)
required_fits p l (Typing.Not i part) f g = (f, g)
required_fits p l (Typing.Sum i left right) f g = (f, g)
required_fits p l (Typing.Times i left right) f g = (f, g)
required_fits p l (Typing.And i left right) f g = (f, g)
required_fits p l (Typing.Or i left right) f g = (f, g)
required_fits p l (Typing.Implies i left right) f g = (f, g)
required_fits p l (Typing.Relation i sign left right) f g = (f, g)
required_fits p l (Typing.Within i left right) f g = (f, g)

-- the constraints of a phase
module _ (ts : Types) (fields : FieldsKnown ts.table) (call : Calling) (phases : OnlyPhases call.path.steps) (bare : PathsKnown ts.table (here_in ts call None).scope (from_root (here_in ts call None))) where
  abbrev GivenFits : Given → Type 0
  GivenFits g = (y : Typed) → g.typed ≡ Some y → ReadsFit y

  given_fits : (here : Here) → PathsKnown ts.table here.scope (from_root here) → (l : Typed) → ReadsFit l → (value : ExprTree) → GivenFits (given_required ts here call.path (Some l) value)
  given_fits here known l f value y h = by (typed_here ts here value) refl h
    where
      by : (o : Option Typed) → typed_here ts here value ≡ o → option_map (required (first value) l) o ≡ Some y → ReadsFit y
      by None is k = cc
      by (Some r) is k = let same : required (first value) l r ≡ y = cc in subst ReadsFit same (required_fits (first value) l r f (here_fits ts fields here known value r is))

  pub duration_fits : (value : ExprTree) → GivenFits (given_duration ts call value)
  duration_fits value = given_fits (here_in ts call None) bare (duration_at (first value) (then_duration call.path)) (inl (refl, (call.path.steps, phases, refl))) value

  pub comp_fits : (arguments : List ArgumentTree) (g : Given) → In g (comp_givens ts call arguments) → GivenFits g
  comp_fits arguments g i = let m = map_in (given_duration ts call) _ g i in subst GivenFits (sym m.2) (duration_fits m.0)

  module _ (of : ℕ) (known : PathsKnown ts.table (here_in ts call (Some (It.Of of None))).scope (from_root (here_in ts call (Some (It.Of of None))))) where
    abbrev here : Here
    here = here_in ts call (Some (It.Of of None))

    arguments_fit : (n : ℕ) (arguments : List ArgumentTree) (g : Given) → In g (of_arguments ts of (given_argument ts call here) n arguments) → GivenFits g
    arguments_fit n [] g i = absurd i
    arguments_fit n (a ∷ others) g i =
        elim (in_either g (given_argument ts call here a.value (assigned ts of n a.name)) (of_arguments ts of (given_argument ts call here) (n + 1) others) i) as (λ _. GivenFits g) [
          | inl j ↦ by (assigned ts of n a.name) j
          | inr j ↦ arguments_fit (n + 1) others g j
        ]
      where
        left : (e : ExprTree) (l : Typed) → find (λ (l : Typed). is_some (read_at l)) (option_to_list (typed_here ts here e)) ≡ Some l → ReadsFit l
        left e l h = here_fits ts fields here known e l (of_option (typed_here ts here e) l (found_in (λ (l : Typed). is_some (read_at l)) (option_to_list (typed_here ts here e)) l h).0)

        by : (x : Assigned) → In g (given_argument ts call here a.value x) → GivenFits g
        by Assigned.Surplus j = absurd j
        by Assigned.Duration (inl e) = subst GivenFits (sym e) (duration_fits a.value)
        by Assigned.Duration (inr j) = absurd j
        by (Assigned.Unknown name) j = absurd j
        by (Assigned.Given f) j =
            let m = map_in (λ (p : Typed). given_required ts here call.path (Some p) a.value) (option_to_list (parameter ts here a.value f)) g j in
            subst GivenFits (sym m.2) (given_fits here known m.0 (left (ExprTree.Dot (ExprTree.It (first a.value)) f.name) m.0 (of_option (parameter ts here a.value f) m.0 m.1)) a.value)

    pub call_fits : (arguments : List ArgumentTree) (parts : List PartTree) (g : Given) → In g (call_givens ts call of arguments parts) → GivenFits g
    call_fits arguments parts g i =
        elim (in_either g (of_arguments ts of (given_argument ts call here) 0 arguments) (flat_map (part_rule ts call here) parts) i) as (λ _. GivenFits g) [
          | inl j ↦ arguments_fit 0 arguments g j
          | inr j ↦ let m = flat_map_in (part_rule ts call here) parts g j in by m.0 m.2
        ]
      where
        by : (part : PartTree) → In g (part_rule ts call here part) → GivenFits g
        by (PartTree.RulePart r) (inl e) = λ y q. let t = subst (TypedBy ts here) (sym e) (rule_of ts here call.path [] r) y q in here_fits ts fields here known t.0 y t.1
        by (PartTree.RulePart r) (inr j) = absurd j
        by (PartTree.ModifierPart m) j = absurd j

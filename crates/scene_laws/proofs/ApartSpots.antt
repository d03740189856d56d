-- No two spots of one sort have one path.
use Rattle.std.proofs.Common.{◌≡◌, ℕ, zero, suc, ◌+◌, refl, sym, ap, ◌∙◌, subst, ◌⊎◌, inl, inr, List, [], ◌∷◌, ◌++◌, Bool, true, false, ◌&&◌, ◌||◌, not, cond, Option, Some, None, map, length, true≢false}
use Rattle.std.specs.Prelude.{filter, flat_map, filter_map, option_to_list, is_some, bytes_eq, codes}
use Rattle.std.specs.List.{range_with_len, cons_option}
use Rattle.std.proofs.lemmas.Slice.Eq.{bytes_eq-Decides}
use Rattle.field_flatten.specs.osc_base.declared.path.Path.{Path}
use Rattle.field_flatten.specs.osc_base.declared.path.Step.{Step}
use Rattle.field_flatten.specs.osc_base.declared.path.Step.TheVariants.{Name, Index, Member}
use Rattle.field_flatten.specs.osc_base.Paths.{path_of, root, then_name, then_index}
use Rattle.expansion_laws.specs.dsl_tree.declared.parts.Ident.{Ident}
use Rattle.expansion_laws.specs.dsl_tree.declared.phases.InvokeHead.{InvokeHead}
use Rattle.expansion_laws.specs.dsl_tree.PhaseTree.{ArgumentTree, PartTree, PhaseTree, Comp, Invoke, Wait}
use Rattle.expansion_laws.specs.type_heads.Form.{Form}
use Rattle.expansion_laws.specs.type_heads.Table.{form, owner, is_object}
use Rattle.expansion_laws.specs.type_heads.Types.{Types, Field, Do}
use Rattle.expansion_laws.specs.type_heads.Members.{fields, field_type, list_length, the_do}
use Rattle.expansion_laws.specs.composition.declared.guard.Guard.{Guard}
use Rattle.expansion_laws.specs.composition.declared.spot.ValueRange.{ValueRange}
use Rattle.expansion_laws.specs.composition.Calls.{PhaseHere, phases_in, invoked}
use Rattle.expansion_laws.specs.composition.Scenes.{Content, Spot, Binding, values, phases}
use Rattle.expansion_laws.specs.composition.Ranges.{range_of}
use Rattle.expansion_laws.specs.composition.Homes.{is_bound}
use Rattle.expansion_laws.specs.composition.Givens.{guards_under, own_givens}
use Rattle.expansion_laws.specs.composition.Expansion.{Expansion, Object, Value, Phase, End, Part, in_row, Maker, value_parts, field_parts, Calling, calling, invocation, phase_part, do_parts, expand_within, own_actor, expansion}
use Rattle.expansion_laws.specs.composition.Expanded.{is_vehicle, spot, spots_of, spots_in}
use Rattle.field_flatten.proofs.Tests.{In, in_either, map_in, flat_map_in}
use Rattle.scene_laws.specs.Premises.{is_free}
use Rattle.scene_laws.proofs.FaultRows.{no_left, no_right, not_from}
use Rattle.scene_laws.proofs.EachSpot.{spots_in_row, invoked_kind, invoked_members, call_bindings}
use Rattle.scene_laws.proofs.FieldNames.{Pairs, NamesDiffer}
use Rattle.scene_laws.proofs.PhasePaths.{PathsDiffer, do_within, do_apart}
use Rattle.scene_laws.proofs.Steps.{joined_again, tail_same, cancelled, pairs_append, pairs_flat, pairs_map, range_apart, Below, NamedBelow, name_below, below_more, below_one, below_not, NoMember, runs_same}

-- two spots are both objects, both values or both phases
abbrev pub same_sort : Content → Content → Bool
same_sort (Content.Object a) (Content.Object b) = true
same_sort (Content.Value a) (Content.Value b) = true
same_sort (Content.Phase k ms) (Content.Phase l ns) = true
same_sort _ _ = false

-- two spots at one path are of two sorts, and have the same conditions
abbrev pub Apart : Spot → Spot → Type 0
Apart s u = s.path ≡ u.path → (same_sort s.content u.content ≡ false) × (s.guards ≡ u.guards)

-- the spots of an object: itself, and others below it
abbrev pub IsOf : Path → List Guard → Spot → Type 0
IsOf path guards s = ((s.path ≡ path) × ((s.guards ≡ guards) × ((v : Bool) × (s.content ≡ Content.Object v)))) ⊎ NamedBelow path s.path

module _ (ts : Types) (names : (t : ℕ) → Pairs NamesDiffer (fields ts t)) (free : (t : ℕ) (f : Field) → In f (fields ts t) → is_free f.name.text ≡ true) where
  -- what an expansion at a path gives
  pub record Whole (path : Path) (guards : List Guard) (e : Expansion) : Type 0 where
    pub of : (s : Spot) → In s (spots_of ts e) → IsOf path guards s
    pub apart : Pairs Apart (spots_of ts e)

  abbrev Good : Maker → Type 0
  Good make = (q : Path) (of : ℕ) (conditions : List Guard) (bound : List Binding) → Whole q conditions (make q of conditions bound)

  -- two parts without a common path of one sort
  abbrev PartsApart : Expansion → Expansion → Type 0
  PartsApart a b = (s u : Spot) → In s (spots_of ts a) → In u (spots_of ts b) → Apart s u

  -- all spots of a part are below a path by a name
  abbrev pub IsKeyed : Path → List ℕ → Expansion → Type 0
  IsKeyed base name part = (s : Spot) → In s (spots_of ts part) → Below base name s.path

  keyed_apart : (base : Path) (a b : List ℕ) (x y : Expansion) → IsKeyed base a x → IsKeyed base b y → (a ≡ b → ⊥) → PartsApart x y
  keyed_apart base a b x y k l differ s u i j same = absurd (differ (below_one base a b s.path u.path (k s i) (l u j) same))

  row_apart : (parts : List Expansion) → Pairs PartsApart parts → ((part : Expansion) → In part parts → Pairs Apart (spots_of ts part)) → Pairs Apart (spots_in ts (in_row parts))
  row_apart [] p f = tt
  row_apart (part ∷ others) p f =
      pairs_append Apart (spots_of ts part) (spots_in ts (in_row others)) (f part (inl refl)) (row_apart others p.1 (λ q i. f q (inr i)))
      (λ s u i j. let g = spots_in_row ts others u j in p.0 g.0 g.1 s u i g.2)

  -- ---- fields

  one_pair : {A : Type 0} (R : A → A → Type 0) (x : A) → Pairs R (x ∷ [])
  one_pair R x = (λ y i. absurd i, tt)

  nil_right : {A : Type 0} (R : A → A → Type 0) (xs : List A) → Pairs R xs → Pairs R (xs ++ [])
  nil_right R xs p = pairs_append R xs [] p tt (λ x y i j. absurd j)

  nil_in : {A : Type 0} (x : A) (xs : List A) → In x (xs ++ []) → In x xs
  nil_in x xs i = elim (in_either x xs [] i) as (λ _. In x xs) [ inl j ↦ j | inr j ↦ absurd j ]

  -- the parts of one field: below its name, and apart
  record FieldParts (base : Path) (name : List ℕ) (parts : List Expansion) : Type 0 where
    keyed : (part : Expansion) → In part parts → IsKeyed base name part
    apart : Pairs PartsApart parts
    each : (part : Expansion) → In part parts → Pairs Apart (spots_of ts part)

  no_parts : (base : Path) (name : List ℕ) → FieldParts base name []
  no_parts base name = record { keyed = λ part i. absurd i; apart = tt; each = λ part i. absurd i }

  object_parts : (base : Path) (name : List ℕ) (make : Maker) → Good make → (of : ℕ) (conditions : List Guard) → FieldParts base name (make (then_name base name) of conditions [] ∷ [])
  object_parts base name make good of conditions = record { keyed = keyed; apart = one_pair PartsApart (make (then_name base name) of conditions []); each = each }
    where
      q : Path
      q = then_name base name

      w : Whole (then_name base name) conditions (make (then_name base name) of conditions [])
      w = good (then_name base name) of conditions []

      keyed : (part : Expansion) → In part (make (then_name base name) of conditions [] ∷ []) → IsKeyed base name part
      keyed part (inl e) s i = by (w.of s (subst (λ z. In s (spots_of ts z)) e i))
        where
          by : IsOf (then_name base name) conditions s → Below base name s.path
          by (inl here) = subst (λ z. Below base name z) (sym here.0) (name_below base name)
          by (inr b) = below_more base name (then_name base name) s.path (name_below base name) (Name b.0 ∷ b.1.0) b.1.1
      keyed part (inr k) s i = absurd k

      each : (part : Expansion) → In part (make (then_name base name) of conditions [] ∷ []) → Pairs Apart (spots_of ts part)
      each part (inl e) = subst (λ z. Pairs Apart (spots_of ts z)) (sym e) w.apart
      each part (inr k) = absurd k

  value_keyed : (base : Path) (name : List ℕ) (q : Path) (conditions : List Guard) (range : ValueRange) → Below base name q → IsKeyed base name (Value q conditions range)
  value_keyed base name q conditions range b s (inl e) = subst (λ (z : Spot). Below base name z.path) (sym e) b
  value_keyed base name q conditions range b s (inr k) = absurd k

  values_of : (base : Path) (name : List ℕ) (conditions : List Guard) (count : Option ℕ) (range : ValueRange) → FieldParts base name (value_parts (then_name base name) conditions count range)
  values_of base name conditions None range = record {
    keyed = λ part i. one part i;
    apart = one_pair PartsApart (Value (then_name base name) conditions range);
    each = λ part i. alone part i;
  }
    where
      one : (part : Expansion) → In part (Value (then_name base name) conditions range ∷ []) → IsKeyed base name part
      one part (inl e) = subst (IsKeyed base name) (sym e) (value_keyed base name (then_name base name) conditions range (name_below base name))
      one part (inr k) = absurd k

      alone : (part : Expansion) → In part (Value (then_name base name) conditions range ∷ []) → Pairs Apart (spots_of ts part)
      alone part (inl e) = subst (λ z. Pairs Apart (spots_of ts z)) (sym e) (one_pair Apart (spot (then_name base name) conditions (Content.Value range)))
      alone part (inr k) = absurd k
  values_of base name conditions (Some count) range = record {
    keyed = λ part i.
        let m = map_in (λ n. Value (then_index (then_name base name) n) conditions range) (range_with_len 0 count) part i in
        subst (IsKeyed base name) (sym m.2)
        (value_keyed base name (then_index (then_name base name) m.0) conditions range (below_more base name (then_name base name) (then_index (then_name base name) m.0) (name_below base name) (Index m.0 ∷ []) refl));
    apart = pairs_map PartsApart (λ (x y : ℕ). x ≡ y → ⊥) (λ n. Value (then_index (then_name base name) n) conditions range) (range_with_len 0 count) (range_apart 0 count) (λ n m i j differ. indexes n m differ);
    each = λ part i.
        let m = map_in (λ n. Value (then_index (then_name base name) n) conditions range) (range_with_len 0 count) part i in
        subst (λ z. Pairs Apart (spots_of ts z)) (sym m.2) (one_pair Apart (spot (then_index (then_name base name) m.0) conditions (Content.Value range)));
  }
    where
      index_of : List Step → ℕ
      index_of (Index n ∷ rest) = n
      index_of _ = 0

      indexes : (n m : ℕ) → (n ≡ m → ⊥) → PartsApart (Value (then_index (then_name base name) n) conditions range) (Value (then_index (then_name base name) m) conditions range)
      indexes n m differ s u (inl e) (inl f) same =
          let paths : then_index (then_name base name) n ≡ then_index (then_name base name) m = sym (ap (λ (z : Spot). z.path) e) ∙ same ∙ ap (λ (z : Spot). z.path) f in
          absurd (differ (ap index_of (cancelled (base.steps ++ Name name ∷ []) (Index n ∷ []) (Index m ∷ []) (ap (λ z. z.steps) paths))))
      indexes n m differ s u (inl e) (inr k) same = absurd k
      indexes n m differ s u (inr k) j same = absurd k

  append_nothing : (base : Path) (name : List ℕ) (parts : List Expansion) → FieldParts base name parts → FieldParts base name (parts ++ [])
  append_nothing base name parts f = record { keyed = λ part i. f.keyed part (nil_in part parts i); apart = nil_right PartsApart parts f.apart; each = λ part i. f.each part (nil_in part parts i) }

  parts_of_type : (base : Path) (name : List ℕ) (make : Maker) → Good make → (conditions : List Guard) (count : Option ℕ) (bound : Bool) (of : ℕ) (f : Form)
      → FieldParts base name (map (λ of. make (then_name base name) of conditions []) (cond (is_object f && bound) (of ∷ []) []) ++ flat_map (value_parts (then_name base name) conditions count) (option_to_list (range_of f)))
  parts_of_type base name make good conditions count true of (Form.Compound k) = by (is_object (Form.Compound k))
    where
      by : (b : Bool) → FieldParts base name (map (λ of. make (then_name base name) of conditions []) (cond (b && true) (of ∷ []) []) ++ [])
      by true = object_parts base name make good of conditions
      by false = no_parts base name
  parts_of_type base name make good conditions count false of (Form.Compound k) = by (is_object (Form.Compound k))
    where
      by : (b : Bool) → FieldParts base name (map (λ of. make (then_name base name) of conditions []) (cond (b && false) (of ∷ []) []) ++ [])
      by true = no_parts base name
      by false = no_parts base name
  parts_of_type base name make good conditions count bound of Form.Int = append_nothing base name _ (values_of base name conditions count _)
  parts_of_type base name make good conditions count bound of Form.Uint = append_nothing base name _ (values_of base name conditions count _)
  parts_of_type base name make good conditions count bound of Form.Float = append_nothing base name _ (values_of base name conditions count _)
  parts_of_type base name make good conditions count bound of Form.Truth = append_nothing base name _ (values_of base name conditions count _)
  parts_of_type base name make good conditions count bound of Form.Chars = append_nothing base name _ (values_of base name conditions count _)
  parts_of_type base name make good conditions count bound of (Form.Physical x) = append_nothing base name _ (values_of base name conditions count _)
  parts_of_type base name make good conditions count bound of (Form.Enum ms) = append_nothing base name _ (values_of base name conditions count _)

  parts_of_field : (make : Maker) → Good make → (bindings : List Binding) (base : Path) (t : ℕ) (guards : List Guard) (f : Field) → FieldParts base f.name.text (field_parts make ts bindings base t guards f)
  parts_of_field make good bindings base t guards f = by (field_type ts f)
    where
      by : (o : Option ℕ) → FieldParts base f.name.text
          (map (λ of. make (then_name base f.name.text) of (guards ++ guards_under ts base t f.under) []) (filter (λ of. is_object (form ts.table.heads of) && not (is_bound bindings (then_name base f.name.text))) (option_to_list o))
          ++ flat_map (value_parts (then_name base f.name.text) (guards ++ guards_under ts base t f.under) (list_length f.tree)) (filter_map (λ of. range_of (form ts.table.heads of)) (option_to_list o)))
      by None = no_parts base f.name.text
      by (Some of) = ranged (range_of (form ts.table.heads of)) (parts_of_type base f.name.text make good (guards ++ guards_under ts base t f.under) (list_length f.tree) (not (is_bound bindings (then_name base f.name.text))) of (form ts.table.heads of))
        where
          objects : List Expansion
          objects = map (λ of. make (then_name base f.name.text) of (guards ++ guards_under ts base t f.under) []) (cond (is_object (form ts.table.heads of) && not (is_bound bindings (then_name base f.name.text))) (of ∷ []) [])

          ranged : (r : Option ValueRange)
              → FieldParts base f.name.text (objects ++ flat_map (value_parts (then_name base f.name.text) (guards ++ guards_under ts base t f.under) (list_length f.tree)) (option_to_list r))
              → FieldParts base f.name.text (objects ++ flat_map (value_parts (then_name base f.name.text) (guards ++ guards_under ts base t f.under) (list_length f.tree)) (cons_option r []))
          ranged None p = p
          ranged (Some r) p = p

  -- ---- phases

  abbrev do_text : List ℕ
  do_text = codes "do"

  -- steps of a phase's spots: those of the phase, and then no member
  abbrev AtPhase : Path → PhaseHere → Path → Type 0
  AtPhase base p path = (rest : List Step) × NoMember rest × (path.steps ≡ base.steps ++ (p.path.steps ++ rest))

  abbrev IsPhasePart : Path → PhaseHere → Expansion → Type 0
  IsPhasePart base p part = (s : Spot) → In s (spots_of ts part) → AtPhase base p s.path

  phases_differ : (base : Path) (phase : PhaseTree) (p q : PhaseHere) → In p (phases_in phase) → In q (phases_in phase) → PathsDiffer p q → (a b : Expansion) → IsPhasePart base p a → IsPhasePart base q b → PartsApart a b
  phases_differ base phase p q i j differ a b k l s u m n same =
      let v = k s m in
      let w = l u n in
      let x = do_within phase p i in
      let y = do_within phase q j in
      let paths : base.steps ++ (p.path.steps ++ v.0) ≡ base.steps ++ (q.path.steps ++ w.0) = sym v.2 ∙ ap (λ z. z.steps) same ∙ w.2 in
      let inner : (Name do_text ∷ x.0) ++ v.0 ≡ (Name do_text ∷ y.0) ++ w.0 =
      ap (λ l. l ++ v.0) (sym x.2) ∙ cancelled base.steps (p.path.steps ++ v.0) (q.path.steps ++ w.0) paths ∙ ap (λ l. l ++ w.0) y.2 in
      let runs : x.0 ≡ y.0 = runs_same x.0 y.0 v.0 w.0 x.1 y.1 v.1 w.1 (tail_same (Name do_text) (Name do_text) (x.0 ++ v.0) (y.0 ++ w.0) inner) in
      absurd (differ (ap path_of (x.2 ∙ ap (λ l. Name do_text ∷ l) runs ∙ sym y.2)))

  module _ (make : Maker) (good : Good make) (bindings : List Binding) (base : Path) (guards : List Guard) (d : Do) (p : PhaseHere) where
    abbrev at : Calling
    at = calling bindings base guards d p

    at_phase : AtPhase base p at.path
    at_phase = ([], tt, ap (λ l. base.steps ++ l) (sym (nil_is p.path.steps)))
      where
        nil_is : (xs : List Step) → xs ++ [] ≡ xs
        nil_is [] = refl
        nil_is (x ∷ xs) = ap (λ l. x ∷ l) (nil_is xs)

    below_phase : (path : Path) → NamedBelow at.path path → AtPhase base p path
    below_phase path b = (Name b.0 ∷ b.1.0, tt, b.1.1 ∙ joined_again base.steps p.path.steps (Name b.0 ∷ b.1.0))

    -- the parts of one phase
    record PhaseParts (parts : List Expansion) : Type 0 where
      keyed : (part : Expansion) → In part parts → IsPhasePart base p part
      apart : Pairs PartsApart parts
      each : (part : Expansion) → In part parts → Pairs Apart (spots_of ts part)

    one_spot : (part : Expansion) (s : Spot) → spots_of ts part ≡ s ∷ [] → s.path ≡ at.path → PhaseParts (part ∷ [])
    one_spot part s is here = record { keyed = λ q i. keyed q i; apart = one_pair PartsApart part; each = λ q i. each q i }
      where
        keyed : (q : Expansion) → In q (part ∷ []) → IsPhasePart base p q
        keyed q (inl e) u j = by (subst (λ l. In u l) is (subst (λ z. In u (spots_of ts z)) e j))
          where
            by : In u (s ∷ []) → AtPhase base p u.path
            by (inl f) = subst (AtPhase base p) (sym (ap (λ (z : Spot). z.path) f ∙ here)) at_phase
            by (inr k) = absurd k
        keyed q (inr k) u j = absurd k

        each : (q : Expansion) → In q (part ∷ []) → Pairs Apart (spots_of ts q)
        each q (inl e) = subst (λ z. Pairs Apart (spots_of ts z)) (sym e) (subst (Pairs Apart) (sym is) (one_pair Apart s))
        each q (inr k) = absurd k

    invoked_part : (head : InvokeHead) (names : List Ident) (arguments : List ArgumentTree) (parts : List PartTree) (of : ℕ) → PhaseParts (invocation make ts at head names arguments parts of ∷ [])
    invoked_part head names arguments parts of = record { keyed = λ q i. keyed q i; apart = one_pair PartsApart part; each = λ q i. each q i }
      where
        part : Expansion
        part = invocation make ts at head names arguments parts of

        bound : List Binding
        bound = call_bindings ts at head names arguments of

        w : Whole at.path at.guards (make at.path of at.guards (call_bindings ts at head names arguments of))
        w = good at.path of at.guards (call_bindings ts at head names arguments of)

        inside : (u : Spot) → In u (spots_of ts (make at.path of at.guards (call_bindings ts at head names arguments of)) ++ []) → IsOf at.path at.guards u
        inside u j = w.of u (nil_in u (spots_of ts (make at.path of at.guards (call_bindings ts at head names arguments of))) j)

        key : (u : Spot) → IsOf at.path at.guards u → AtPhase base p u.path
        key u (inl here) = subst (AtPhase base p) (sym here.0) at_phase
        key u (inr b) = below_phase u.path b

        keyed : (q : Expansion) → In q (invocation make ts at head names arguments parts of ∷ []) → IsPhasePart base p q
        keyed q (inl e) u j = by (subst (λ z. In u (spots_of ts z)) e j)
          where
            by : In u (spots_of ts (invocation make ts at head names arguments parts of)) → AtPhase base p u.path
            by (inl f) = subst (AtPhase base p) (sym (ap (λ (z : Spot). z.path) f)) at_phase
            by (inr k) = key u (inside u k)
        keyed q (inr k) u j = absurd k

        first : (content : Content) → ((v : Bool) → same_sort content (Content.Object v) ≡ false) → (u : Spot) → IsOf at.path at.guards u → Apart (spot at.path at.guards content) u
        first content other u (inl here) same = (ap (same_sort content) here.1.1.1 ∙ other here.1.1.0, sym here.1.0)
        first content other u (inr b) same = absurd (below_not at.path b.0 u.path b.1 same)

        each : (q : Expansion) → In q (invocation make ts at head names arguments parts of ∷ []) → Pairs Apart (spots_of ts q)
        each q (inl e) = subst (λ z. Pairs Apart (spots_of ts z)) (sym e) (
          λ u j. first (Content.Phase (invoked_kind ts (is_some (the_do ts of))) (invoked_members ts at.path (is_some (the_do ts of)))) (λ v. refl) u (inside u j),
          nil_right Apart (spots_of ts (make at.path of at.guards (call_bindings ts at head names arguments of))) w.apart,
        )
        each q (inr k) = absurd k

    parts_of_phase : (phase : PhaseTree) → PhaseParts (phase_part make ts at phase)
    parts_of_phase (Comp label place kind arguments members) = one_spot (Phase at.path at.guards _ _ [] End _ []) (spot at.path at.guards _) refl refl
    parts_of_phase (Wait label place elapsed) = one_spot (Phase at.path at.guards _ [] [] End _ []) (spot at.path at.guards _) refl refl
    parts_of_phase (Invoke label head names arguments parts) = by (invoked ts at.holder head names)
      where
        by : (o : Option ℕ) → PhaseParts (map (invocation make ts at head names arguments parts) (option_to_list o))
        by None = record { keyed = λ q i. absurd i; apart = tt; each = λ q i. absurd i }
        by (Some of) = invoked_part head names arguments parts of

  -- ---- objects

  -- the parts that stand before the fields
  pub record ActorParts (base : Path) (parts : List Expansion) : Type 0 where
    pub keyed : (part : Expansion) → In part parts → IsKeyed base (codes "actor") part
    pub apart : Pairs PartsApart parts
    pub each : (part : Expansion) → In part parts → Pairs Apart (spots_of ts part)

  free_apart : (name word : List ℕ) → is_free name ≡ true → (word ≡ codes "actor") ⊎ (word ≡ codes "do") → name ≡ word → ⊥
  free_apart name word free is same =
      let row = not_from (bytes_eq name (codes "it") || (bytes_eq name (codes "actor") || bytes_eq name (codes "do"))) free in
      let rest = no_right (bytes_eq name (codes "it")) _ row in
      elim is as (λ _. ⊥) [
        | inl e ↦ true≢false (sym ((bytes_eq-Decides name (codes "actor")).1 (same ∙ e)) ∙ no_left (bytes_eq name (codes "actor")) _ rest)
        | inr e ↦ true≢false (sym ((bytes_eq-Decides name (codes "do")).1 (same ∙ e)) ∙ no_right (bytes_eq name (codes "actor")) _ rest)
      ]

  module _ (make : Maker) (good : Good make) (base : Path) (t : ℕ) (guards : List Guard) (bindings : List Binding) (actor : List Expansion) (first : ActorParts base actor) where
    abbrev all_fields : List Expansion
    all_fields = flat_map (field_parts make ts bindings base t guards) (fields ts t)

    abbrev all_dos : List Expansion
    all_dos = flat_map (do_parts make ts bindings base guards) (option_to_list (the_do ts t))

    field_part : (part : Expansion) → In part all_fields → (f : Field) × In f (fields ts t) × IsKeyed base f.name.text part × Pairs Apart (spots_of ts part)
    field_part part i =
        let m = flat_map_in (field_parts make ts bindings base t guards) (fields ts t) part i in
        let f = parts_of_field make good bindings base t guards m.0 in
        (m.0, m.1, f.keyed part m.2, f.each part m.2)

    do_part : (part : Expansion) → In part all_dos → IsKeyed base (codes "do") part × Pairs Apart (spots_of ts part)
    do_part part i =
        let m = flat_map_in (do_parts make ts bindings base guards) (option_to_list (the_do ts t)) part i in
        let n = flat_map_in (λ (p : PhaseHere). phase_part make ts (calling bindings base guards m.0 p) p.phase) (phases_in m.0.phase) part m.2 in
        let f = parts_of_phase make good bindings base guards m.0 n.0 n.0.phase in (
          λ s j. let k = f.keyed part n.2 s j in let w = do_within m.0.phase n.0 n.1 in
              (w.0 ++ k.0, k.2 ∙ ap (λ l. base.steps ++ (l ++ k.0)) w.2),
          f.each part n.2,
        )

    fields_parted : Pairs PartsApart all_fields
    fields_parted = pairs_flat PartsApart NamesDiffer (field_parts make ts bindings base t guards) (fields ts t) (names t)
        (λ f i. (parts_of_field make good bindings base t guards f).apart)
        (λ f g x y i j differ k l. keyed_apart base f.name.text g.name.text x y ((parts_of_field make good bindings base t guards f).keyed x k) ((parts_of_field make good bindings base t guards g).keyed y l) differ)

    dos_parted : Pairs PartsApart all_dos
    dos_parted = by (the_do ts t)
      where
        by : (o : Option Do) → Pairs PartsApart (flat_map (do_parts make ts bindings base guards) (option_to_list o))
        by None = tt
        by (Some d) = nil_right PartsApart (do_parts make ts bindings base guards d)
            (pairs_flat PartsApart PathsDiffer (λ (p : PhaseHere). phase_part make ts (calling bindings base guards d p) p.phase) (phases_in d.phase) (do_apart d.phase)
            (λ p i. (parts_of_phase make good bindings base guards d p p.phase).apart)
            (λ p q x y i j differ k l. phases_differ base d.phase p q i j differ x y ((parts_of_phase make good bindings base guards d p p.phase).keyed x k) ((parts_of_phase make good bindings base guards d q q.phase).keyed y l)))

    abbrev all_parts : List Expansion
    all_parts = actor ++ all_fields ++ all_dos

    all_parted : Pairs PartsApart all_parts
    all_parted =
        pairs_append PartsApart (actor ++ all_fields) all_dos
        (pairs_append PartsApart actor all_fields first.apart fields_parted
        (λ x y i j. let f = field_part y j in keyed_apart base (codes "actor") f.0.name.text x y (first.keyed x i) f.2 (λ same. free_apart f.0.name.text (codes "actor") (free t f.0 f.1) (inl refl) (sym same))))
        dos_parted
        (λ x y i j. elim (in_either x actor all_fields i) as (λ _. PartsApart x y) [
          | inl k ↦ keyed_apart base (codes "actor") (codes "do") x y (first.keyed x k) (do_part y j).0 (λ same. true≢false (sym ((bytes_eq-Decides (codes "actor") (codes "do")).1 same)))
          | inr k ↦ let f = field_part x k in keyed_apart base f.0.name.text (codes "do") x y f.2 (do_part y j).0 (free_apart f.0.name.text (codes "do") (free t f.0 f.1) (inr refl))
        ])

    each_part : (part : Expansion) → In part all_parts → ((s : Spot) → In s (spots_of ts part) → NamedBelow base s.path) × Pairs Apart (spots_of ts part)
    each_part part i = elim (in_either part (actor ++ all_fields) all_dos i) as (λ _. ((s : Spot) → In s (spots_of ts part) → NamedBelow base s.path) × Pairs Apart (spots_of ts part)) [
      | inl j ↦ elim (in_either part actor all_fields j) as (λ _. ((s : Spot) → In s (spots_of ts part) → NamedBelow base s.path) × Pairs Apart (spots_of ts part)) [
        | inl k ↦ (λ s l. (codes "actor", first.keyed part k s l), first.each part k)
        | inr k ↦ let f = field_part part k in (λ s l. (f.0.name.text, f.2 s l), f.3)
      ]
      | inr j ↦ let f = do_part part j in (λ s l. (codes "do", f.0 s l), f.1)
    ]

    object_whole : (own : List _) → Whole base guards (Object base t guards (in_row all_parts) own)
    object_whole own = record { of = of; apart = (λ u i. self u (inside u i), row_apart all_parts all_parted (λ part i. (each_part part i).1)) }
      where
        inside : (u : Spot) → In u (spots_in ts (in_row all_parts)) → NamedBelow base u.path
        inside u i = let g = spots_in_row ts all_parts u i in (each_part g.0 g.1).0 u g.2

        self : (u : Spot) → NamedBelow base u.path → Apart (spot base guards (Content.Object (is_vehicle ts t))) u
        self u b same = absurd (below_not base b.0 u.path b.1 same)

        of : (s : Spot) → In s (spots_of ts (Object base t guards (in_row all_parts) own)) → IsOf base guards s
        of s (inl e) = inl (ap (λ (z : Spot). z.path) e, (ap (λ (z : Spot). z.guards) e, (is_vehicle ts t, ap (λ (z : Spot). z.content) e)))
        of s (inr i) = inr (inside s i)

  no_actor : (base : Path) → ActorParts base []
  no_actor base = record { keyed = λ part i. absurd i; apart = tt; each = λ part i. absurd i }

  pub whole_within : (n : ℕ) (path : Path) (t : ℕ) (guards : List Guard) (bindings : List Binding) (actor : List Expansion) → ActorParts path actor → Whole path guards (expand_within n ts path t guards bindings actor)
  whole_within zero path t guards bindings actor first = record { of = λ s i. of s i; apart = one_pair Apart (spot path guards (Content.Object (is_vehicle ts t))) }
    where
      of : (s : Spot) → In s (spot path guards (Content.Object (is_vehicle ts t)) ∷ []) → IsOf path guards s
      of s (inl e) = inl (ap (λ (z : Spot). z.path) e, (ap (λ (z : Spot). z.guards) e, (is_vehicle ts t, ap (λ (z : Spot). z.content) e)))
      of s (inr k) = absurd k
  whole_within (suc n) path t guards bindings actor first =
      object_whole (λ q of conditions bound. expand_within n ts q of conditions bound []) (λ q of conditions bound. whole_within n q of conditions bound [] (no_actor q)) path t guards bindings actor first (own_givens ts path t)

  -- of the expansion of a scenario
  pub whole_expansion : (t : ℕ) → Whole root [] (expansion ts t)
  whole_expansion t = whole_within (length ts.table.heads) root t [] [] (own_actor ts t) (by (owner ts.table.heads t))
    where
      at : Path
      at = then_name root (codes "actor")

      by : (o : Option ℕ) → ActorParts root (map (λ a. expand_within (length ts.table.heads) ts (then_name root (codes "actor")) a [] [] []) (option_to_list o))
      by None = no_actor root
      by (Some a) = let p = object_parts root (codes "actor") (λ q of conditions bound. expand_within (length ts.table.heads) ts q of conditions bound []) (λ q of conditions bound. whole_within (length ts.table.heads) q of conditions bound [] (no_actor q)) a [] in
          record { keyed = p.keyed; apart = p.apart; each = p.each }

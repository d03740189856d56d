-- The constraints of all texts of an expansion are sound.
use Rattle.std.proofs.Common.{◌≡◌, ℕ, ◌+◌, refl, sym, ap, ◌∙◌, subst, inl, inr, List, [], ◌∷◌, ◌++◌, Bool, true, false, ◌&&◌, ◌||◌, not, cond, Option, Some, None, map, true≢false}
use Rattle.std.specs.Prelude.{flat_map, filter_map, find, reverse, option_to_list, option_map, is_some, bytes_eq, codes}
use Rattle.std.specs.Option.{option_map_or}
use Rattle.osc_base.specs.declared.fault.FaultCode.{FaultCode}
use Rattle.osc_base.specs.declared.fault.Place.{Place}
use Rattle.osc_base.specs.declared.path.Path.{Path}
use Rattle.osc_base.specs.FaultRows.{FaultRow, row}
use Rattle.osc_base.specs.Paths.{root, then_name}
use Rattle.expr_eval.specs.dsl_tree.declared.compounds.HeirCondition.{HeirCondition}
use Rattle.expr_eval.specs.dsl_tree.declared.parts.Ident.{Ident}
use Rattle.expr_eval.specs.dsl_tree.declared.phases.CompKind.{CompKind}
use Rattle.expr_eval.specs.dsl_tree.declared.phases.InvokeHead.{InvokeHead}
use Rattle.expr_eval.specs.dsl_tree.ExprTree.{ExprTree}
use Rattle.expr_eval.specs.dsl_tree.FileTree.{MemberTree}
use Rattle.expr_eval.specs.dsl_tree.PhaseTree.{ArgumentTree, PartTree, Comp, Invoke, Wait, PhaseRow}
use Rattle.expr_eval.specs.type_heads.MemberFaults.{is_list_of, initial_rows}
use Rattle.expr_eval.specs.type_heads.Members.{declared_type, field, field_type, fields, fields_declared, heir_condition, items_in, list_length, members, the_do}
use Rattle.expr_eval.specs.type_heads.Table.{form, bases, has_members, is_object, is_behaviour, named}
use Rattle.expr_eval.specs.type_heads.Texts.{argument_exprs, member_exprs, part_exprs, rule_exprs}
use Rattle.expr_eval.specs.type_heads.Types.{Types, Member, Field, Do}
use Rattle.expr_eval.specs.expr_nodes.Fits.{argument_fit_rows, duration_fit_rows}
use Rattle.expr_eval.specs.expr_nodes.Kinds.{ValueKind}
use Rattle.expr_eval.specs.expr_nodes.Names.{per_of, held_at, single}
use Rattle.expr_eval.specs.expr_nodes.Parts.{any_holds}
use Rattle.expr_eval.specs.expr_nodes.Scope.{It, Scope}
use Rattle.expr_eval.specs.expr_nodes.Sizes.{field_size, info_at, unit_size}
use Rattle.expr_eval.specs.expr_nodes.Typed.{Typed, Read, Whole, moved}
use Rattle.expr_eval.specs.expr_nodes.Typing.{typed, expr_rows, first}
use Rattle.expr_eval.specs.Resolved.{IsResolved}
use Rattle.expr_eval.proofs.TypedForms.{typed_or_refused}
use Rattle.run_values.specs.composition.Calls.{PhaseHere, phases_in, callee, invoked, scope_at, Assigned, assigned}
use Rattle.run_values.specs.composition.Expanded.{givens_of}
use Rattle.run_values.specs.composition.Expansion.{Calling, calling, here_in, argument_named, given_argument, given_duration, of_arguments, parameter, part_rule, expansion}
use Rattle.run_values.specs.composition.Givens.{Here, Given, field_here, from_root, given_condition, given_conditions, given_field, given_initials, given_member, given_required, given_rule, guards_under, own_givens, read_at, typed_here}
use Rattle.run_values.specs.composition.Uses.{among, arguments_rows, assigned_rows, call_rows, callee_rows, composition_rows, field_scope, field_use_rows, given_rows, initial_value_rows, it_made, member_use_rows, name_assigned, named_rows, object_rows, part_rows, phase_rows, rule_rows, values_given, values_rows, with_kind}
use Rattle.run_values.proofs.of_field_flatten.Tests.{In, in_either, in_flat_map, in_left, in_right, flat_map_in, map_in, found_in}
use Rattle.scene_laws.specs.Premises.{are_short}
use Rattle.scene_laws.proofs.FaultRows.{no_left, no_right, rows_left, rows_right, rows_among}
use Rattle.scene_laws.proofs.OwnedHeads.{invoked_behaviour}
use Rattle.scene_laws.proofs.Picked.{of_option}
use Rattle.scene_laws.proofs.TypedSound.{typed_good}
use Rattle.checkable_scenes.proofs.EachText.{call_givens, comp_givens, each_text}
use Rattle.checkable_scenes.proofs.JudgedUses.{member_uses, phase_uses}
use Rattle.checkable_scenes.proofs.KnownPaths.{it_free}
use Rattle.checkable_scenes.proofs.ReadObjects.{assigned_in}
use Rattle.checkable_scenes.proofs.ShortTexts.{own_exprs, phase_short}
use Rattle.checkable_scenes.proofs.SoundConditions.{condition_sound}
use Rattle.checkable_scenes.proofs.SoundConstraints.{GivenSound, rule_sound, given_sound, duration_sound}
use Rattle.checkable_scenes.proofs.SoundFields.{TextsKnown, field_resolved, initials_sound, member_typed, named_field, single_read, single_whole}
use Rattle.checkable_scenes.proofs.ResolvedScopes.{scope_resolved}

rows_both : (rs qs : List FaultRow) → any_holds rs ≡ false → any_holds qs ≡ false → any_holds (rs ++ qs) ≡ false
rows_both [] qs f h = h
rows_both (r ∷ rs) qs f h = rw (no_left r.holds (any_holds rs) f) (rows_both rs qs (no_right r.holds (any_holds rs) f) h)

first_rows_of : (b : Bool) → b ≡ true → (rs qs : List FaultRow) → any_holds (cond b rs qs) ≡ false → any_holds rs ≡ false
first_rows_of true e rs qs h = h
first_rows_of false e rs qs h = absurd (true≢false (sym e))

second_rows_of : (b : Bool) → b ≡ false → (rs qs : List FaultRow) → any_holds (cond b rs qs) ≡ false → any_holds qs ≡ false
second_rows_of true e rs qs h = absurd (true≢false e)
second_rows_of false e rs qs h = h

neither : (a b : Bool) → a ≡ false → b ≡ false → a || b ≡ false
neither true b p q = p
neither false b p q = q

module _ (ts : Types) (k : TextsKnown ts) where
  -- ---- fields

  module _ (path : Path) (t : ℕ) (f : Field) (inside : In f (fields ts t)) (of : ℕ) (is : field_type ts f ≡ Some of) where
    -- the conditions of the field's type
    condition_given : (place : Place) (u : ℕ) → field_type ts f ≡ Some u → (g : Given) → In g (given_conditions ts (field_here ts path t f) place u) → GivenSound g
    condition_given place u typed_is g i =
        let at = field_here ts path t f in
        let c = flat_map_in (λ (c : HeirCondition). map (given_condition ts at place c) (option_to_list (field ts u c.field.text))) (filter_map (heir_condition ts.bodies) (reverse (u ∷ bases ts.table.heads u))) g i in
        let m = map_in (given_condition ts at place c.0) (option_to_list (field ts u c.0.field.text)) g c.2 in
        subst GivenSound (sym m.2) (condition_sound ts k path t f inside u typed_is place c.0 c.1 m.0 (of_option (field ts u c.0.field.text) m.0 m.1))

    -- the rules of its `with:`
    rule_given : any_holds (flat_map (rule_rows ts.table (field_scope ts f.holder f.tree)) f.tree.rules) ≡ false → ((e : ExprTree) → In e (flat_map rule_exprs f.tree.rules) → are_short e ≡ true)
        → (g : Given) → In g (map (given_rule ts (field_here ts path t f).here path (field_here ts path t f).under) f.tree.rules) → GivenSound g
    rule_given rows short g i =
        let at = field_here ts path t f in
        let m = map_in (given_rule ts at.here path at.under) f.tree.rules g i in
        subst GivenSound (sym m.2)
        (rule_sound ts k.small at.here (field_resolved ts k path t f of is) path at.under m.0 (rows_among (rule_rows ts.table (field_scope ts f.holder f.tree)) f.tree.rules rows m.0 m.1)
        (λ e j. short e (in_flat_map rule_exprs f.tree.rules m.0 e m.1 j)))

    -- an initial value is of no object, and that of a list is a list
    initial_shape : any_holds (initial_rows ts.table.heads (MemberTree.Field f.tree)) ≡ false → (e : ExprTree) → f.tree.initial ≡ Some e → (is_object (form ts.table.heads of) ≡ false) × (is_some f.tree.list && not (is_list_of (Some e)) ≡ false)
    initial_shape rows e initial =
        let object = is_some f.tree.initial && option_map_or (λ t. is_object (form ts.table.heads t)) (named ts.table.heads None f.tree.of.text) false in
        let first_row = subst (λ o. is_some o && option_map_or (λ t. is_object (form ts.table.heads t)) (named ts.table.heads None f.tree.of.text) false ≡ false) initial (no_left object _ rows) in
        let second_row = no_left (is_some f.tree.list && not (is_list_of f.tree.initial)) false (no_right object _ rows) in
        (subst (λ o. option_map_or (λ t. is_object (form ts.table.heads t)) o false ≡ false) is first_row, subst (λ o. is_some f.tree.list && not (is_list_of o) ≡ false) initial second_row)

    -- its initial value, or those of its elements
    initial_given : any_holds (initial_rows ts.table.heads (MemberTree.Field f.tree)) ≡ false → (e : ExprTree) → f.tree.initial ≡ Some e → any_holds (initial_value_rows ts f.holder f.tree e) ≡ false → are_short e ≡ true
        → (g : Given) → In g (given_initials ts (field_here ts path t f) (option_map_or (λ (place : Place). true) f.tree.list false) e) → GivenSound g
    initial_given shape e initial rows short g i =
        let sc = scope_at ts f.holder None [] in
        let s = initial_shape shape e initial in
        let v = k.known.kinds.kinds of in
        let rest = option_map_or (λ of. with_kind ts of (values_rows ts.table sc (values_given (is_some f.tree.list) e))) (declared_type ts f.tree) [] in
        let kinds : any_holds (with_kind ts of (values_rows ts.table sc (values_given (is_some f.tree.list) e))) ≡ false =
        subst (λ o. any_holds (option_map_or (λ of. with_kind ts of (values_rows ts.table sc (values_given (is_some f.tree.list) e))) o []) ≡ false) is (rows_right (expr_rows ts.table sc e) rest rows) in
        let fits = subst (λ o. any_holds (option_map_or (λ k. values_rows ts.table sc (values_given (is_some f.tree.list) e) k (field_size (per_of (form ts.table.heads of)))) o []) ≡ false) v.1 kinds in
        initials_sound ts k path t f of is v.0 v.1 f.tree.list refl (neither (is_object (form ts.table.heads of)) (is_behaviour (form ts.table.heads of)) s.0 (k.known.holds t f inside of is)) e initial s.1
        (rows_left (expr_rows ts.table sc e) rest rows) short fits g i

    -- the constraints of a field
    field_given : any_holds (field_use_rows ts f.holder f.tree) ≡ false → any_holds (initial_rows ts.table.heads (MemberTree.Field f.tree)) ≡ false → ((e : ExprTree) → In e (member_exprs (MemberTree.Field f.tree)) → are_short e ≡ true)
        → (g : Given) → In g (given_field ts path t f) → GivenSound g
    field_given rows shape short g i =
        let at = field_here ts path t f in
        let list = option_map_or (λ (place : Place). true) f.tree.list false in
        let conditions = flat_map (given_conditions ts at f.tree.of.place) (option_to_list (field_type ts f)) in
        let rules = map (given_rule ts at.here path at.under) f.tree.rules in
        let initials = flat_map (given_initials ts at list) (option_to_list f.tree.initial) in
        let initial_uses = option_map_or (initial_value_rows ts f.holder f.tree) f.tree.initial [] in
        let rule_uses = flat_map (rule_rows ts.table (field_scope ts f.holder f.tree)) f.tree.rules in
        elim (in_either g (conditions ++ rules) initials i) as (λ _. GivenSound g) [
          | inl j ↦ elim (in_either g conditions rules j) as (λ _. GivenSound g) [
            | inl l ↦ let m = flat_map_in (given_conditions ts at f.tree.of.place) (option_to_list (field_type ts f)) g l in condition_given f.tree.of.place m.0 (of_option (field_type ts f) m.0 m.1) g m.2
            | inr l ↦ rule_given (rows_right initial_uses rule_uses rows) (λ e n. short e (in_right e (option_to_list f.tree.initial) (flat_map rule_exprs f.tree.rules) n)) g l
          ]
          | inr j ↦
              let m = flat_map_in (given_initials ts at list) (option_to_list f.tree.initial) g j in
              let initial = of_option f.tree.initial m.0 m.1 in
              initial_given shape m.0 initial (subst (λ o. any_holds (option_map_or (initial_value_rows ts f.holder f.tree) o []) ≡ false) initial (rows_left initial_uses rule_uses rows))
              (short m.0 (in_left m.0 (option_to_list f.tree.initial) (flat_map rule_exprs f.tree.rules) m.1)) g m.2
        ]

  -- the constraints of an object's members
  own_given : (path : Path) (t : ℕ) (g : Given) → In g (own_givens ts path t) → GivenSound g
  own_given path t g i =
      let m = flat_map_in (λ (m : Member). given_member ts path t m m.written.member) (members ts t) g i in
      by m.0 m.1 m.0.written.member refl (member_uses ts k.known.inherited k.known.uses t m.0 m.1) (k.begun t m.0 m.1) (k.short t m.0 m.1) m.2
    where
      by : (m : Member) → In m (members ts t) → (tree : MemberTree) → m.written.member ≡ tree → any_holds (member_use_rows ts m.holder tree) ≡ false → any_holds (initial_rows ts.table.heads tree) ≡ false
          → ((e : ExprTree) → In e (member_exprs tree) → are_short e ≡ true) → In g (given_member ts path t m tree) → GivenSound g
      by m j (MemberTree.Field x) same rows shape short l =
          let f = flat_map_in (given_field ts path t) (fields_declared m (MemberTree.Field x)) g l in
          let n = map_in (λ (i : Ident). record { name = i; tree = x; holder = m.holder; under = m.under }) x.names f.0 f.1 in
          let tree : f.0.tree ≡ x = ap (λ (z : Field). z.tree) n.2 in
          let holder : f.0.holder ≡ m.holder = ap (λ (z : Field). z.holder) n.2 in
          let inside : In f.0 (fields ts t) = in_flat_map (λ (m : Member). fields_declared m m.written.member) (members ts t) m f.0 j (subst (λ z. In f.0 (fields_declared m z)) (sym same) f.1) in
          let of = k.known.declared t f.0 inside in
          field_given path t f.0 inside of.0 of.1
          (subst (λ z. any_holds (field_use_rows ts z f.0.tree) ≡ false) (sym holder) (subst (λ z. any_holds (field_use_rows ts m.holder z) ≡ false) (sym tree) rows))
          (subst (λ z. any_holds (initial_rows ts.table.heads (MemberTree.Field z)) ≡ false) (sym tree) shape) (subst (λ z. (e : ExprTree) → In e (member_exprs (MemberTree.Field z)) → are_short e ≡ true) (sym tree) short) g f.2
      by m j (MemberTree.Rule r) same rows shape short (inl e) =
          let here : Here = record { object = path; it = path; scope = scope_at ts m.holder None [] } in
          subst GivenSound (sym e) (rule_sound ts k.small here (scope_resolved ts k.known.kinds k.resolves m.holder None [] refl) path (guards_under ts path t m.under) r rows short)
      by m j (MemberTree.Rule r) same rows shape short (inr l) = absurd l
      by m j (MemberTree.Do place phase) same rows shape short l = absurd l

  -- ---- phases

  module _ (t : ℕ) (call : Calling) (d : Do) (is : the_do ts t ≡ Some d) (p : PhaseHere) (i : In p (phases_in d.phase)) (holder : call.holder ≡ d.holder) (way : call.way ≡ p.way) where
    uses : any_holds (phase_rows ts call.holder call.way p.phase) ≡ false
    uses = subst (λ z. any_holds (phase_rows ts z call.way p.phase) ≡ false) (sym holder) (subst (λ z. any_holds (phase_rows ts d.holder z p.phase) ≡ false) (sym way) (phase_uses ts k.known.inherited k.known.uses t d is p i))

    abbrev bare : Scope
    bare = scope_at ts call.holder None call.way

    bare_resolved : IsResolved ts.table bare
    bare_resolved = scope_resolved ts k.known.kinds k.resolves call.holder None call.way refl

    -- the duration of a `wait`
    wait_given : (label : Option Ident) (place : Place) (elapsed : ExprTree) → p.phase ≡ Wait label place elapsed → GivenSound (given_duration ts call elapsed)
    wait_given label place elapsed e =
        duration_sound ts k.small call bare_resolved elapsed (subst (λ z. any_holds (phase_rows ts call.holder call.way z) ≡ false) e uses)
        (phase_short ts k.short t d is p i elapsed (subst (λ z. In elapsed (own_exprs z)) (sym e) (inl refl)))

    -- the duration of a composition
    comp_given : (label : Option Ident) (place : Place) (kind : CompKind) (arguments : List ArgumentTree) (inner : PhaseRow) → p.phase ≡ Comp label place kind arguments inner → (g : Given) → In g (comp_givens ts call arguments) → GivenSound g
    comp_given label place kind arguments inner e g j =
        let m = map_in (given_duration ts call) (option_to_list (argument_named (codes "duration") arguments)) g j in
        let rows = subst (λ z. any_holds (phase_rows ts call.holder call.way z) ≡ false) e uses in
        subst GivenSound (sym m.2) (by m.0 (find (λ (a : ArgumentTree). option_map_or (λ (i : Ident). bytes_eq i.text (codes "duration")) a.name false) arguments) refl (of_option (argument_named (codes "duration") arguments) m.0 m.1) rows)
      where
        stated : (earlier : List (List ℕ)) (xs : List ArgumentTree) → any_holds (composition_rows ts.table bare kind earlier xs) ≡ false → (a : ArgumentTree) → In a xs → option_map_or (λ (i : Ident). bytes_eq i.text (codes "duration")) a.name false ≡ true
            → any_holds (duration_fit_rows (first a.value) (typed ts.table bare a.value) ++ expr_rows ts.table bare a.value) ≡ false
        stated earlier [] rows a l h = absurd l
        stated earlier (x ∷ xs) rows a (inl same) h =
            named_row a.name (subst (λ (z : ArgumentTree). any_holds (option_map_or (λ (i : Ident). named_rows ts.table bare kind earlier i z.value) z.name (row (first z.value) FaultCode.BadArgument true ∷ expr_rows ts.table bare z.value)) ≡ false) (sym same)
            (rows_left (option_map_or (λ (i : Ident). named_rows ts.table bare kind earlier i x.value) x.name (row (first x.value) FaultCode.BadArgument true ∷ expr_rows ts.table bare x.value)) _ rows)) h
          where
            named_row : (o : Option Ident) → any_holds (option_map_or (λ (i : Ident). named_rows ts.table bare kind earlier i a.value) o (row (first a.value) FaultCode.BadArgument true ∷ expr_rows ts.table bare a.value)) ≡ false
                → option_map_or (λ (i : Ident). bytes_eq i.text (codes "duration")) o false ≡ true
                → any_holds (duration_fit_rows (first a.value) (typed ts.table bare a.value) ++ expr_rows ts.table bare a.value) ≡ false
            named_row None r h = absurd (true≢false (sym h))
            named_row (Some n) r h =
                first_rows_of (bytes_eq n.text (codes "duration")) h (duration_fit_rows (first a.value) (typed ts.table bare a.value) ++ expr_rows ts.table bare a.value) _ (no_right (among n.text earlier) _ r)
        stated earlier (x ∷ xs) rows a (inr l) h =
            stated (option_map_or (λ (i : Ident). i.text ∷ []) x.name [] ++ earlier) xs
            (rows_right (option_map_or (λ (i : Ident). named_rows ts.table bare kind earlier i x.value) x.name (row (first x.value) FaultCode.BadArgument true ∷ expr_rows ts.table bare x.value)) _ rows) a l h

        by : (value : ExprTree) (o : Option ArgumentTree) → find (λ (a : ArgumentTree). option_map_or (λ (i : Ident). bytes_eq i.text (codes "duration")) a.name false) arguments ≡ o → option_map (λ (a : ArgumentTree). a.value) o ≡ Some value
            → any_holds (composition_rows ts.table bare kind [] arguments) ≡ false → GivenSound (given_duration ts call value)
        by value None q h rows = cc
        by value (Some a) q h rows =
            let same : a.value ≡ value = cc in
            let hit = found_in (λ (a : ArgumentTree). option_map_or (λ (i : Ident). bytes_eq i.text (codes "duration")) a.name false) arguments a q in
            subst (λ z. GivenSound (given_duration ts call z)) same
            (duration_sound ts k.small call bare_resolved a.value (stated [] arguments rows a hit.0 hit.1)
            (phase_short ts k.short t d is p i a.value (subst (λ z. In a.value (own_exprs z)) (sym e) (in_flat_map (λ (a : ArgumentTree). a.value ∷ []) arguments a a.value hit.0 (inl refl)))))

    module _ (label : Option Ident) (head : InvokeHead) (names : List Ident) (arguments : List ArgumentTree) (parts : List PartTree) (e : p.phase ≡ Invoke label head names arguments parts) (of : ℕ) (to : invoked ts d.holder head names ≡ Some of) where
      abbrev here : Here
      here = here_in ts call (Some (It.Of of None))

      call_resolved : IsResolved ts.table here.scope
      call_resolved = scope_resolved ts k.known.kinds k.resolves call.holder (Some (It.Of of None)) call.way refl

      behaves : is_behaviour (form ts.table.heads of) ≡ true
      behaves = invoked_behaviour ts k.known.owned d.holder (callee head names) of to

      it_whole : (place : Place) → typed ts.table here.scope (ExprTree.It place) ≡ Some (Whole (info_at place (ValueKind.Object of) unit_size) (then_name root (codes "it")))
      it_whole place = single_whole ts.table place (then_name root (codes "it")) of (or_right (is_object (form ts.table.heads of)) (is_behaviour (form ts.table.heads of)) behaves)
        where
          or_right : (a b : Bool) → b ≡ true → a || b ≡ true
          or_right true b h = refl
          or_right false b h = h

      -- what is given to a field of what is invoked
      value_given : (f : Field) → In f (fields ts of) → (value : ExprTree) → any_holds (expr_rows ts.table bare value) ≡ false → are_short value ≡ true
          → is_some f.tree.list ≡ false → (v : ℕ) → field_type ts f ≡ Some v → any_holds (given_rows ts bare v value) ≡ false
          → (l : Typed) → parameter ts here value f ≡ Some l → GivenSound (given_required ts here call.path (Some l) value)
      value_given f inside value free short alone v is_v rows l h =
          let q = then_name (then_name root (codes "it")) f.name.text in
          let left = member_typed ts.table here.scope (first value) of (it_whole (first value)) f.name (record { name = f.name.text; of = v; length = list_length f.tree }) (named_field ts k of f.name.text f v (k.known.inherited.found of f inside) is_v) in
          let one : list_length f.tree ≡ None = none_listed f.tree.list refl alone in
          let there : typed ts.table here.scope (ExprTree.Dot (ExprTree.It (first value)) f.name) ≡ single ts.table (first value) q v = left ∙ ap (λ n. held_at ts.table (first value) q v n) one in
          by (has_members (form ts.table.heads v)) refl there
        where
          none_listed : (o : Option Place) → f.tree.list ≡ o → is_some o ≡ false → list_length f.tree ≡ None
          none_listed None e q = ap (λ (o : Option Place). option_map (λ (place : Place). items_in f.tree.initial) o) e
          none_listed (Some x) e q = absurd (true≢false q)

          found : (x : Typed) → typed ts.table here.scope (ExprTree.Dot (ExprTree.It (first value)) f.name) ≡ Some x → (l ≡ moved (from_root here) x) × (is_some (read_at l) ≡ true)
          found x e =
              let g = found_in (λ (l : Typed). is_some (read_at l)) (option_to_list (typed_here ts here (ExprTree.Dot (ExprTree.It (first value)) f.name))) l h in
              (some_same (sym (of_option (typed_here ts here (ExprTree.Dot (ExprTree.It (first value)) f.name)) l g.0) ∙ ap (λ o. option_map (moved (from_root here)) o) e), g.1)
            where
              some_same : {a b : Typed} → Some a ≡ Some b → a ≡ b
              some_same e = cc

          by : (b : Bool) → has_members (form ts.table.heads v) ≡ b
              → typed ts.table here.scope (ExprTree.Dot (ExprTree.It (first value)) f.name) ≡ single ts.table (first value) (then_name (then_name root (codes "it")) f.name.text) v
              → GivenSound (given_required ts here call.path (Some l) value)
          by true m there =
              let q = then_name (then_name root (codes "it")) f.name.text in
              let g = found (Whole (info_at (first value) (ValueKind.Object v) unit_size) q) (there ∙ single_whole ts.table (first value) q v m) in
              absurd (true≢false (sym g.1 ∙ ap (λ z. is_some (read_at z)) g.0))
          by false m there =
              let q = then_name (then_name root (codes "it")) f.name.text in
              let kd = k.known.kinds.kinds v in
              let x : Typed = Read (info_at (first value) kd.0 (field_size (per_of (form ts.table.heads v)))) q (per_of (form ts.table.heads v)) in
              let is_x = there ∙ single_read ts.table (first value) q v kd.0 kd.1 m in
              let g = found x is_x in
              let y = typed_or_refused ts.table bare bare_resolved value free in
              let is_y = sym (it_free ts.table bare (Some (It.Of of None)) refl value free) ∙ y.1 in
              let kinds = second_rows_of (is_object (form ts.table.heads v)) (no_left (is_object (form ts.table.heads v)) (is_behaviour (form ts.table.heads v)) m) (object_rows ts.table bare v value)
              (with_kind ts v (λ k s. argument_fit_rows k s (first value) (typed ts.table bare value))) rows in
              let fits = subst (λ o. any_holds (option_map_or (λ k. argument_fit_rows k (field_size (per_of (form ts.table.heads v))) (first value) (typed ts.table bare value)) o []) ≡ false) kd.1 kinds in
              subst (λ z. GivenSound (given_required ts here call.path (Some z) value)) (sym g.0)
              (given_sound ts k.small here call.path (first value) x (typed_good ts.table k.small here.scope (ExprTree.Dot (ExprTree.It (first value)) f.name) refl x is_x) refl value y.0 is_y short
              (subst (λ o. any_holds (argument_fit_rows kd.0 (field_size (per_of (form ts.table.heads v))) (first value) o) ≡ false) y.1 fits))

      -- the constraints of arguments
      arguments_given : (earlier : List (List ℕ)) (n : ℕ) (xs : List ArgumentTree) → any_holds (arguments_rows ts bare of earlier n xs) ≡ false → ((a : ArgumentTree) → In a xs → are_short a.value ≡ true)
          → (g : Given) → In g (of_arguments ts of (given_argument ts call here) n xs) → GivenSound g
      arguments_given earlier n [] rows short g j = absurd j
      arguments_given earlier n (a ∷ others) rows short g j =
          let first_rows = expr_rows ts.table bare a.value in
          let second_rows = assigned_rows ts bare earlier a (assigned ts of n a.name) in
          let third_rows = arguments_rows ts bare of (name_assigned (assigned ts of n a.name) ++ earlier) (n + 1) others in
          let both_rows = rows_left (first_rows ++ second_rows) third_rows rows in
          elim (in_either g (given_argument ts call here a.value (assigned ts of n a.name)) (of_arguments ts of (given_argument ts call here) (n + 1) others) j) as (λ _. GivenSound g) [
            | inl l ↦ by (assigned ts of n a.name) refl (rows_left first_rows second_rows both_rows) (rows_right first_rows second_rows both_rows) l
            | inr l ↦ arguments_given (name_assigned (assigned ts of n a.name) ++ earlier) (n + 1) others (rows_right (first_rows ++ second_rows) third_rows rows) (λ x i. short x (inr i)) g l
          ]
        where
          by : (c : Assigned) → assigned ts of n a.name ≡ c → any_holds (expr_rows ts.table bare a.value) ≡ false → any_holds (assigned_rows ts bare earlier a c) ≡ false
              → In g (given_argument ts call here a.value c) → GivenSound g
          by Assigned.Surplus q free fits l = absurd l
          by (Assigned.Unknown name) q free fits l = absurd l
          by Assigned.Duration q free fits (inl same) =
              subst GivenSound (sym same) (duration_sound ts k.small call bare_resolved a.value
              (rows_both (duration_fit_rows (first a.value) (typed ts.table bare a.value)) (expr_rows ts.table bare a.value) (no_right (among (codes "duration") earlier) _ fits) free) (short a (inl refl)))
          by Assigned.Duration q free fits (inr l) = absurd l
          by (Assigned.Given f) q free fits l =
              let inside = assigned_in ts of n a.name f q in
              let m = map_in (λ (p : Typed). given_required ts here call.path (Some p) a.value) (option_to_list (parameter ts here a.value f)) g l in
              let alone = no_right (among f.name.text earlier) (is_some f.tree.list) (no_left (among f.name.text earlier || is_some f.tree.list) _ fits) in
              let v = k.known.declared of f inside in
              let rest = second_rows_of (is_some f.tree.list) alone [] (option_map_or (λ t. given_rows ts bare t a.value) (field_type ts f) []) (no_right (among f.name.text earlier || is_some f.tree.list) _ fits) in
              let judged = subst (λ o. any_holds (option_map_or (λ t. given_rows ts bare t a.value) o []) ≡ false) v.1 rest in
              subst GivenSound (sym m.2) (value_given f inside a.value free (short a (inl refl)) alone v.0 v.1 judged m.0 (of_option (parameter ts here a.value f) m.0 m.1))

      -- the constraints of an invocation
      call_given : (g : Given) → In g (call_givens ts call of arguments parts) → GivenSound g
      call_given g j =
          let found : invoked ts call.holder head names ≡ Some of = ap (λ z. invoked ts z head names) holder ∙ to in
          let rows : any_holds (phase_rows ts call.holder call.way (Invoke label head names arguments parts)) ≡ false = subst (λ z. any_holds (phase_rows ts call.holder call.way z) ≡ false) e uses in
          let first_rows = callee_rows ts bare (callee head names) in
          let second_rows = call_rows ts bare (invoked ts call.holder head names) arguments in
          let third_rows = flat_map (part_rows ts (scope_at ts call.holder (Some (it_made (invoked ts call.holder head names))) call.way) (invoked ts call.holder head names)) parts in
          let argument_uses = subst (λ o. any_holds (call_rows ts bare o arguments) ≡ false) found (rows_right first_rows second_rows (rows_left (first_rows ++ second_rows) third_rows rows)) in
          let part_uses = subst (λ o. any_holds (flat_map (part_rows ts (scope_at ts call.holder (Some (it_made o)) call.way) o) parts) ≡ false) found (rows_right (first_rows ++ second_rows) third_rows rows) in
          elim (in_either g (of_arguments ts of (given_argument ts call here) 0 arguments) (flat_map (part_rule ts call here) parts) j) as (λ _. GivenSound g) [
            | inl l ↦ arguments_given [] 0 arguments argument_uses (λ a n. short a.value (in_left a.value (argument_exprs arguments) (flat_map part_exprs parts) (in_flat_map (λ (a : ArgumentTree). a.value ∷ []) arguments a a.value n (inl refl)))) g l
            | inr l ↦
                let m = flat_map_in (part_rule ts call here) parts g l in
                by m.0 (rows_among (part_rows ts (scope_at ts call.holder (Some (It.Of of None)) call.way) (Some of)) parts part_uses m.0 m.1)
                (λ x n. short x (in_right x (argument_exprs arguments) (flat_map part_exprs parts) (in_flat_map part_exprs parts m.0 x m.1 n))) m.2
          ]
        where
          short : (x : ExprTree) → In x (argument_exprs arguments ++ flat_map part_exprs parts) → are_short x ≡ true
          short x n = phase_short ts k.short t d is p i x (subst (λ z. In x (own_exprs z)) (sym e) n)

          by : (part : PartTree) → any_holds (part_rows ts (scope_at ts call.holder (Some (It.Of of None)) call.way) (Some of) part) ≡ false → ((x : ExprTree) → In x (part_exprs part) → are_short x ≡ true)
              → In g (part_rule ts call here part) → GivenSound g
          by (PartTree.RulePart r) rows short (inl same) = subst GivenSound (sym same) (rule_sound ts k.small here call_resolved call.path [] r rows short)
          by (PartTree.RulePart r) rows short (inr l) = absurd l
          by (PartTree.ModifierPart m) rows short l = absurd l

  -- ---- all texts

  pub all_sound : (whole : ℕ) (g : Given) → In g (givens_of (expansion ts whole)) → GivenSound g
  all_sound whole = (each_text ts (λ path t gs bindings. Unit {0}) GivenSound (λ m. Unit {0}) (λ b. Unit {0})
      (λ path t gs bindings q g i. own_given path t g i)
      (λ path t gs bindings q d is p i label place kind arguments inner e g j. comp_given t (calling bindings path gs d p) d is p i refl refl label place kind arguments inner e g j)
      (λ path t gs bindings q d is p i label place elapsed e. wait_given t (calling bindings path gs d p) d is p i refl refl label place elapsed e)
      (λ path t gs bindings q d is p i label head names arguments parts e of to g j. call_given t (calling bindings path gs d p) d is p i refl refl label head names arguments parts e of to g j)
      (λ path t gs bindings q d is p i label head names arguments parts e of to m j. tt)
      (λ path t gs bindings q d is p i label head names arguments parts e of to b j. tt)
      (λ path t gs bindings q f i of typed test. tt)
      (λ path t gs bindings q d is p i label head names arguments parts e of to. tt)
      whole tt (λ x e. tt)).givens

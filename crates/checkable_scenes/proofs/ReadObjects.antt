-- Where objects stand, and what their parameters are other names of.
use Rattle.std.proofs.Common.{◌≡◌, ℕ, zero, suc, ◌+◌, refl, sym, ap, ◌∙◌, subst, ◌⊎◌, inl, inr, List, [], ◌∷◌, ◌++◌, Bool, true, false, ◌||◌, not, cond, Option, Some, None, true≢false}
use Rattle.std.specs.Prelude.{flat_map, option_to_list, option_map, option_and_then, is_some, slice_get, bytes_eq, codes}
use Rattle.std.specs.Option.{option_map_or}
use Rattle.osc_base.specs.declared.path.Path.{Path}
use Rattle.osc_base.specs.Paths.{then_name}
use Rattle.expr_eval.specs.dsl_tree.declared.parts.Ident.{Ident}
use Rattle.expr_eval.specs.dsl_tree.declared.phases.InvokeHead.{InvokeHead}
use Rattle.expr_eval.specs.dsl_tree.ExprTree.{ExprTree}
use Rattle.expr_eval.specs.dsl_tree.PhaseTree.{ArgumentTree, PartTree, Invoke}
use Rattle.expr_eval.specs.dsl_tree.FileTree.{MemberTree}
use Rattle.expr_eval.specs.type_heads.Table.{form, bases, is_actor, is_object, is_behaviour, is_kind_of}
use Rattle.expr_eval.specs.type_heads.Types.{Types, Member, Field, Do}
use Rattle.expr_eval.specs.type_heads.Members.{fields, field, field_type, do_declared, the_do}
use Rattle.expr_eval.specs.expr_nodes.Kinds.{ValueKind, object_type}
use Rattle.expr_eval.specs.expr_nodes.Typed as Typing
use Rattle.expr_eval.specs.expr_nodes.Typed.{Typed, Info, Whole, kind, moved}
use Rattle.expr_eval.specs.expr_nodes.Scope.{It, Scope}
use Rattle.expr_eval.specs.expr_nodes.Sizes.{field_size}
use Rattle.expr_eval.specs.expr_nodes.Names.{per_of}
use Rattle.expr_eval.specs.expr_nodes.Parts.{any_holds, of_one}
use Rattle.expr_eval.specs.expr_nodes.Fits.{argument_fit_rows}
use Rattle.expr_eval.specs.expr_nodes.Typing.{typed, expr_rows, first, is_path}
use Rattle.run_values.specs.composition.declared.guard.Guard.{Guard}
use Rattle.run_values.specs.composition.Calls.{PhaseHere, phases_in, Callee, callee, actor_type, owned_behaviour, called, without_labels, invoked, scope_at, Assigned, assigned}
use Rattle.run_values.specs.composition.Uses.{among, begins_with_label, isnt_path_to, is_object_of, object_rows, with_kind, given_rows, name_assigned, assigned_rows, arguments_rows, callee_rows, call_rows, part_rows, it_made, phase_rows, use_rows}
use Rattle.run_values.specs.composition.Scenes.{Binding}
use Rattle.run_values.specs.composition.Homes.{home}
use Rattle.run_values.specs.composition.Givens.{Here, from_root, typed_here}
use Rattle.run_values.specs.composition.Expansion.{Calling, calling, here_in, object_at, binding, argument_binding, actor_binding, of_arguments}
use Rattle.run_values.proofs.of_field_flatten.Tests.{In, in_either, map_in, found_in}
use Rattle.scene_laws.specs.Premises.{is_free}
use Rattle.scene_laws.proofs.FaultRows.{no_left, no_right, rows_left, rows_right, holds_not}
use Rattle.scene_laws.proofs.Picked.{of_option}
use Rattle.scene_laws.proofs.Acyclic.{has_in}
use Rattle.scene_laws.proofs.OwnedHeads.{AreOwned, invoked_behaviour}
use Rattle.scene_laws.proofs.FullPhases.{do_is}
use Rattle.scene_laws.proofs.PhasePaths.{do_within}
use Rattle.scene_laws.proofs.EachSpot.{call_bindings}
use Rattle.scene_laws.proofs.PlacedObjects.{scenario_behaves}
use Rattle.checkable_scenes.proofs.ConditionFields.{IsInherited}
use Rattle.checkable_scenes.proofs.ResolvedScopes.{HasKinds}
use Rattle.checkable_scenes.proofs.JudgedUses.{phase_uses}
use Rattle.checkable_scenes.proofs.PhaseSteps.{OnlyPhases, IsThing, named_thing, only_both, IsBinding, AreBindings, thing_home}
use Rattle.checkable_scenes.proofs.TypedShapes.{IsObjectAt, PathsKnown, typed_shape}
use Rattle.checkable_scenes.proofs.ReadFacts.{HoldNoBehaviours, AreAlike, up_alike, holder_alike, not_do}
use Rattle.checkable_scenes.proofs.KnownPaths.{ReadsKnown, labels_known, known_paths, it_free, members_only, words_apart, actor_still}

-- what is known of a program's types
pub record AllKnown (ts : Types) : Type 0 where
  pub inherited : IsInherited ts
  pub reads : ReadsKnown ts
  pub alike : AreAlike ts
  pub holds : HoldNoBehaviours ts
  pub declared : (t : ℕ) (f : Field) → In f (fields ts t) → (of : ℕ) × (field_type ts f ≡ Some of)
  pub kinds : HasKinds ts.table
  pub uses : any_holds (use_rows ts) ≡ false
  pub free : (t : ℕ) (f : Field) → In f (fields ts t) → is_free f.name.text ≡ true
  pub untimed : (t : ℕ) → is_behaviour (form ts.table.heads t) ≡ true → (f : Field) → In f (fields ts t) → f.name.text ≡ codes "duration" → ⊥
  pub owned : AreOwned ts.table.heads

-- an object, and the bindings of its parameters
pub record At (ts : Types) (path : Path) (t : ℕ) (bindings : List Binding) : Type 0 where
  pub place : IsObjectAt ts.table t path
  pub bound : AreBindings bindings

-- a binding to a whole object
record OfWhole (ts : Types) (call : Calling) (here : Here) (name : List ℕ) (value : ExprTree) (b : Binding) : Type 0 where
  info : Info
  path : Path
  typed_is : typed ts.table here.scope value ≡ Some (Whole info path)
  is : b ≡ record { at = then_name call.path name; home = home call.bindings (from_root here path) }

of_whole : (ts : Types) (call : Calling) (here : Here) (name : List ℕ) (value : ExprTree) (b : Binding) → In b (binding ts call here name value) → OfWhole ts call here name value b
of_whole ts call here name value b i =
    let m = map_in (λ object. record { at = then_name call.path name; home = home call.bindings object }) (option_to_list (option_and_then object_at (typed_here ts here value))) b i in
    by m.0 m.2 (typed ts.table here.scope value) refl (of_option (option_and_then object_at (typed_here ts here value)) m.0 m.1)
  where
    one : (object : Path) → b ≡ record { at = then_name call.path name; home = home call.bindings object } → (x : Typed) → typed ts.table here.scope value ≡ Some x → object_at (moved (from_root here) x) ≡ Some object → OfWhole ts call here name value b
    one object e (Typing.Whole i q) is h =
        let same : from_root here q ≡ object = cc in
        record { info = i; path = q; typed_is = is; is = e ∙ ap (λ z. record { at = then_name call.path name; home = home call.bindings z }) (sym same) }
    one object e (Typing.Read i path per) is h = cc
    one object e (Typing.Listed i f items) is h = cc
    one object e (Typing.Constant i n) is h = cc
    one object e (Typing.Span i l r) is h = cc
    one object e (Typing.Minus i a) is h = cc
    one object e (Typing.Not i a) is h = cc
    one object e (Typing.Sum i l r) is h = cc
    one object e (Typing.Times i l r) is h = cc
    one object e (Typing.And i l r) is h = cc
    one object e (Typing.Or i l r) is h = cc
    one object e (Typing.Implies i l r) is h = cc
    one object e (Typing.Relation i s l r) is h = cc
    one object e (Typing.Within i l r) is h = cc

    by : (object : Path) → b ≡ record { at = then_name call.path name; home = home call.bindings object } → (o : Option Typed) → typed ts.table here.scope value ≡ o → option_and_then object_at (option_map (moved (from_root here)) o) ≡ Some object → OfWhole ts call here name value b
    by object e None is h = cc
    by object e (Some x) is h = one object e x is h

pub object_of : (v : ValueKind) (test : ℕ → Bool) → option_map_or test (object_type v) false ≡ true → (u : ℕ) × (v ≡ ValueKind.Object u) × (test u ≡ true)
object_of (ValueKind.Object u) test h = (u, refl, h)
object_of ValueKind.Truth test h = absurd (true≢false (sym h))
object_of (ValueKind.Number x) test h = absurd (true≢false (sym h))
object_of (ValueKind.Member x) test h = absurd (true≢false (sym h))
object_of ValueKind.Chars test h = absurd (true≢false (sym h))
object_of (ValueKind.Phase x) test h = absurd (true≢false (sym h))

-- an argument goes to a field of what is invoked
pub assigned_in : (ts : Types) (of n : ℕ) (name : Option Ident) (f : Field) → assigned ts of n name ≡ Assigned.Given f → In f (fields ts of)
assigned_in ts of n None f g = by (slice_get (fields ts of) n) refl g
  where
    at_index : (fs : List Field) (m : ℕ) (x : Field) → slice_get fs m ≡ Some x → In x fs
    at_index [] m x h = cc
    at_index (y ∷ ys) zero x h = let same : y ≡ x = cc in inl (sym same)
    at_index (y ∷ ys) (suc m) x h = inr (at_index ys m x h)

    by : (o : Option Field) → slice_get (fields ts of) n ≡ o → option_map_or Assigned.Given o Assigned.Surplus ≡ Assigned.Given f → In f (fields ts of)
    by None q h = cc
    by (Some x) q h = let same : x ≡ f = cc in subst (λ z. In z (fields ts of)) same (at_index (fields ts of) n x q)
assigned_in ts of n (Some name) f g = by_name (bytes_eq name.text (codes "duration")) g
  where
    by : (o : Option Field) → field ts of name.text ≡ o → option_map_or Assigned.Given o (Assigned.Unknown name) ≡ Assigned.Given f → In f (fields ts of)
    by None q h = cc
    by (Some x) q h = let same : x ≡ f = cc in subst (λ z. In z (fields ts of)) same (found_in (λ (f : Field). bytes_eq f.name.text name.text) (fields ts of) x q).0

    by_name : (b : Bool) → cond b Assigned.Duration (option_map_or Assigned.Given (field ts of name.text) (Assigned.Unknown name)) ≡ Assigned.Given f → In f (fields ts of)
    by_name true h = cc
    by_name false h = by (field ts of name.text) refl h

module _ (ts : Types) (k : AllKnown ts) where
  pub field_thing : (path : Path) (t : ℕ) (bindings : List Binding) → At ts path t bindings → (f : Field) → In f (fields ts t) → IsThing (then_name path f.name.text).steps
  field_thing path t bindings a f i = named_thing path.steps f.name.text (not_do f.name.text (k.free t f i)) (λ same only. by a.place same only)
    where
      by : IsObjectAt ts.table t path → f.name.text ≡ codes "duration" → OnlyPhases path.steps → ⊥
      by (inl b) same only = k.untimed t b.0 f i same
      by (inr b) same only = b.1.0 only

  pub field_at : (path : Path) (t : ℕ) (bindings : List Binding) → At ts path t bindings → (f : Field) → In f (fields ts t) → (of : ℕ) → field_type ts f ≡ Some of → At ts (then_name path f.name.text) of []
  field_at path t bindings a f i of typed = record { place = inr (k.holds t f i of typed, field_thing path t bindings a f i); bound = λ b j. absurd j }

  do_alike : (t : ℕ) (d : Do) → the_do ts t ≡ Some d → is_behaviour (form ts.table.heads t) ≡ is_behaviour (form ts.table.heads d.holder)
  do_alike t d is = let m = do_is ts t d is in holder_alike ts k.inherited k.alike t m.0 m.1 ∙ ap (λ z. is_behaviour (form ts.table.heads z)) (by m.0 m.0.written.member m.2)
    where
      by : (m : Member) (tree : MemberTree) → do_declared m tree ≡ Some d → m.holder ≡ d.holder
      by m (MemberTree.Do place phase) e = let same : record { holder = m.holder; place = place; phase = phase; under = m.under } ≡ d = cc in ap (λ (z : Do). z.holder) same
      by m (MemberTree.Field x) e = cc
      by m (MemberTree.Rule r) e = cc

  module _ (path : Path) (t : ℕ) (gs : List Guard) (bindings : List Binding) (a : At ts path t bindings) (d : Do) (is : the_do ts t ≡ Some d) (p : PhaseHere) (i : In p (phases_in d.phase)) where
    abbrev call : Calling
    call = calling bindings path gs d p

    pub call_phases : OnlyPhases (calling bindings path gs d p).path.steps
    call_phases =
        let w = do_within d.phase p i in
        only_both path.steps p.path.steps (by a.place) (subst OnlyPhases (sym w.2) (refl, members_only w.0 w.1))
      where
        by : IsObjectAt ts.table t path → OnlyPhases path.steps
        by (inl b) = b.1
        by (inr b) = absurd (true≢false (sym (scenario_behaves (form ts.table.heads t) (k.reads.scenarios t d is)) ∙ b.0))

    -- the paths of a text of the phase outside its `with:`
    pub bare_paths : PathsKnown ts.table (here_in ts (calling bindings path gs d p) None).scope (from_root (here_in ts (calling bindings path gs d p) None))
    bare_paths = known_paths ts k.reads t path (calling bindings path gs d p).path (scope_at ts d.holder None p.way) (do_alike t d is) a.place (labels_known ts k.reads d.holder None p.way) (λ u n e. absurd (never e))
      where
        never : {x : It} → None ≡ Some x → ⊥
        never e = cc

    actor_paths : PathsKnown ts.table (without_labels d.holder) (from_root (record (here_in ts (calling bindings path gs d p) None) { scope = without_labels d.holder }))
    actor_paths = known_paths ts k.reads t path (calling bindings path gs d p).path (without_labels d.holder) (do_alike t d is) a.place (λ l j. absurd j) (λ u n e. absurd (never e))
      where
        never : {x : It} → None ≡ Some x → ⊥
        never e = cc

    module _ (label : Option Ident) (head : InvokeHead) (names : List Ident) (arguments : List ArgumentTree) (parts : List PartTree) (e : p.phase ≡ Invoke label head names arguments parts) (of : ℕ) (to : invoked ts d.holder head names ≡ Some of) where
      of_behaves : is_behaviour (form ts.table.heads of) ≡ true
      of_behaves = invoked_behaviour ts k.owned d.holder (callee head names) of to

      -- the paths of a text of its `with:`
      pub call_paths : PathsKnown ts.table (here_in ts (calling bindings path gs d p) (Some (It.Of of None))).scope (from_root (here_in ts (calling bindings path gs d p) (Some (It.Of of None))))
      call_paths = known_paths ts k.reads t path (calling bindings path gs d p).path (scope_at ts d.holder (Some (It.Of of None)) p.way) (do_alike t d is) a.place (labels_known ts k.reads d.holder (Some (It.Of of None)) p.way)
          (λ u n g. its u n g)
        where
          its : (u : ℕ) (n : Option ℕ) → Some (It.Of of None) ≡ Some (It.Of u n) → IsObjectAt ts.table u (calling bindings path gs d p).path × ((n ≡ None) ⊎ IsThing (calling bindings path gs d p).path.steps)
          its u n g =
              let same : of ≡ u = cc in
              let none : None ≡ n = cc in
              (inl (subst (λ z. is_behaviour (form ts.table.heads z) ≡ true) same of_behaves, call_phases), inl (sym none))

      -- a whole object of a type that doesn't behave
      whole_thing : (sc : Scope) (here : Here) → here.scope ≡ sc → PathsKnown ts.table sc (from_root here) → (value : ExprTree) (i : Info) (q : Path) → typed ts.table sc value ≡ Some (Whole i q) → (u : ℕ) → i.kind ≡ ValueKind.Object u → is_behaviour (form ts.table.heads u) ≡ false → IsThing (from_root here q).steps
      whole_thing sc here same known value j q h u kind still = by ((typed_shape ts.table (from_root here) k.reads.fields sc known value (Whole j q) h).1 u kind)
        where
          by : IsObjectAt ts.table u (from_root here q) → IsThing (from_root here q).steps
          by (inl b) = absurd (true≢false (sym b.0 ∙ still))
          by (inr b) = b.1

      made_binding : (here : Here) (name : List ℕ) (value : ExprTree) (b : Binding) (w : OfWhole ts (calling bindings path gs d p) here name value b) → (name ≡ codes "do" → ⊥) → (name ≡ codes "duration" → ⊥) → IsThing (from_root here w.path).steps → IsBinding b
      made_binding here name value b w free untimed thing =
          subst IsBinding (sym w.is) (record { base = (calling bindings path gs d p).path.steps; name = name; at = refl; free = free; untimed = untimed; thing = thing_home bindings a.bound (from_root here w.path) thing })

      actor_bound : (c : Callee) → called ts d.holder c ≡ Some of → (b : Binding) → In b (actor_binding ts (calling bindings path gs d p) c) → IsBinding b
      actor_bound (Callee.Alone name) h b j = absurd j
      actor_bound (Callee.NoName place) h b j = absurd j
      actor_bound (Callee.Owned actor name) h b j =
          let here : Here = record (here_in ts (calling bindings path gs d p) None) { scope = without_labels d.holder } in
          let w = of_whole ts (calling bindings path gs d p) here (codes "actor") actor b j in
          let u = by w.info.kind (subst (λ o. option_and_then (owned_behaviour ts.table.heads name.text) (actor_type ts.table.heads o) ≡ Some of) w.typed_is h) in
          made_binding here (codes "actor") actor b w (words_apart (codes "actor") (codes "do") refl) (words_apart (codes "actor") (codes "duration") refl)
          (whole_thing (without_labels d.holder) here refl actor_paths actor w.info w.path w.typed_is u.0 u.1 (actor_still (form ts.table.heads u.0) u.2))
        where
          test : (u : ℕ) (c : Bool) → is_actor (form ts.table.heads u) ≡ c → option_and_then (owned_behaviour ts.table.heads name.text) (cond c (Some u) None) ≡ Some of → is_actor (form ts.table.heads u) ≡ true
          test u true q g = q
          test u false q g = cc

          by : (v : ValueKind) → option_and_then (owned_behaviour ts.table.heads name.text) (option_and_then (λ x. cond (is_actor (form ts.table.heads x)) (Some x) None) (object_type v)) ≡ Some of → (u : ℕ) × (v ≡ ValueKind.Object u) × (is_actor (form ts.table.heads u) ≡ true)
          by (ValueKind.Object u) g = (u, refl, test u (is_actor (form ts.table.heads u)) refl g)
          by ValueKind.Truth g = cc
          by (ValueKind.Number x) g = cc
          by (ValueKind.Member x) g = cc
          by ValueKind.Chars g = cc
          by (ValueKind.Phase x) g = cc

      abbrev outside : Scope
      outside = scope_at ts d.holder None p.way

      -- an argument for a field is no phase
      argument_thing : (f : Field) → In f (fields ts of) → (earlier : List (List ℕ)) (x : ArgumentTree) → any_holds (expr_rows ts.table (scope_at ts d.holder None p.way) x.value) ≡ false
          → any_holds (assigned_rows ts (scope_at ts d.holder None p.way) earlier x (Assigned.Given f)) ≡ false
          → (j : Info) (q : Path) → typed ts.table (scope_at ts d.holder (Some (It.Of of None)) p.way) x.value ≡ Some (Whole j q) → IsThing (from_root (here_in ts (calling bindings path gs d p) (Some (It.Of of None))) q).steps
      argument_thing f inside earlier x free rows j q h =
          let here = here_in ts (calling bindings path gs d p) (Some (It.Of of None)) in
          let bare : typed ts.table (scope_at ts d.holder None p.way) x.value ≡ Some (Whole j q) = it_free ts.table (scope_at ts d.holder None p.way) (Some (It.Of of None)) refl x.value free ∙ h in
          let alone = no_right (among f.name.text earlier) (is_some f.tree.list) (no_left (among f.name.text earlier || is_some f.tree.list) _ rows) in
          let t = k.declared of f inside in
          let given = not_list (is_some f.tree.list) alone (no_right (among f.name.text earlier || is_some f.tree.list) _ rows) in
          let judged : any_holds (given_rows ts (scope_at ts d.holder None p.way) t.0 x.value) ≡ false = subst (λ o. any_holds (option_map_or (λ t. given_rows ts (scope_at ts d.holder None p.way) t x.value) o []) ≡ false) t.1 given in
          let u = by_form t.0 (k.holds of f inside t.0 t.1) (is_object (form ts.table.heads t.0)) judged bare in
          whole_thing (scope_at ts d.holder (Some (It.Of of None)) p.way) here refl call_paths x.value j q h u.0 u.1 u.2
        where
          not_list : (b : Bool) → b ≡ false → any_holds (cond b [] (option_map_or (λ t. given_rows ts (scope_at ts d.holder None p.way) t x.value) (field_type ts f) [])) ≡ false
              → any_holds (option_map_or (λ t. given_rows ts (scope_at ts d.holder None p.way) t x.value) (field_type ts f) []) ≡ false
          not_list true e r = absurd (true≢false e)
          not_list false e r = r

          by_form : (t : ℕ) → is_behaviour (form ts.table.heads t) ≡ false → (b : Bool)
              → any_holds (cond b (object_rows ts.table (scope_at ts d.holder None p.way) t x.value) (with_kind ts t (λ k s. argument_fit_rows k s (first x.value) (typed ts.table (scope_at ts d.holder None p.way) x.value)))) ≡ false
              → typed ts.table (scope_at ts d.holder None p.way) x.value ≡ Some (Whole j q) → (u : ℕ) × (j.kind ≡ ValueKind.Object u) × (is_behaviour (form ts.table.heads u) ≡ false)
          by_form t still true r bare =
              let sc = scope_at ts d.holder None p.way in
              let path_to = no_left (isnt_path_to ts.table sc (is_object_of ts.table.heads t) x.value) (begins_with_label ts.table sc x.value) (no_left (isnt_path_to ts.table sc (is_object_of ts.table.heads t) x.value || begins_with_label ts.table sc x.value) false r) in
              let right = subst (λ o. of_one o (λ t'. not (is_object_of ts.table.heads t t')) ≡ false) bare (no_right (not (is_path x.value)) (of_one (typed ts.table sc x.value) (λ t'. not (is_object_of ts.table.heads t t'))) path_to) in
              let u = object_of j.kind (is_kind_of ts.table.heads t) (holds_not (is_object_of ts.table.heads t (Whole j q)) right) in
              (u.0, u.1, up_alike ts k.inherited k.alike t u.0 (has_in t (u.0 ∷ bases ts.table.heads u.0) u.2) ∙ still)
          by_form t still false r bare =
              let kd = k.kinds.kinds t in
              let fits = subst (λ o. any_holds (option_map_or (λ k. argument_fit_rows k (field_size (per_of (form ts.table.heads t))) (first x.value) (typed ts.table (scope_at ts d.holder None p.way) x.value)) o []) ≡ false) kd.1 r in
              absurd (true≢false (subst (λ o. any_holds (argument_fit_rows kd.0 (field_size (per_of (form ts.table.heads t))) (first x.value) o) ≡ false) bare fits))

      arguments_bound : (earlier : List (List ℕ)) (n : ℕ) (xs : List ArgumentTree) → any_holds (arguments_rows ts (scope_at ts d.holder None p.way) of earlier n xs) ≡ false → (b : Binding)
          → In b (of_arguments ts of (argument_binding ts (calling bindings path gs d p) (here_in ts (calling bindings path gs d p) (Some (It.Of of None)))) n xs) → IsBinding b
      arguments_bound earlier n [] rows b j = absurd j
      arguments_bound earlier n (x ∷ others) rows b j =
          let sc = scope_at ts d.holder None p.way in
          let here = here_in ts (calling bindings path gs d p) (Some (It.Of of None)) in
          let first_rows = expr_rows ts.table sc x.value in
          let second_rows = assigned_rows ts sc earlier x (assigned ts of n x.name) in
          let third_rows = arguments_rows ts sc of (name_assigned (assigned ts of n x.name) ++ earlier) (n + 1) others in
          let both_rows = rows_left (first_rows ++ second_rows) third_rows rows in
          elim (in_either b (argument_binding ts (calling bindings path gs d p) here x.value (assigned ts of n x.name)) (of_arguments ts of (argument_binding ts (calling bindings path gs d p) here) (n + 1) others) j) as (λ _. IsBinding b) [
            | inl l ↦ by (assigned ts of n x.name) refl (rows_left first_rows second_rows both_rows) (rows_right first_rows second_rows both_rows) l
            | inr l ↦ arguments_bound (name_assigned (assigned ts of n x.name) ++ earlier) (n + 1) others (rows_right (first_rows ++ second_rows) third_rows rows) b l
          ]
        where
          by : (c : Assigned) → assigned ts of n x.name ≡ c → any_holds (expr_rows ts.table (scope_at ts d.holder None p.way) x.value) ≡ false → any_holds (assigned_rows ts (scope_at ts d.holder None p.way) earlier x c) ≡ false
              → In b (argument_binding ts (calling bindings path gs d p) (here_in ts (calling bindings path gs d p) (Some (It.Of of None))) x.value c) → IsBinding b
          by Assigned.Surplus g r s l = absurd l
          by Assigned.Duration g r s l = absurd l
          by (Assigned.Unknown name) g r s l = absurd l
          by (Assigned.Given f) g r s l =
              let here = here_in ts (calling bindings path gs d p) (Some (It.Of of None)) in
              let w = of_whole ts (calling bindings path gs d p) here f.name.text x.value b l in
              let inside = assigned_in ts of n x.name f g in
              made_binding here f.name.text x.value b w (not_do f.name.text (k.free of f inside)) (k.untimed of of_behaves f inside) (argument_thing f inside earlier x r s w.info w.path w.typed_is)

      pub call_bound : AreBindings (call_bindings ts (calling bindings path gs d p) head names arguments of)
      call_bound b j =
          let sc = scope_at ts d.holder None p.way in
          let rows : any_holds (phase_rows ts d.holder p.way (Invoke label head names arguments parts)) ≡ false = subst (λ z. any_holds (phase_rows ts d.holder p.way z) ≡ false) e (phase_uses ts k.inherited k.uses t d is p i) in
          let first_rows = callee_rows ts sc (callee head names) in
          let second_rows = call_rows ts sc (invoked ts d.holder head names) arguments in
          let args = rows_right first_rows second_rows (rows_left (first_rows ++ second_rows) (flat_map (part_rows ts (scope_at ts d.holder (Some (it_made (invoked ts d.holder head names))) p.way) (invoked ts d.holder head names)) parts) rows) in
          elim (in_either b (actor_binding ts (calling bindings path gs d p) (callee head names)) (of_arguments ts of (argument_binding ts (calling bindings path gs d p) (here_in ts (calling bindings path gs d p) (Some (It.Of of None)))) 0 arguments) j) as (λ _. IsBinding b) [
            | inl l ↦ actor_bound (callee head names) to b l
            | inr l ↦ arguments_bound [] 0 arguments (subst (λ o. any_holds (call_rows ts sc o arguments) ≡ false) to args) b l
          ]

      pub call_at : At ts (calling bindings path gs d p).path of (call_bindings ts (calling bindings path gs d p) head names arguments of)
      call_at = record { place = inl (of_behaves, call_phases); bound = call_bound }

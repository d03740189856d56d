-- The rows of uses of each member and phase of an object, and what invocations are of.
use Rattle.std.proofs.Common.{◌≡◌, ℕ, ◌<◌, refl, sym, ap, ap₂, ◌∙◌, subst, inl, inr, List, [], ◌∷◌, ◌++◌, true, false, ◌&&◌, ◌||◌, Option, Some, None, map, length, true≢false}
use Rattle.std.specs.Prelude.{⊤, is_none, flat_map, option_and_then}
use Rattle.std.specs.Option.{option_map_or}
use Rattle.osc_base.specs.FaultRows.{FaultRow}
use Rattle.expr_eval.specs.dsl_tree.declared.parts.Ident.{Ident}
use Rattle.expr_eval.specs.dsl_tree.declared.phases.InvokeHead.{InvokeHead}
use Rattle.expr_eval.specs.dsl_tree.ExprTree as Tree
use Rattle.expr_eval.specs.dsl_tree.ExprTree.{ExprTree}
use Rattle.expr_eval.specs.dsl_tree.PhaseTree.{Invoke}
use Rattle.expr_eval.specs.dsl_tree.FileTree.{MemberTree}
use Rattle.expr_eval.specs.type_heads.Table.{Table, TableField, all_types, field_of}
use Rattle.expr_eval.specs.type_heads.Types.{Types, Member, Written, Do}
use Rattle.expr_eval.specs.type_heads.Members.{members, body, do_declared, the_do}
use Rattle.expr_eval.specs.expr_nodes.Parts.{any_holds, of_one}
use Rattle.expr_eval.specs.expr_nodes.Scope.{Label, Scope}
use Rattle.expr_eval.specs.expr_nodes.Names.{label_named, is_label, dot_rows, dot_typed}
use Rattle.expr_eval.specs.expr_nodes.Typing.{typed, expr_rows}
use Rattle.expr_eval.proofs.TypedForms.{typed_or_refused}
use Rattle.run_values.specs.composition.Calls.{PhaseHere, phases_in, Callee, last_of, callee, actor_type, owned_behaviour, behaviour_named, without_labels, invoked, called, scope_at}
use Rattle.run_values.specs.composition.Uses.{begins_with_label, callee_rows, call_rows, part_rows, it_made, phase_rows, member_use_rows, text_rows, invocation_row, use_rows}
use Rattle.run_values.proofs.of_field_flatten.Tests.{In, in_left, in_right}
use Rattle.scene_laws.proofs.FaultRows.{no_left, no_right, rows_left, rows_among}
use Rattle.scene_laws.proofs.FieldNames.{number_in}
use Rattle.scene_laws.proofs.WrittenMembers.{IsWrittenIn, members_written}
use Rattle.scene_laws.proofs.FullPhases.{do_is}
use Rattle.scene_laws.proofs.MemberPhases.{Resolves}
use Rattle.checkable_scenes.proofs.Inherited.{up_below, Chain, member_comes}
use Rattle.checkable_scenes.proofs.ConditionFields.{IsInherited, member_below}
use Rattle.checkable_scenes.proofs.ResolvedScopes.{HasKinds, any_some, bare_resolved}

-- ---- paths to actors

-- a name or `actor`, with names after it
abbrev ActorPath : ExprTree → Type 0
ActorPath (Tree.Name i) = ⊤
ActorPath (Tree.Actor p) = ⊤
ActorPath (Tree.Dot head i) = ActorPath head
ActorPath _ = ⊥

last_path : (actor : ExprTree) (name : Ident) (names : List Ident) → ActorPath actor → (a : ExprTree) (n : Ident) → last_of actor name names ≡ Callee.Owned a n → ActorPath a
last_path actor name [] p a n e = let same : actor ≡ a = cc in subst ActorPath same p
last_path actor name (next ∷ later) p a n e = last_path (Tree.Dot actor name) next later p a n e

callee_path : (head : InvokeHead) (names : List Ident) (a : ExprTree) (n : Ident) → callee head names ≡ Callee.Owned a n → ActorPath a
callee_path (InvokeHead.Name name) [] a n e = cc
callee_path (InvokeHead.Name name) (next ∷ later) a n e = last_path (Tree.Name name) next later tt a n e
callee_path (InvokeHead.Actor place) [] a n e = cc
callee_path (InvokeHead.Actor place) (next ∷ later) a n e = last_path (Tree.Actor place) next later tt a n e

module _ (table : Table) (sc : Scope) where
  abbrev bare : Scope
  bare = without_labels sc.holder

  -- a path that begins with no label is the same without labels
  name_same : (i : Ident) → is_label table sc i.text ≡ false → (typed table sc (Tree.Name i) ≡ typed table (without_labels sc.holder) (Tree.Name i)) × (expr_rows table sc (Tree.Name i) ≡ expr_rows table (without_labels sc.holder) (Tree.Name i))
  name_same i h = by (field_of table sc.holder i.text) refl (label_named sc i.text) refl h
    where
      by : (o : Option TableField) → field_of table sc.holder i.text ≡ o → (l : Option Label) → label_named sc i.text ≡ l → is_none o && option_map_or (λ (l : Label). true) l false ≡ false
          → (typed table sc (Tree.Name i) ≡ typed table (without_labels sc.holder) (Tree.Name i)) × (expr_rows table sc (Tree.Name i) ≡ expr_rows table (without_labels sc.holder) (Tree.Name i))
      by (Some f) e l g k = (rw e refl, rw e refl)
      by None e None g k = (rw (e, g) refl, rw (e, g) refl)
      by None e (Some l) g k = absurd (true≢false k)

  path_same : (e : ExprTree) → ActorPath e → begins_with_label table sc e ≡ false → (typed table sc e ≡ typed table (without_labels sc.holder) e) × (expr_rows table sc e ≡ expr_rows table (without_labels sc.holder) e)
  path_same (Tree.Name i) p h = name_same i h
  path_same (Tree.Actor place) p h = (refl, refl)
  path_same (Tree.Dot head i) p h =
      let g = path_same head p h in
      (ap (λ o. dot_typed table o i) g.0, ap₂ (λ o (l : List FaultRow). dot_rows table o i ++ l) g.0 g.1)
  path_same (Tree.Implies q a b) p h = absurd p
  path_same (Tree.Or q op a b) p h = absurd p
  path_same (Tree.And q op a b) p h = absurd p
  path_same (Tree.Not q a) p h = absurd p
  path_same (Tree.Relation q s a b) p h = absurd p
  path_same (Tree.Sum q op a b) p h = absurd p
  path_same (Tree.Product q op a b) p h = absurd p
  path_same (Tree.Minus q a) p h = absurd p
  path_same (Tree.Index q a b) p h = absurd p
  path_same (Tree.Number d) p h = absurd p
  path_same (Tree.Physical d u) p h = absurd p
  path_same (Tree.Chars q x) p h = absurd p
  path_same (Tree.Truth q x) p h = absurd p
  path_same (Tree.It q) p h = absurd p
  path_same (Tree.EnumName of m) p h = absurd p
  path_same (Tree.Group q a) p h = absurd p
  path_same (Tree.Span q a b) p h = absurd p
  path_same (Tree.Listed q xs) p h = absurd p
  path_same (Tree.RangeCall q a b) p h = absurd p
  path_same (Tree.Start a) p h = absurd p

-- the path to an actor has no fault without labels either, and is read as with them
pub actor_uses : (ts : Types) (sc : Scope) (head : InvokeHead) (names : List Ident) (actor : ExprTree) (name : Ident) → callee head names ≡ Callee.Owned actor name → any_holds (callee_rows ts sc (Callee.Owned actor name)) ≡ false
    → (typed ts.table sc actor ≡ typed ts.table (without_labels sc.holder) actor) × (any_holds (expr_rows ts.table (without_labels sc.holder) actor) ≡ false)
actor_uses ts sc head names actor name e g =
    let heads = ts.table.heads in
    let first = no_left (begins_with_label ts.table sc actor || of_one (typed ts.table sc actor) (λ x. is_none (actor_type heads (Some x)))) _ g in
    let rest = no_right (begins_with_label ts.table sc actor || of_one (typed ts.table sc actor) (λ x. is_none (actor_type heads (Some x)))) _ g in
    let same = path_same ts.table sc actor (callee_path head names actor name e) (no_left (begins_with_label ts.table sc actor) _ first) in
    (same.0, subst (λ (l : List FaultRow). any_holds l ≡ false) same.1 (no_right (option_map_or (λ a. is_none (owned_behaviour heads name.text a)) (actor_type heads (typed ts.table (without_labels sc.holder) actor)) false) _ rest))

-- an invocation without a fault is of something
pub callee_called : (ts : Types) → HasKinds ts.table → (sc : Scope) (head : InvokeHead) (names : List Ident) → any_holds (callee_rows ts sc (callee head names)) ≡ false → (of : ℕ) × (called ts sc.holder (callee head names) ≡ Some of)
callee_called ts kinds sc head names h = by (callee head names) refl h
  where
    by : (c : Callee) → callee head names ≡ c → any_holds (callee_rows ts sc c) ≡ false → (of : ℕ) × (called ts sc.holder c ≡ Some of)
    by (Callee.Alone name) e g = any_some (behaviour_named ts.table.heads name.text) (no_left (is_none (behaviour_named ts.table.heads name.text)) false g)
    by (Callee.NoName place) e g = absurd (true≢false g)
    by (Callee.Owned actor name) e g =
        let heads = ts.table.heads in
        let first = no_left (begins_with_label ts.table sc actor || of_one (typed ts.table sc actor) (λ x. is_none (actor_type heads (Some x)))) _ g in
        let rest = no_right (begins_with_label ts.table sc actor || of_one (typed ts.table sc actor) (λ x. is_none (actor_type heads (Some x)))) _ g in
        let row = no_left (option_map_or (λ a. is_none (owned_behaviour heads name.text a)) (actor_type heads (typed ts.table (without_labels sc.holder) actor)) false) _ rest in
        let bare = actor_uses ts sc head names actor name e g in
        let x = typed_or_refused ts.table (without_labels sc.holder) (bare_resolved ts.table kinds sc.holder) actor bare.1 in
        let found : typed ts.table sc actor ≡ Some x.0 = bare.0 ∙ x.1 in
        let a = any_some (actor_type heads (Some x.0)) (sym (ap (λ o. of_one o (λ x. is_none (actor_type heads (Some x)))) found) ∙ no_right (begins_with_label ts.table sc actor) _ first) in
        let resolved : actor_type heads (typed ts.table (without_labels sc.holder) actor) ≡ Some a.0 = ap (actor_type heads) x.1 ∙ a.1 in
        let b = any_some (owned_behaviour heads name.text a.0) (sym (ap (λ o. option_map_or (λ a. is_none (owned_behaviour heads name.text a)) o false) resolved) ∙ row) in
        (b.0, ap (λ o. option_and_then (owned_behaviour heads name.text) o) resolved ∙ b.1)

module _ (ts : Types) (k : IsInherited ts) (uses : any_holds (use_rows ts) ≡ false) where
  -- the holder of a member is a type
  pub holder_below : (t : ℕ) (m : Member) → In m (members ts t) → m.holder < length ts.table.heads
  holder_below t m i =
      let below = member_below ts k t m i in
      let c = member_comes ts.table.heads k.based k.unlooped ts.bodies t m below.1 in
      by c.chain c.top (up_below ts.table.heads k.based k.unlooped c.top t below.0 c.up) m.holder c.down
    where
      by : (cs : List ℕ) (a : ℕ) → a < length ts.table.heads → (h : ℕ) → Chain ts.table.heads k.based k.unlooped ts.bodies a cs h → h < length ts.table.heads
      by [] a l h p = subst (λ z. z < length ts.table.heads) (sym p) l
      by (c ∷ cs) a l h p = by cs c p.2 h p.3

  text_uses : (t : ℕ) → t < length ts.table.heads → any_holds (text_rows ts t) ≡ false
  text_uses t below = rows_among (text_rows ts) (all_types ts.table.heads) (rows_left (flat_map (text_rows ts) (all_types ts.table.heads)) (map (invocation_row ts) (all_types ts.table.heads)) uses) t (number_in ts.table.heads t below)

  -- a member has no fault of uses
  pub member_uses : (t : ℕ) (m : Member) → In m (members ts t) → any_holds (member_use_rows ts m.holder m.written.member) ≡ false
  member_uses t m i =
      rows_among (λ (w : Written). member_use_rows ts m.holder w.member) ((body ts.bodies m.holder).own ++ (body ts.bodies m.holder).more) (text_uses m.holder (holder_below t m i)) m.written
      (written (members_written ts.table.heads ts.bodies t m (member_below ts k t m i).1))
    where
      written : IsWrittenIn ts.table.heads ts.bodies m.holder m.written → In m.written ((body ts.bodies m.holder).own ++ (body ts.bodies m.holder).more)
      written (inl j) = in_left m.written (body ts.bodies m.holder).own (body ts.bodies m.holder).more j
      written (inr j) = in_right m.written (body ts.bodies m.holder).own (body ts.bodies m.holder).more j

  -- neither has a phase
  pub phase_uses : (t : ℕ) (d : Do) → the_do ts t ≡ Some d → (p : PhaseHere) → In p (phases_in d.phase) → any_holds (phase_rows ts d.holder p.way p.phase) ≡ false
  phase_uses t d is p i = let m = do_is ts t d is in by m.0 m.0.written.member (member_uses t m.0 m.1) m.2
    where
      by : (m : Member) (tree : MemberTree) → any_holds (member_use_rows ts m.holder tree) ≡ false → do_declared m tree ≡ Some d → any_holds (phase_rows ts d.holder p.way p.phase) ≡ false
      by m (MemberTree.Do place phase) h e =
          let same : record { holder = m.holder; place = place; phase = phase; under = m.under } ≡ d = some_same e in
          let at : m.holder ≡ d.holder = ap (λ (z : Do). z.holder) same in
          let phases : phase ≡ d.phase = ap (λ (z : Do). z.phase) same in
          subst (λ z. any_holds (phase_rows ts z p.way p.phase) ≡ false) at
          (rows_among (λ (p : PhaseHere). phase_rows ts m.holder p.way p.phase) (phases_in phase) h p (subst (λ z. In p (phases_in z)) (sym phases) i))
        where
          some_same : {a b : Do} → Some a ≡ Some b → a ≡ b
          some_same f = cc
      by m (MemberTree.Field x) h e = cc
      by m (MemberTree.Rule r) h e = cc

  -- each invocation is of something
  pub invocations_resolve : HasKinds ts.table → Resolves ts
  invocations_resolve kinds t d is p i label head names arguments parts e =
      let sc = scope_at ts d.holder None p.way in
      let of = invoked ts d.holder head names in
      let rows : any_holds (phase_rows ts d.holder p.way (Invoke label head names arguments parts)) ≡ false = subst (λ z. any_holds (phase_rows ts d.holder p.way z) ≡ false) e (phase_uses t d is p i) in
      let first = callee_rows ts sc (callee head names) in
      let second = call_rows ts sc of arguments in
      callee_called ts kinds sc head names (rows_left first second (rows_left (first ++ second) (flat_map (part_rows ts (scope_at ts d.holder (Some (it_made of)) p.way) of) parts) rows))

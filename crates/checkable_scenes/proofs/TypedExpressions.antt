-- Each expression of a program's texts has a typed form in the scope in which it is judged.
use Rattle.std.proofs.Common.{◌≡◌, ℕ, zero, suc, ◌+◌, ◌<◌, refl, sym, ap, subst, inl, inr, List, [], ◌∷◌, ◌++◌, Bool, true, false, ◌&&◌, ◌||◌, not, cond, Option, Some, None, map, length, arith}
use Rattle.std.specs.Prelude.{is_none, flat_map, option_map, option_to_list, bytes_eq, codes}
use Rattle.std.specs.Option.{option_map_or}
use Rattle.std.specs.List.{All}
use Rattle.osc_base.specs.declared.fault.FaultCode.{FaultCode}
use Rattle.osc_base.specs.FaultRows.{row}
use Rattle.expr_eval.specs.dsl_tree.declared.parts.Ident.{Ident}
use Rattle.expr_eval.specs.dsl_tree.declared.phases.CompKind.{CompKind}
use Rattle.expr_eval.specs.dsl_tree.declared.phases.InvokeHead.{InvokeHead}
use Rattle.expr_eval.specs.dsl_tree.ExprTree.{ExprTree}
use Rattle.expr_eval.specs.dsl_tree.PhaseTree.{RuleTree, ArgumentTree, ModifierTree, PartTree, PhaseTree, Comp, Invoke, Wait}
use Rattle.expr_eval.specs.dsl_tree.FileTree.{FieldTree, MemberTree}
use Rattle.expr_eval.specs.type_heads.Table.{all_types}
use Rattle.expr_eval.specs.type_heads.Types.{Types, Written}
use Rattle.expr_eval.specs.type_heads.Members.{body, declared_type, list_length}
use Rattle.expr_eval.specs.type_heads.Texts.{rule_exprs, argument_exprs}
use Rattle.expr_eval.specs.expr_nodes.Scope.{It, Scope}
use Rattle.expr_eval.specs.expr_nodes.Names.{is_duration}
use Rattle.expr_eval.specs.expr_nodes.Parts.{any_holds, of_one}
use Rattle.expr_eval.specs.expr_nodes.Fits.{is_read, duration_fit_rows, constraint_rows}
use Rattle.expr_eval.specs.expr_nodes.Typing.{typed, expr_rows, first}
use Rattle.expr_eval.specs.Resolved.{is_told_it, IsResolved}
use Rattle.expr_eval.proofs.TypedForms.{typed_or_refused}
use Rattle.run_values.specs.composition.Calls.{Turn, PhaseHere, phases_in, Callee, callee, actor_type, owned_behaviour, without_labels, invoked, scope_at, assigned}
use Rattle.run_values.specs.composition.ModifierLines.{is_modifier, modifier_form}
use Rattle.run_values.specs.composition.Uses.{among, takes_overlap, is_overlap, named_rows, composition_rows, isnt_path_to, default_rows, rule_rows, initial_value_rows, field_scope, begins_with_label, assigned_rows, name_assigned, arguments_rows, is_drive, form_rows, compared_exprs, modifier_rows, callee_rows, part_rows, call_rows, it_made, phase_rows, member_use_rows, text_rows, invocation_row, use_rows}
use Rattle.run_values.proofs.of_field_flatten.Tests.{In, in_either, map_in, flat_map_in}
use Rattle.scene_laws.proofs.FaultRows.{no_right, rows_left, rows_right, rows_among}
use Rattle.scene_laws.proofs.MemberPhases.{Resolves}
use Rattle.checkable_scenes.specs.JudgedTexts.{Judged, stated_exprs, judged_in, part_compared, actor_paths, phase_judged, member_judged, text_judged, all_judged, IsTypedIn}
use Rattle.checkable_scenes.proofs.ResolvedScopes.{HasKinds, bare_resolved, field_it_told, scope_resolved}
use Rattle.checkable_scenes.proofs.JudgedUses.{actor_uses, callee_called}

-- what holds of each member of a list, at each index
all_in : {A : Type 0} (P : A → Type 0) (xs : List A) → ((x : A) → In x xs → P x) → All P xs
all_in P [] f k d below = absurd (none k below)
  where
    none : (k : ℕ) → k < 0 → ⊥
    none k h = absurd (omega (arith, h))
all_in P (x ∷ xs) f zero d below = f x (inl refl)
all_in P (x ∷ xs) f (suc k) d below = all_in P xs (λ y i. f y (inr i)) k d (less k (length xs) below)
  where
    less : (k n : ℕ) → suc k < suc n → k < n
    less k n h = omega (arith, h)

module _ (ts : Types) (has : HasKinds ts.table) (resolves : Resolves ts) where
  -- no row of an expression holds in a scope
  abbrev IsQuiet : Scope → ExprTree → Type 0
  IsQuiet sc e = any_holds (expr_rows ts.table sc e) ≡ false

  typed_in : (sc : Scope) (exprs : List ExprTree) → IsResolved ts.table sc → ((e : ExprTree) → In e exprs → IsQuiet sc e) → (j : Judged) → In j (judged_in sc exprs) → IsTypedIn ts.table j
  typed_in sc exprs resolved quiet j i =
      let m = map_in (λ e. record { scope = sc; expr = e }) exprs j i in
      subst (IsTypedIn ts.table) (sym m.2) (made m.0 (quiet m.0 m.1))
    where
      made : (e : ExprTree) → IsQuiet sc e → IsTypedIn ts.table (record { scope = sc; expr = e })
      made e free = let t = typed_or_refused ts.table sc resolved e free in record { resolved = resolved; form = t.0; is = t.1; sound = t.2 }

  -- ---- rules and fields

  rule_quiet : (sc : Scope) (r : RuleTree) → any_holds (rule_rows ts.table sc r) ≡ false → (e : ExprTree) → In e (rule_exprs r) → IsQuiet sc e
  rule_quiet sc (RuleTree.Keep place keep expr) rows e (inl same) =
      let own = expr_rows ts.table sc expr in
      let constraint = constraint_rows (first expr) (typed ts.table sc expr) in
      subst (IsQuiet sc) (sym same) (rows_left own constraint (rows_left (own ++ constraint) (default_rows ts.table sc keep expr) rows))
  rule_quiet sc (RuleTree.Keep place keep expr) rows e (inr i) = absurd i
  rule_quiet sc (RuleTree.Remove place path) rows e (inl same) = subst (IsQuiet sc) (sym same) (no_right (isnt_path_to ts.table sc is_read path) _ rows)
  rule_quiet sc (RuleTree.Remove place path) rows e (inr i) = absurd i

  rules_quiet : (sc : Scope) (rs : List RuleTree) → any_holds (flat_map (rule_rows ts.table sc) rs) ≡ false → (e : ExprTree) → In e (flat_map rule_exprs rs) → IsQuiet sc e
  rules_quiet sc rs rows e i = let r = flat_map_in rule_exprs rs e i in rule_quiet sc r.0 (rows_among (rule_rows ts.table sc) rs rows r.0 r.1) e r.2

  initial_quiet : (t : ℕ) (f : FieldTree) (initial : Option ExprTree) → any_holds (option_map_or (initial_value_rows ts t f) initial []) ≡ false → (e : ExprTree) → In e (option_to_list initial) → IsQuiet (scope_at ts t None []) e
  initial_quiet t f None rows e i = absurd i
  initial_quiet t f (Some value) rows e (inl same) = subst (IsQuiet (scope_at ts t None [])) (sym same) (rows_left (expr_rows ts.table (scope_at ts t None []) value) _ rows)
  initial_quiet t f (Some value) rows e (inr i) = absurd i

  -- ---- invocations

  arguments_quiet : (sc : Scope) (of : ℕ) (earlier : List (List ℕ)) (n : ℕ) (xs : List ArgumentTree) → any_holds (arguments_rows ts sc of earlier n xs) ≡ false → (e : ExprTree) → In e (argument_exprs xs) → IsQuiet sc e
  arguments_quiet sc of earlier n [] rows e i = absurd i
  arguments_quiet sc of earlier n (a ∷ others) rows e (inl same) =
      let own = expr_rows ts.table sc a.value in
      let fits = assigned_rows ts sc earlier a (assigned ts of n a.name) in
      subst (IsQuiet sc) (sym same) (rows_left own fits (rows_left (own ++ fits) _ rows))
  arguments_quiet sc of earlier n (a ∷ others) rows e (inr i) =
      let to = assigned ts of n a.name in
      arguments_quiet sc of (name_assigned to ++ earlier) (n + 1) others (rows_right (expr_rows ts.table sc a.value ++ assigned_rows ts sc earlier a to) _ rows) e i

  call_quiet : (sc : Scope) (of : Option ℕ) (xs : List ArgumentTree) → any_holds (call_rows ts sc of xs) ≡ false → (e : ExprTree) → In e (argument_exprs xs) → IsQuiet sc e
  call_quiet sc (Some of) xs rows e i = arguments_quiet sc of [] 0 xs rows e i
  call_quiet sc None xs rows e i =
      let a = flat_map_in (λ (a : ArgumentTree). a.value ∷ []) xs e i in
      value a.0 (rows_among (λ (a : ArgumentTree). expr_rows ts.table sc a.value) xs rows a.0 a.1) a.2
    where
      value : (a : ArgumentTree) → IsQuiet sc a.value → In e (a.value ∷ []) → IsQuiet sc e
      value a free (inl same) = subst (IsQuiet sc) (sym same) free
      value a free (inr j) = absurd j

  modifier_quiet : (sc : Scope) (of : Option ℕ) (m : ModifierTree) → any_holds (modifier_rows ts sc of m) ≡ false → (e : ExprTree) → In e (flat_map compared_exprs m.arguments) → IsQuiet sc e
  modifier_quiet sc of m rows e i =
      let named = no_right (not (is_modifier m.name.text)) _ rows in
      let driven = no_right (option_map_or (λ t. not (is_drive ts t)) of false) _ named in
      let formed = no_right (is_modifier m.name.text && is_none (modifier_form m)) _ driven in
      let compared = flat_map compared_exprs m.arguments in
      rows_among (expr_rows ts.table sc) compared (rows_left (flat_map (expr_rows ts.table sc) compared) (option_map_or (form_rows ts sc) (modifier_form m) []) formed) e i

  part_quiet : (sc : Scope) (of : Option ℕ) (part : PartTree) → any_holds (part_rows ts sc of part) ≡ false → (e : ExprTree) → In e (part_compared part) → IsQuiet sc e
  part_quiet sc of (PartTree.RulePart rule) rows e i = rule_quiet sc rule rows e i
  part_quiet sc of (PartTree.ModifierPart modifier) rows e i = modifier_quiet sc of modifier rows e i

  parts_quiet : (sc : Scope) (of : Option ℕ) (parts : List PartTree) → any_holds (flat_map (part_rows ts sc of) parts) ≡ false → (e : ExprTree) → In e (flat_map part_compared parts) → IsQuiet sc e
  parts_quiet sc of parts rows e i = let p = flat_map_in part_compared parts e i in part_quiet sc of p.0 (rows_among (part_rows ts sc of) parts rows p.0 p.1) e p.2

  -- the path to an actor, with labels and without
  actor_quiet : (sc : Scope) (head : InvokeHead) (names : List Ident) (c : Callee) → callee head names ≡ c → any_holds (callee_rows ts sc c) ≡ false → (e : ExprTree) → In e (actor_paths c) → IsQuiet sc e × IsQuiet (without_labels sc.holder) e
  actor_quiet sc head names (Callee.Alone name) is rows e i = absurd i
  actor_quiet sc head names (Callee.NoName place) is rows e i = absurd i
  actor_quiet sc head names (Callee.Owned actor name) is rows e (inl same) =
      let heads = ts.table.heads in
      let found = no_right (begins_with_label ts.table sc actor || of_one (typed ts.table sc actor) (λ x. is_none (actor_type heads (Some x)))) _ rows in
      let own = no_right (option_map_or (λ a. is_none (owned_behaviour heads name.text a)) (actor_type heads (typed ts.table (without_labels sc.holder) actor)) false) _ found in
      subst (λ z. IsQuiet sc z × IsQuiet (without_labels sc.holder) z) (sym same) (own, (actor_uses ts sc head names actor name is rows).1)
  actor_quiet sc head names (Callee.Owned actor name) is rows e (inr i) = absurd i

  -- ---- phases

  stated_quiet : (sc : Scope) (comp : CompKind) (earlier : List (List ℕ)) (value : ExprTree) (name : Option Ident)
      → any_holds (option_map_or (λ (i : Ident). named_rows ts.table sc comp earlier i value) name (row (first value) FaultCode.BadArgument true ∷ expr_rows ts.table sc value)) ≡ false
      → (e : ExprTree) → In e (stated_exprs (record { name = name; value = value })) → IsQuiet sc e
  stated_quiet sc comp earlier value None rows e (inl same) = subst (IsQuiet sc) (sym same) (no_right true _ rows)
  stated_quiet sc comp earlier value None rows e (inr i) = absurd i
  stated_quiet sc comp earlier value (Some n) rows e i = by (is_duration n.text) (bytes_eq n.text (codes "overlap")) (no_right (among n.text earlier) _ rows) i
    where
      by : (timed overlaps : Bool)
          → any_holds (cond timed (duration_fit_rows (first value) (typed ts.table sc value) ++ expr_rows ts.table sc value) (cond (overlaps && (takes_overlap comp && is_overlap value)) [] (row n.place FaultCode.BadArgument true ∷ expr_rows ts.table sc value))) ≡ false
          → In e (cond overlaps [] (value ∷ [])) → IsQuiet sc e
      by timed true r j = absurd j
      by true false r (inl same) = subst (IsQuiet sc) (sym same) (rows_right (duration_fit_rows (first value) (typed ts.table sc value)) (expr_rows ts.table sc value) r)
      by true false r (inr j) = absurd j
      by false false r (inl same) = subst (IsQuiet sc) (sym same) (no_right true _ r)
      by false false r (inr j) = absurd j

  composition_quiet : (sc : Scope) (comp : CompKind) (earlier : List (List ℕ)) (xs : List ArgumentTree) → any_holds (composition_rows ts.table sc comp earlier xs) ≡ false → (e : ExprTree) → In e (flat_map stated_exprs xs) → IsQuiet sc e
  composition_quiet sc comp earlier [] rows e i = absurd i
  composition_quiet sc comp earlier (a ∷ others) rows e i =
      let own = option_map_or (λ (i : Ident). named_rows ts.table sc comp earlier i a.value) a.name (row (first a.value) FaultCode.BadArgument true ∷ expr_rows ts.table sc a.value) in
      let rest = composition_rows ts.table sc comp (option_map_or (λ (i : Ident). i.text ∷ []) a.name [] ++ earlier) others in
      elim (in_either e (stated_exprs a) (flat_map stated_exprs others) i) as (λ _. IsQuiet sc e) [
        | inl j ↦ stated_quiet sc comp earlier a.value a.name (rows_left own rest rows) e j
        | inr j ↦ composition_quiet sc comp (option_map_or (λ (i : Ident). i.text ∷ []) a.name [] ++ earlier) others (rows_right own rest rows) e j
      ]

  phase_typed : (t : ℕ) (way : List Turn) (p : PhaseTree) → any_holds (phase_rows ts t way p) ≡ false → (j : Judged) → In j (phase_judged ts t way p) → IsTypedIn ts.table j
  phase_typed t way (Comp label place comp arguments members) rows j i =
      typed_in (scope_at ts t None way) (flat_map stated_exprs arguments) (scope_resolved ts has resolves t None way refl) (composition_quiet (scope_at ts t None way) comp [] arguments rows) j i
  phase_typed t way (Wait label place elapsed) rows j i =
      let sc = scope_at ts t None way in
      typed_in sc (elapsed ∷ []) (scope_resolved ts has resolves t None way refl) (λ e k. one e (rows_right (duration_fit_rows (first elapsed) (typed ts.table sc elapsed)) (expr_rows ts.table sc elapsed) rows) k) j i
    where
      one : (e : ExprTree) → IsQuiet (scope_at ts t None way) elapsed → In e (elapsed ∷ []) → IsQuiet (scope_at ts t None way) e
      one e free (inl same) = subst (IsQuiet (scope_at ts t None way)) (sym same) free
      one e free (inr k) = absurd k
  phase_typed t way (Invoke label head names arguments parts) rows j i =
      let bare = scope_at ts t None way in
      let of = invoked ts t head names in
      let within = scope_at ts t (Some (it_made of)) way in
      let to = actor_paths (callee head names) in
      let callees = callee_rows ts bare (callee head names) in
      let calls = call_rows ts bare of arguments in
      let first_rows = rows_left (callees ++ calls) (flat_map (part_rows ts within of) parts) rows in
      let own = actor_quiet bare head names (callee head names) refl (rows_left callees calls first_rows) in
      let made = callee_called ts has bare head names (rows_left callees calls first_rows) in
      let first_judged = judged_in (without_labels t) to in
      let second_judged = judged_in bare (to ++ argument_exprs arguments) in
      elim (in_either j (first_judged ++ second_judged) (judged_in within (flat_map part_compared parts)) i) as (λ _. IsTypedIn ts.table j) [
        | inl k ↦ elim (in_either j first_judged second_judged k) as (λ _. IsTypedIn ts.table j) [
          | inl l ↦ typed_in (without_labels t) to (bare_resolved ts.table has t) (λ e m. (own e m).1) j l
          | inr l ↦ typed_in bare (to ++ argument_exprs arguments) (scope_resolved ts has resolves t None way refl) (λ e m.
              elim (in_either e to (argument_exprs arguments) m) as (λ _. IsQuiet bare e) [
                | inl n ↦ (own e n).0
                | inr n ↦ call_quiet bare of arguments (rows_right callees calls first_rows) e n
              ]) j l
        ]
        | inr k ↦ typed_in within (flat_map part_compared parts) (scope_resolved ts has resolves t (Some (it_made of)) way (ap (λ o. is_told_it (Some (it_made o))) made.1))
            (parts_quiet within of parts (rows_right (callees ++ calls) (flat_map (part_rows ts within of) parts) rows)) j k
      ]

  -- ---- all texts

  member_typed : (t : ℕ) (m : MemberTree) → any_holds (member_use_rows ts t m) ≡ false → (j : Judged) → In j (member_judged ts t m) → IsTypedIn ts.table j
  member_typed t (MemberTree.Field f) rows j i =
      let bare = scope_at ts t None [] in
      let given = option_map_or (initial_value_rows ts t f) f.initial [] in
      let rules = flat_map (rule_rows ts.table (field_scope ts t f)) f.rules in
      elim (in_either j (judged_in bare (option_to_list f.initial)) (judged_in (field_scope ts t f) (flat_map rule_exprs f.rules)) i) as (λ _. IsTypedIn ts.table j) [
        | inl k ↦ typed_in bare (option_to_list f.initial) (scope_resolved ts has resolves t None [] refl) (initial_quiet t f f.initial (rows_left given rules rows)) j k
        | inr k ↦ typed_in (field_scope ts t f) (flat_map rule_exprs f.rules) (scope_resolved ts has resolves t (option_map (λ of. It.Of of (list_length f)) (declared_type ts f)) [] (field_it_told (declared_type ts f) (list_length f)))
            (rules_quiet (field_scope ts t f) f.rules (rows_right given rules rows)) j k
      ]
  member_typed t (MemberTree.Rule rule) rows j i = typed_in (scope_at ts t None []) (rule_exprs rule) (scope_resolved ts has resolves t None [] refl) (rule_quiet (scope_at ts t None []) rule rows) j i
  member_typed t (MemberTree.Do place phase) rows j i =
      let p = flat_map_in (λ (p : PhaseHere). phase_judged ts t p.way p.phase) (phases_in phase) j i in
      phase_typed t p.0.way p.0.phase (rows_among (λ (p : PhaseHere). phase_rows ts t p.way p.phase) (phases_in phase) rows p.0 p.1) j p.2

  pub all_typed : any_holds (use_rows ts) ≡ false → All (IsTypedIn ts.table) (all_judged ts)
  all_typed uses = all_in (IsTypedIn ts.table) (all_judged ts) (λ j i.
      let types = all_types ts.table.heads in
      let t = flat_map_in (text_judged ts) types j i in
      let written = (body ts.bodies t.0).own ++ (body ts.bodies t.0).more in
      let w = flat_map_in (λ (w : Written). member_judged ts t.0 w.member) written j t.2 in
      let rows = rows_among (text_rows ts) types (rows_left (flat_map (text_rows ts) types) (map (invocation_row ts) types) uses) t.0 t.1 in
      member_typed t.0 w.0.member (rows_among (λ (w : Written). member_use_rows ts t.0 w.member) written rows w.0 w.1) j w.2)

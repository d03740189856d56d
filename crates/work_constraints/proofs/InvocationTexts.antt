-- The constraints of invocations, at their homes.
use Rattle.std.proofs.Common.{◌≡◌, ◌∙◌, refl, sym, ap, ap₂, ℕ, ◌+◌, Bool, true, false, cond, List, [], ◌∷◌, ◌++◌, Option, Some, None, Result, flat_map, map, option_to_list, slice_get, append-nil}
use Rattle.std.specs.Option.{option_map_or}
use Rattle.std.specs.Result.{OnOk}
use Rattle.std.proofs.lemmas.List.{map-append}
use Rattle.dsl_tree.specs.declared.parts.Ident.{Ident}
use Rattle.dsl_tree.specs.ExprTree.{ExprTree}
use Rattle.dsl_tree.specs.PhaseTree.{ArgumentTree, PartTree}
use Rattle.expr_nodes.specs.type_heads.Table.{Table}
use Rattle.expr_nodes.specs.type_heads.Types.{Field, Types}
use Rattle.expr_nodes.specs.type_heads.Members.{field, fields}
use Rattle.scene_expansion.specs.expansion_laws.WorkNodes.{node_of}
use Rattle.scene_expansion.specs.expansion_laws.Works.{Work}
use Rattle.expr_nodes.specs.Names.{is_duration}
use Rattle.expr_nodes.specs.Scope.{It, Scope}
use Rattle.text_constraints.specs.composition.Calls.{Assigned, assigned, scope_at}
use Rattle.text_constraints.specs.composition.Expanded.{occurrence_of}
use Rattle.text_constraints.specs.composition.Expansion.{Calling, given_argument, here_in, of_arguments, part_rule}
use Rattle.text_constraints.specs.composition.Givens.{Here}
use Rattle.text_constraints.specs.composition.Scenes.{Binding, Occurrence}
use Rattle.text_constraints.specs.Kept.{Holder}
use Rattle.text_constraints.specs.Sites.{Site}
use Rattle.text_constraints.proofs.KeptTexts.{each_is, rule_is}
use Rattle.text_constraints.proofs.ListSteps.{on_ok}
use Rattle.work_constraints.specs.CallTexts.{argument_kept, arguments_kept, call_site, duration_kept, field_argument, invocation_kept, invoke_kept, part_kept, phase_holder, with_it}
use Rattle.work_constraints.proofs.RequiredTexts.{duration_is, parameter_is}

module _ (ts : Types) (bindings : List Binding) (call : Calling) (of : ℕ) where
  abbrev s : Site
  s = call_site bindings call (scope_at ts call.holder None call.way)

  abbrev h : Holder
  h = phase_holder call.path

  abbrev here : Here
  here = here_in ts call (Some (It.Of of None))

  abbrev given : ExprTree → Assigned → List Occurrence
  given value a = map (occurrence_of bindings) (given_argument ts call here value a)

  fielded : (value : ExprTree) (other : Assigned) (o : Option Field) → given value other ≡ [] → given value (option_map_or Assigned.Given o other) ≡ flat_map (field_argument ts.table s h of value) (option_to_list o)
  fielded value other None none = none
  fielded value other (Some f) none = parameter_is ts (with_it s (Some (It.Of of None))) call.path value f ∙ sym (append-nil (field_argument ts.table s h of value f))

  argument_is : (n : ℕ) (name : Option Ident) (value : ExprTree) → given value (assigned ts of n name) ≡ argument_kept ts.table s h of (fields ts of) n (record { name = name; value = value })
  argument_is n None value = fielded value Assigned.Surplus (slice_get (fields ts of) n) refl
  argument_is n (Some name) value = by (is_duration name.text)
    where
      by : (b : Bool) → given value (cond b Assigned.Duration (option_map_or Assigned.Given (field ts of name.text) (Assigned.Unknown name)))
          ≡ cond b (duration_kept ts.table (with_it s None) h value ∷ []) (flat_map (field_argument ts.table s h of value) (option_to_list (field ts of name.text)))
      by true = ap (λ o. o ∷ []) (duration_is ts bindings call value)
      by false = fielded value (Assigned.Unknown name) (field ts of name.text) refl

  arguments_are : (n : ℕ) (arguments : List ArgumentTree) → map (occurrence_of bindings) (of_arguments ts of (given_argument ts call here) n arguments) ≡ arguments_kept ts.table s h of (fields ts of) n arguments
  arguments_are n [] = refl
  arguments_are n (a ∷ others) =
      map-append (occurrence_of bindings) (given_argument ts call here a.value (assigned ts of n a.name)) (of_arguments ts of (given_argument ts call here) (n + 1) others)
      ∙ ap₂ (λ x y. x ++ y) (argument_is n a.name a.value) (arguments_are (n + 1) others)

  part_is : (p : PartTree) → map (occurrence_of bindings) (part_rule ts call here p) ≡ part_kept ts.table (with_it s (Some (It.Of of None))) h p
  part_is (PartTree.RulePart r) = ap (λ o. o ∷ []) (rule_is ts (with_it s (Some (It.Of of None))) h r)
  part_is (PartTree.ModifierPart m) = refl

  -- an invocation
  pub invoke_is : (arguments : List ArgumentTree) (parts : List PartTree)
      → map (occurrence_of bindings) (of_arguments ts of (given_argument ts call here) 0 arguments ++ flat_map (part_rule ts call here) parts) ≡ invoke_kept ts bindings call of arguments parts
  invoke_is arguments parts =
      map-append (occurrence_of bindings) (of_arguments ts of (given_argument ts call here) 0 arguments) (flat_map (part_rule ts call here) parts)
      ∙ ap₂ (λ x y. x ++ y) (arguments_are 0 arguments)
      (each_is (occurrence_of bindings) (part_rule ts call here) (part_kept ts.table (with_it s (Some (It.Of of None))) h) part_is parts)

-- an invocation in a call, by what is known of its parts
module _ (ts : Types) (bindings : List Binding) (call : Calling) (of : ℕ) (arguments : List ArgumentTree) (parts : List PartTree) where
  invoke_same : (table : Table) (sc : Scope) (h : Holder) (fs : List Field) → table ≡ ts.table → sc ≡ scope_at ts call.holder None call.way → h ≡ phase_holder call.path → fs ≡ fields ts of
      → invocation_kept table (call_site bindings call sc) h of fs arguments parts ≡ invoke_kept ts bindings call of arguments parts
  invoke_same table sc h fs a b c d =
      ap₂ (λ (t : Table) (x : Scope). invocation_kept t (call_site bindings call x) h of fs arguments parts) a b
      ∙ ap₂ (λ (k : Holder) (gs : List Field). invocation_kept ts.table (call_site bindings call (scope_at ts call.holder None call.way)) k of gs arguments parts) c d

  pub invoke_of : {E : Type 0} (table : Table) (sc : Scope) (h : Holder) (fs : List Field) (old new : List Occurrence) (r : Result Unit E)
      → table ≡ ts.table → sc ≡ scope_at ts call.holder None call.way → h ≡ phase_holder call.path → fs ≡ fields ts of
      → OnOk r (new ≡ old ++ invocation_kept table (call_site bindings call sc) h of fs arguments parts) → OnOk r (new ≡ old ++ invoke_kept ts bindings call of arguments parts)
  invoke_of table sc h fs old new r a b c d told =
      on_ok (new ≡ old ++ invocation_kept table (call_site bindings call sc) h of fs arguments parts) (new ≡ old ++ invoke_kept ts bindings call of arguments parts)
      (λ is. is ∙ ap (λ os. old ++ os) (invoke_same table sc h fs a b c d)) r told

-- what a work gives, by its form
pub given_by : {E : Type 0} (ts : Types) (bindings : List Binding) (w v : Work) (given : List Occurrence) (old new : List Occurrence) (r : Result Unit E) → w ≡ v → given ≡ map (occurrence_of bindings) (node_of ts v).given
    → OnOk r (new ≡ old ++ given) → OnOk r (new ≡ old ++ map (occurrence_of bindings) (node_of ts w).given)
given_by ts bindings w v given old new r is same told =
    on_ok (new ≡ old ++ given) (new ≡ old ++ map (occurrence_of bindings) (node_of ts w).given) (λ one. one ∙ ap (λ os. old ++ os) (same ∙ ap (λ (x : Work). map (occurrence_of bindings) (node_of ts x).given) (sym is))) r told

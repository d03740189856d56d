-- The expansion of a scenario as written, and in types in which each `do` is unfolded.
use Rattle.std.proofs.Common.{◌≡◌, refl, sym, ap, ap₂, ◌∙◌, ℕ, zero, suc, ◌+◌, List, [], ◌∷◌, ◌++◌, map, length, Bool, cond, not, Option, Some, None}
use Rattle.std.specs.Prelude.{◌&&◌, flat_map, filter, filter_map, option_map, option_to_list, is_some, slice_get, codes}
use Rattle.std.specs.Option.{option_map_or}
use Rattle.std.specs.List.{range_with_len}
use Rattle.composition.specs.osc_base.declared.path.Path.{Path}
use Rattle.composition.specs.osc_base.Paths.{root, then_name, then_member, then_duration, then_do}
use Rattle.composition.specs.dsl_tree.declared.parts.Ident.{Ident}
use Rattle.composition.specs.dsl_tree.declared.phases.InvokeHead.{InvokeHead}
use Rattle.composition.specs.dsl_tree.ExprTree.{ExprTree}
use Rattle.composition.specs.dsl_tree.PhaseTree.{ArgumentTree, PartTree, PhaseTree, Comp, Invoke, Wait, PhaseRow, phases_of}
use Rattle.composition.specs.dsl_tree.FileTree.{ModifierDeclTree}
use Rattle.composition.specs.type_heads.Table.{form, owner, is_object}
use Rattle.composition.specs.type_heads.Types.{Types, Field, Do}
use Rattle.composition.specs.type_heads.Members.{fields, field_type, list_length, the_do}
use Rattle.composition.specs.expr_nodes.Names.{is_duration, duration_at}
use Rattle.composition.specs.expr_nodes.Scope.{It}
use Rattle.composition.specs.expr_nodes.Typing.{first}
use Rattle.composition.specs.declared.guard.Guard.{Guard}
use Rattle.composition.specs.declared.spot.PhaseKind.{PhaseKind}
use Rattle.composition.specs.Scenes.{Binding}
use Rattle.composition.specs.Homes.{is_bound}
use Rattle.composition.specs.Ranges.{range_of}
use Rattle.composition.specs.Calls.{PhaseHere, phases_in, Callee, callee, invoked, Assigned, assigned}
use Rattle.composition.specs.Givens.{Here, Given, given_required}
use Rattle.composition.specs.Expansion.{GivenModifier, Expansion, Maker, Object, Phase, End, Part, Calling, in_row, value_parts, field_parts, calling, here_in, argument_named, composition_kind, given_duration, parameter, given_argument, argument_binding, actor_binding, of_arguments, part_rule, part_modifier, invocation, phase_part, do_parts, expand_within, own_actor, expansion}
use Rattle.modifier_meaning.specs.Unfolded.{unfolded_parts, unfolded_phase, unfolded_row}
use Rattle.modifier_meaning.specs.WrittenScene.{rules_of_part, modifiers_of_part, written_invocation, written_phase, written_do, written_within, written_actor, written_expansion}
use Rattle.modifier_meaning.specs.UnfoldedTypes.{unfolded_types}
use Rattle.modifier_meaning.specs.ModifierLaws.{ExpansionsAgree}
use Rattle.modifier_meaning.proofs.Lists.{flat_alike, map_alike, flat_of_map, length_mapped}
use Rattle.modifier_meaning.proofs.Members.{same_fields, do_mapped, unfolded_do}
use Rattle.modifier_meaning.proofs.Scopes.{scope_same, field_same, guards_same, phase_new, phases_in_mapped, phases_of_mapped}
use Rattle.modifier_meaning.proofs.OwnGivens.{own_same}
use Rattle.modifier_meaning.proofs.Parts.{rules_agree, modifiers_agree}

still_there : {X Y : Type 0} (f : X → Y) (o : Option X) → is_some (option_map f o) ≡ is_some o
still_there f None = refl
still_there f (Some x) = refl

module _ (mods : List ModifierDeclTree) (ts : Types) where
  has_do_same : (t : ℕ) → is_some (the_do (unfolded_types mods ts) t) ≡ is_some (the_do ts t)
  has_do_same t = ap is_some (do_mapped mods ts t) ∙ still_there (unfolded_do mods) (the_do ts t)

  here_same : (call : Calling) (it : Option It) → here_in (unfolded_types mods ts) call it ≡ here_in ts call it
  here_same call it = ap (λ scope. record { object = call.object; it = call.path; scope = scope }) (scope_same mods ts call.holder it call.way)

  duration_same : (call : Calling) (value : ExprTree) → given_duration (unfolded_types mods ts) call value ≡ given_duration ts call value
  duration_same call value = ap (λ here. given_required ts here call.path (Some (duration_at (first value) (then_duration call.path))) value) (here_same call None)

  -- ---- arguments

  assigned_same : (t n : ℕ) (name : Option Ident) → assigned (unfolded_types mods ts) t n name ≡ assigned ts t n name
  assigned_same t n None = ap (λ fs. option_map_or Assigned.Given (slice_get fs n) Assigned.Surplus) (same_fields mods ts t)
  assigned_same t n (Some name) = ap (λ o. cond (is_duration name.text) Assigned.Duration (option_map_or Assigned.Given o (Assigned.Unknown name))) (field_same mods ts t name.text)

  arguments_same : {X : Type 0} (of : ℕ) (make make2 : ExprTree → Assigned → List X) → make2 ≡ make → (n : ℕ) (arguments : List ArgumentTree) →
      of_arguments (unfolded_types mods ts) of make2 n arguments ≡ of_arguments ts of make n arguments
  arguments_same of make make2 e n [] = refl
  arguments_same of make make2 e n (a ∷ others) =
      λ i. e i a.value (assigned_same of n a.name i) ++ arguments_same of make make2 e (n + 1) others i

  argument_same : (call : Calling) (here here2 : Here) → here2 ≡ here → (value : ExprTree) (to : Assigned) →
      given_argument (unfolded_types mods ts) call here2 value to ≡ given_argument ts call here value to
  argument_same call here here2 e value Assigned.Surplus = refl
  argument_same call here here2 e value Assigned.Duration = ap (λ g. g ∷ []) (duration_same call value)
  argument_same call here here2 e value (Assigned.Unknown name) = refl
  argument_same call here here2 e value (Assigned.Given f) = ap (λ h. map (λ p. given_required ts h call.path (Some p) value) (option_to_list (parameter ts h value f))) e

  binding_same : (call : Calling) (here here2 : Here) → here2 ≡ here → (value : ExprTree) (to : Assigned) →
      argument_binding (unfolded_types mods ts) call here2 value to ≡ argument_binding ts call here value to
  binding_same call here here2 e value Assigned.Surplus = refl
  binding_same call here here2 e value Assigned.Duration = refl
  binding_same call here here2 e value (Assigned.Unknown name) = refl
  binding_same call here here2 e value (Assigned.Given f) = ap (λ h. argument_binding ts call h value (Assigned.Given f)) e

  actor_same : (call : Calling) (c : Callee) → actor_binding (unfolded_types mods ts) call c ≡ actor_binding ts call c
  actor_same call (Callee.Alone name) = refl
  actor_same call (Callee.Owned actor name) = refl
  actor_same call (Callee.NoName place) = refl

  -- ---- parts

  rule_part_same : (call : Calling) (here : Here) (part : PartTree) → part_rule (unfolded_types mods ts) call here part ≡ part_rule ts call here part
  rule_part_same call here (PartTree.RulePart r) = refl
  rule_part_same call here (PartTree.ModifierPart m) = refl

  modifier_part_same : (call : Calling) (here : Here) (part : PartTree) → part_modifier (unfolded_types mods ts) call here part ≡ part_modifier ts call here part
  modifier_part_same call here (PartTree.RulePart r) = refl
  modifier_part_same call here (PartTree.ModifierPart m) = refl

  rules_same : (call : Calling) (here here2 : Here) → here2 ≡ here → (parts : List PartTree) →
      flat_map (rules_of_part mods ts call here) parts ≡ flat_map (part_rule (unfolded_types mods ts) call here2) (unfolded_parts mods parts)
  rules_same call here here2 e parts =
      rules_agree ts call here mods parts
      ∙ ap (λ h. flat_map (part_rule ts call h) (unfolded_parts mods parts)) (sym e)
      ∙ sym (flat_alike (part_rule (unfolded_types mods ts) call here2) (part_rule ts call here2) (rule_part_same call here2) (unfolded_parts mods parts))

  modifiers_same : (call : Calling) (here here2 : Here) → here2 ≡ here → (parts : List PartTree) →
      flat_map (modifiers_of_part mods ts call here) parts ≡ flat_map (part_modifier (unfolded_types mods ts) call here2) (unfolded_parts mods parts)
  modifiers_same call here here2 e parts =
      modifiers_agree ts call here mods parts
      ∙ ap (λ h. flat_map (part_modifier ts call h) (unfolded_parts mods parts)) (sym e)
      ∙ sym (flat_alike (part_modifier (unfolded_types mods ts) call here2) (part_modifier ts call here2) (modifier_part_same call here2) (unfolded_parts mods parts))

  -- ---- phases

  module _ (make make2 : Maker) (maker : make ≡ make2) where
    -- an invocation of its parts
    abbrev invoked_of : Maker → Calling → ℕ → Bool → List Binding → List Given → List GivenModifier → Expansion
    invoked_of m call of has_do bindings given modifiers =
        Phase call.path call.guards (cond has_do PhaseKind.Scenario PhaseKind.Action) (cond has_do (then_do call.path ∷ []) []) bindings
        (Part (m call.path of call.guards bindings) End) given modifiers

    abbrev made_here : Calling → ℕ → Here
    made_here call of = here_in ts call (Some (It.Of of None))

    abbrev made_here2 : Calling → ℕ → Here
    made_here2 call of = here_in (unfolded_types mods ts) call (Some (It.Of of None))

    same_here : (call : Calling) (of : ℕ) → made_here2 call of ≡ made_here call of
    same_here call of = here_same call (Some (It.Of of None))

    bindings_same : (call : Calling) (head : InvokeHead) (names : List Ident) (arguments : List ArgumentTree) (of : ℕ) →
        actor_binding ts call (callee head names) ++ of_arguments ts of (argument_binding ts call (made_here call of)) 0 arguments
        ≡ actor_binding (unfolded_types mods ts) call (callee head names) ++ of_arguments (unfolded_types mods ts) of (argument_binding (unfolded_types mods ts) call (made_here2 call of)) 0 arguments
    bindings_same call head names arguments of = sym (ap₂ (λ a b. a ++ b) (actor_same call (callee head names))
        (arguments_same of (argument_binding ts call (made_here call of)) (argument_binding (unfolded_types mods ts) call (made_here2 call of))
        (λ i value to. binding_same call (made_here call of) (made_here2 call of) (same_here call of) value to i) 0 arguments))

    givens_same : (call : Calling) (arguments : List ArgumentTree) (parts : List PartTree) (of : ℕ) →
        of_arguments ts of (given_argument ts call (made_here call of)) 0 arguments ++ flat_map (rules_of_part mods ts call (made_here call of)) parts
        ≡ of_arguments (unfolded_types mods ts) of (given_argument (unfolded_types mods ts) call (made_here2 call of)) 0 arguments ++ flat_map (part_rule (unfolded_types mods ts) call (made_here2 call of)) (unfolded_parts mods parts)
    givens_same call arguments parts of = ap₂ (λ a b. a ++ b)
        (sym (arguments_same of (given_argument ts call (made_here call of)) (given_argument (unfolded_types mods ts) call (made_here2 call of))
        (λ i value to. argument_same call (made_here call of) (made_here2 call of) (same_here call of) value to i) 0 arguments))
        (rules_same call (made_here call of) (made_here2 call of) (same_here call of) parts)

    invocation_same : (call : Calling) (head : InvokeHead) (names : List Ident) (arguments : List ArgumentTree) (parts : List PartTree) (of : ℕ) →
        written_invocation mods make ts call head names arguments parts of ≡ invocation make2 (unfolded_types mods ts) call head names arguments (unfolded_parts mods parts) of
    invocation_same call head names arguments parts of =
        λ i. invoked_of (maker i) call of (sym (has_do_same of) i) (bindings_same call head names arguments of i) (givens_same call arguments parts of i)
        (modifiers_same call (made_here call of) (made_here2 call of) (same_here call of) parts i)

    count_same : (row : PhaseRow) → length (phases_of row) ≡ length (phases_of (unfolded_row mods row))
    count_same row = sym (ap length (phases_of_mapped mods row) ∙ length_mapped (unfolded_phase mods) (phases_of row))

    phase_same : (call : Calling) (phase : PhaseTree) → written_phase mods make ts call phase ≡ phase_part make2 (unfolded_types mods ts) call (unfolded_phase mods phase)
    phase_same call (Comp label place kind arguments members) =
        ap₂ (λ n given. Phase call.path call.guards (composition_kind kind arguments) (map (then_member call.path) (range_with_len 0 n)) [] End given [] ∷ [])
        (count_same members)
        (sym (map_alike (given_duration (unfolded_types mods ts) call) (given_duration ts call) (duration_same call) (option_to_list (argument_named (codes "duration") arguments))))
    phase_same call (Invoke label head names arguments parts) =
        map_alike (written_invocation mods make ts call head names arguments parts) (invocation make2 (unfolded_types mods ts) call head names arguments (unfolded_parts mods parts))
        (invocation_same call head names arguments parts) (option_to_list (invoked ts call.holder head names))
    phase_same call (Wait label place elapsed) = ap (λ g. Phase call.path call.guards PhaseKind.Wait [] [] End (g ∷ []) [] ∷ []) (sym (duration_same call elapsed))

    do_same : (bindings : List Binding) (object : Path) (guards : List Guard) (d : Do) →
        written_do mods make ts bindings object guards d ≡ do_parts make2 (unfolded_types mods ts) bindings object guards (unfolded_do mods d)
    do_same bindings object guards d =
        flat_alike (λ (p : PhaseHere). written_phase mods make ts (calling bindings object guards d p) p.phase)
        (λ (p : PhaseHere). phase_part make2 (unfolded_types mods ts) (calling bindings object guards d p) (unfolded_phase mods p.phase))
        (λ p. phase_same (calling bindings object guards d p) p.phase) (phases_in d.phase)
        ∙ sym (flat_of_map (λ (p : PhaseHere). phase_part make2 (unfolded_types mods ts) (calling bindings object guards (unfolded_do mods d) p) p.phase) (phase_new mods) (phases_in d.phase))
        ∙ ap (flat_map (λ (p : PhaseHere). phase_part make2 (unfolded_types mods ts) (calling bindings object guards (unfolded_do mods d) p) p.phase)) (sym (phases_in_mapped mods d.phase))

    dos_by : (bindings : List Binding) (object : Path) (guards : List Guard) (o : Option Do) →
        flat_map (written_do mods make ts bindings object guards) (option_to_list o)
        ≡ flat_map (do_parts make2 (unfolded_types mods ts) bindings object guards) (option_to_list (option_map (unfolded_do mods) o))
    dos_by bindings object guards None = refl
    dos_by bindings object guards (Some d) = ap (λ xs. xs ++ []) (do_same bindings object guards d)

    dos_same : (bindings : List Binding) (object : Path) (guards : List Guard) (t : ℕ) →
        flat_map (written_do mods make ts bindings object guards) (option_to_list (the_do ts t))
        ≡ flat_map (do_parts make2 (unfolded_types mods ts) bindings object guards) (option_to_list (the_do (unfolded_types mods ts) t))
    dos_same bindings object guards t =
        dos_by bindings object guards (the_do ts t)
        ∙ ap (λ o. flat_map (do_parts make2 (unfolded_types mods ts) bindings object guards) (option_to_list o)) (sym (do_mapped mods ts t))

    -- ---- fields

    abbrev field_of : Maker → List Binding → Path → List Guard → Field → List Guard → List Expansion
    field_of m bindings object guards f under =
        map (λ of. m (then_name object f.name.text) of (guards ++ under) []) (filter (λ of. is_object (form ts.table.heads of) && not (is_bound bindings (then_name object f.name.text))) (option_to_list (field_type ts f)))
        ++ flat_map (value_parts (then_name object f.name.text) (guards ++ under) (list_length f.tree)) (filter_map (λ of. range_of (form ts.table.heads of)) (option_to_list (field_type ts f)))

    field_parts_same : (bindings : List Binding) (object : Path) (t : ℕ) (guards : List Guard) (f : Field) →
        field_parts make ts bindings object t guards f ≡ field_parts make2 (unfolded_types mods ts) bindings object t guards f
    field_parts_same bindings object t guards f = ap₂ (λ m under. field_of m bindings object guards f under) maker (sym (guards_same mods ts object t f.under))

    all_fields_same : (bindings : List Binding) (object : Path) (t : ℕ) (guards : List Guard) →
        flat_map (field_parts make ts bindings object t guards) (fields ts t) ≡ flat_map (field_parts make2 (unfolded_types mods ts) bindings object t guards) (fields (unfolded_types mods ts) t)
    all_fields_same bindings object t guards =
        flat_alike (field_parts make ts bindings object t guards) (field_parts make2 (unfolded_types mods ts) bindings object t guards) (field_parts_same bindings object t guards) (fields ts t)
        ∙ ap (flat_map (field_parts make2 (unfolded_types mods ts) bindings object t guards)) (sym (same_fields mods ts t))

  -- ---- objects

  within_same : (steps : ℕ) (path : Path) (t : ℕ) (guards : List Guard) (bindings : List Binding) (actor : List Expansion) →
      written_within steps mods ts path t guards bindings actor ≡ expand_within steps (unfolded_types mods ts) path t guards bindings actor
  within_same zero path t guards bindings actor = refl
  within_same (suc steps) path t guards bindings actor =
      λ i. Object path t guards
      (in_row (actor
      ++ all_fields_same (λ q of conditions bound. written_within steps mods ts q of conditions bound []) (λ q of conditions bound. expand_within steps (unfolded_types mods ts) q of conditions bound [])
      (λ j q of conditions bound. within_same steps q of conditions bound [] j) bindings path t guards i
      ++ dos_same (λ q of conditions bound. written_within steps mods ts q of conditions bound []) (λ q of conditions bound. expand_within steps (unfolded_types mods ts) q of conditions bound [])
      (λ j q of conditions bound. within_same steps q of conditions bound [] j) bindings path guards t i))
      (sym (own_same mods ts path t) i)

  actors_same : (t : ℕ) → written_actor mods ts t ≡ own_actor (unfolded_types mods ts) t
  actors_same t =
      map_alike (λ a. written_within (length ts.table.heads) mods ts (then_name root (codes "actor")) a [] [] []) (λ a. expand_within (length ts.table.heads) (unfolded_types mods ts) (then_name root (codes "actor")) a [] [] [])
      (λ a. within_same (length ts.table.heads) (then_name root (codes "actor")) a [] [] []) (option_to_list (owner ts.table.heads t))

  pub expansion_same : (t : ℕ) → written_expansion mods ts t ≡ expansion (unfolded_types mods ts) t
  expansion_same t =
      within_same (length ts.table.heads) root t [] [] (written_actor mods ts t)
      ∙ ap (expand_within (length ts.table.heads) (unfolded_types mods ts) root t [] []) (actors_same t)

pub expansions_agree : ExpansionsAgree
expansions_agree mods ts t = expansion_same mods ts t

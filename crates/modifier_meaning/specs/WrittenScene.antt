-- The scene of a program as it is written: applications of user modifiers are read where they stand, and nothing is replaced.
use Rattle.std.specs.Prelude.{ℕ, zero, suc, ◌+◌, cond, List, [], ◌∷◌, ◌++◌, Option, Some, None, length, map, flat_map, codes, is_some, option_map, option_and_then, option_to_list}
use Rattle.std.specs.Option.{option_map_or, option_or}
use Rattle.std.specs.List.{range_with_len}
use Rattle.composition.specs.osc_base.declared.fault.Place.{Place}
use Rattle.composition.specs.osc_base.declared.path.Path.{Path}
use Rattle.composition.specs.osc_base.declared.mark.Strength.{Strength}
use Rattle.composition.specs.osc_base.Paths.{root, then_name, then_member, then_do}
use Rattle.composition.specs.dsl_tree.declared.parts.Ident.{Ident}
use Rattle.composition.specs.dsl_tree.declared.phases.InvokeHead.{InvokeHead}
use Rattle.composition.specs.dsl_tree.ExprTree.{ExprTree}
use Rattle.composition.specs.dsl_tree.PhaseTree.{RuleTree, ArgumentTree, ModifierTree, PartTree, PhaseTree, Comp, Invoke, Wait, phases_of}
use Rattle.composition.specs.dsl_tree.FileTree.{ModifierDeclTree}
use Rattle.composition.specs.type_heads.Table.{owner}
use Rattle.composition.specs.type_heads.Types.{Program, Types, Do}
use Rattle.composition.specs.type_heads.Members.{fields, the_do}
use Rattle.composition.specs.type_heads.DeclaredTypes.{types_of}
use Rattle.composition.specs.expr_nodes.Typed.{Typed, moved}
use Rattle.composition.specs.expr_nodes.Scope.{It}
use Rattle.composition.specs.declared.guard.Guard.{Guard}
use Rattle.composition.specs.declared.setting.Setting.{Setting}
use Rattle.composition.specs.declared.spot.PhaseKind.{PhaseKind}
use Rattle.composition.specs.Calls.{PhaseHere, phases_in, callee, invoked}
use Rattle.composition.specs.Scenes.{Binding, Scene}
use Rattle.composition.specs.ModifierLines.{ModifierForm, modifier_form}
use Rattle.composition.specs.Tokens.{argument_tokens}
use Rattle.composition.specs.Uses.{is_at}
use Rattle.composition.specs.Givens.{Here, Given, from_root, read_at, strength_of, own_givens}
use Rattle.composition.specs.Expansion.{GivenModifier, Expansion, Maker, Object, Phase, End, Part, Calling, in_row, field_parts, calling, here_in, argument_named, composition_kind, given_duration, given_argument, argument_binding, actor_binding, of_arguments, object_at, low_end, high_end}
use Rattle.composition.specs.Expanded.{scene_from, with_readable}
use Rattle.modifier_meaning.specs.Environment.{Argument, Environment, typed_in, is_path_in, tokens_in, read_argument}
use Rattle.modifier_meaning.specs.Application.{Reading, RuleIn, ModifierIn, readings, declared_modifiers}
use Rattle.modifier_meaning.specs.WrittenTexts.{written_texts}

-- ---- expressions

-- the typed form of an expression, with its paths from the named scenario on
abbrev pub typed_here_in : Types → Here → Environment → ExprTree → Option Typed
typed_here_in ts here env e = option_map (moved (from_root here)) (typed_in ts.table here.scope env e)

-- the field or duration to which a path leads
abbrev pub target_in : Types → Here → Environment → ExprTree → Option Path
target_in ts here env e = cond (is_path_in env e) (option_and_then read_at (typed_here_in ts here env e)) None

-- what stands on the left of a relation
abbrev pub left_target_in : Types → Here → Environment → ExprTree → Option Path
left_target_in ts here env (ExprTree.Relation place sign left right) = target_in ts here env left
left_target_in ts here env _ = None

-- what a rule of that strength is about
abbrev pub keep_target_in : Types → Here → Environment → Strength → ExprTree → Option Path
keep_target_in ts here env Strength.Hard e = left_target_in ts here env e
keep_target_in ts here env Strength.Default e = option_or (left_target_in ts here env e) (target_in ts here env e)
keep_target_in ts here env Strength.Remove e = target_in ts here env e

-- ---- rules

-- a constraint of a phase with its target and its typed expression
abbrev pub given_keep_in : Types → Here → Environment → Path → Place → Strength → ExprTree → Given
given_keep_in ts here env phase place strength e = record {
  place = place;
  holder = phase;
  under = [];
  strength = strength;
  target = keep_target_in ts here env strength e;
  typed = typed_here_in ts here env e;
  tokens = tokens_in env e;
}

-- what a rule gives; a `remove_default` has no expression
abbrev pub given_rule_in : Types → Here → Environment → Path → RuleTree → Given
given_rule_in ts here env phase (RuleTree.Keep place kind e) = given_keep_in ts here env phase place (strength_of kind) e
given_rule_in ts here env phase (RuleTree.Remove place path) = record (given_keep_in ts here env phase place Strength.Remove path) { typed = None }

-- the constraint that a reading gives
abbrev pub reading_rule : Types → Calling → Here → Reading Argument → List Given
reading_rule ts call here (RuleIn env rule) = given_rule_in ts here env call.path rule ∷ []
reading_rule ts call here (ModifierIn env modifier) = []

-- ---- modifiers of the table

-- the tokens of an argument; the word after `at:` is no expression
abbrev pub argument_tokens_in : Environment → ArgumentTree → ℕ
argument_tokens_in env a = cond (is_at a) (argument_tokens a) (option_map_or (λ name. 2) a.name 0 + tokens_in env a.value)

-- what stands between the brackets of a row of arguments, with the commas
abbrev pub arguments_tokens_in : Environment → List ArgumentTree → ℕ
arguments_tokens_in env [] = 0
arguments_tokens_in env (a ∷ []) = argument_tokens_in env a
arguments_tokens_in env (a ∷ next ∷ later) = argument_tokens_in env a + 1 + arguments_tokens_in env (next ∷ later)

-- a modifier of an invocation, whose own vehicle is the invoked actor
abbrev pub given_modifier_in : Types → Calling → Here → Environment → ModifierTree → ModifierForm → GivenModifier
given_modifier_in ts call here env m f =
    let range = option_and_then (typed_here_in ts here env) f.range in
    record {
      modifier = record {
        place = m.name.place;
        phase = call.path;
        own = then_name call.path (codes "actor");
        other = option_and_then object_at (option_and_then (typed_here_in ts here env) f.other);
        kind = f.kind;
        moment = f.moment;
        low = option_map low_end range;
        high = option_map high_end range;
      };
      tokens = arguments_tokens_in env m.arguments;
    }

-- the modifier that a reading is
abbrev pub reading_modifier : Types → Calling → Here → Reading Argument → List GivenModifier
reading_modifier ts call here (RuleIn env rule) = []
reading_modifier ts call here (ModifierIn env modifier) = map (given_modifier_in ts call here env modifier) (option_to_list (modifier_form modifier))

-- ---- parts of a `with:`

-- what a part comes to where it stands
abbrev pub readings_here : List ModifierDeclTree → Types → Here → PartTree → List (Reading Argument)
readings_here mods ts here part = readings (read_argument ts.table here.scope) mods part

-- the constraints that a part gives
abbrev pub rules_of_part : List ModifierDeclTree → Types → Calling → Here → PartTree → List Given
rules_of_part mods ts call here part = flat_map (reading_rule ts call here) (readings_here mods ts here part)

-- the modifiers that a part gives
abbrev pub modifiers_of_part : List ModifierDeclTree → Types → Calling → Here → PartTree → List GivenModifier
modifiers_of_part mods ts call here part = flat_map (reading_modifier ts call here) (readings_here mods ts here part)

-- ---- phases

-- an invocation: the object of the invoked type with the bindings that the call makes; then the arguments, and the `with:`
abbrev pub written_invocation : List ModifierDeclTree → Maker → Types → Calling → InvokeHead → List Ident → List ArgumentTree → List PartTree → ℕ → Expansion
written_invocation mods make ts call head names arguments parts of =
    let here = here_in ts call (Some (It.Of of None)) in
    let bindings = actor_binding ts call (callee head names) ++ of_arguments ts of (argument_binding ts call here) 0 arguments in
    let has_do = is_some (the_do ts of) in
    Phase call.path call.guards (cond has_do PhaseKind.Scenario PhaseKind.Action) (cond has_do (then_do call.path ∷ []) []) bindings
    (Part (make call.path of call.guards bindings) End)
    (of_arguments ts of (given_argument ts call here) 0 arguments ++ flat_map (rules_of_part mods ts call here) parts)
    (flat_map (modifiers_of_part mods ts call here) parts)

-- a phase, with the object that it invokes
abbrev pub written_phase : List ModifierDeclTree → Maker → Types → Calling → PhaseTree → List Expansion
written_phase mods make ts call (Comp label place kind arguments members) =
    Phase call.path call.guards (composition_kind kind arguments) (map (then_member call.path) (range_with_len 0 (length (phases_of members)))) [] End
    (map (given_duration ts call) (option_to_list (argument_named (codes "duration") arguments))) [] ∷ []
written_phase mods make ts call (Invoke label head names arguments parts) =
    map (written_invocation mods make ts call head names arguments parts) (option_to_list (invoked ts call.holder head names))
written_phase mods make ts call (Wait label place elapsed) = Phase call.path call.guards PhaseKind.Wait [] [] End (given_duration ts call elapsed ∷ []) [] ∷ []

-- the phases of a `do`, each before its members
abbrev pub written_do : List ModifierDeclTree → Maker → Types → List Binding → Path → List Guard → Do → List Expansion
written_do mods make ts bindings object guards d =
    flat_map (λ (p : PhaseHere). written_phase mods make ts (calling bindings object guards d p) p.phase) (phases_in d.phase)

-- ---- objects

-- the object at a path of type t
abbrev pub written_within : ℕ → List ModifierDeclTree → Types → Path → ℕ → List Guard → List Binding → List Expansion → Expansion
written_within zero mods ts path t guards bindings actor = Object path t guards End []
written_within (suc steps) mods ts path t guards bindings actor =
    Object path t guards
    (in_row (actor
    ++ flat_map (field_parts (λ q of conditions bound. written_within steps mods ts q of conditions bound []) ts bindings path t guards) (fields ts t)
    ++ flat_map (written_do mods (λ q of conditions bound. written_within steps mods ts q of conditions bound []) ts bindings path guards) (option_to_list (the_do ts t))))
    (own_givens ts path t)

-- the actor that an owned scenario has by itself if nothing invokes it
abbrev pub written_actor : List ModifierDeclTree → Types → ℕ → List Expansion
written_actor mods ts t = map (λ a. written_within (length ts.table.heads) mods ts (then_name root (codes "actor")) a [] [] []) (option_to_list (owner ts.table.heads t))

-- the expansion of the scenario of that number
abbrev pub written_expansion : List ModifierDeclTree → Types → ℕ → Expansion
written_expansion mods ts t = written_within (length ts.table.heads) mods ts root t [] [] (written_actor mods ts t)

-- ---- programs

-- types with these texts
abbrev pub with_texts : List (List ℕ) → Types → Types
with_texts texts ts = record ts { table = record ts.table { texts = texts } }

-- the types of a program as written
abbrev pub written_types : Program → Types
written_types p = with_texts (written_texts p.files) (types_of p)

-- the scene of the scenario of that number in a program as written
abbrev pub written_scene : Program → ℕ → Setting → Scene
written_scene p t setting =
    let ts = written_types p in
    with_readable (scene_from ts setting (written_expansion (declared_modifiers p.files) ts t))

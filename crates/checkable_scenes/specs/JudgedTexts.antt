-- The expressions of a program's texts, each with the scope in which it is judged.
use Rattle.std.specs.Prelude.{◌≡◌, ℕ, true, false, cond, List, [], ◌∷◌, ◌++◌, Some, None, bytes_eq, codes, map, flat_map, option_to_list}
use Rattle.std.specs.Option.{option_map_or}
use Rattle.expr_eval.specs.dsl_tree.declared.parts.Ident.{Ident}
use Rattle.expr_eval.specs.dsl_tree.ExprTree.{ExprTree}
use Rattle.expr_eval.specs.dsl_tree.PhaseTree.{ArgumentTree, PartTree, PhaseTree, Comp, Invoke, Wait}
use Rattle.expr_eval.specs.dsl_tree.FileTree.{MemberTree}
use Rattle.expr_eval.specs.type_heads.Table.{Table, all_types}
use Rattle.expr_eval.specs.type_heads.Types.{Written, Types}
use Rattle.expr_eval.specs.type_heads.Members.{body}
use Rattle.expr_eval.specs.type_heads.Texts.{rule_exprs, argument_exprs}
use Rattle.expr_eval.specs.expr_nodes.Typed.{Typed}
use Rattle.expr_eval.specs.expr_nodes.Scope.{Scope}
use Rattle.expr_eval.specs.expr_nodes.Typing.{typed}
use Rattle.expr_eval.specs.expr_nodes.Sound.{is_sound}
use Rattle.expr_eval.specs.Narrow.{is_narrow}
use Rattle.expr_eval.specs.Resolved.{IsResolved}
use Rattle.run_values.specs.composition.Calls.{Turn, PhaseHere, phases_in, Callee, callee, without_labels, invoked, scope_at}
use Rattle.run_values.specs.composition.Uses.{field_scope, compared_exprs, it_made}

-- an expression, and the scope in which it is judged
pub record Judged : Type 0 where
  pub scope : Scope
  pub expr : ExprTree

-- expressions that are judged in one scope
abbrev pub judged_in : Scope → List ExprTree → List Judged
judged_in sc exprs = map (λ e. record { scope = sc; expr = e }) exprs

-- an argument of a composition; the word after `overlap:` is no expression
abbrev pub stated_exprs : ArgumentTree → List ExprTree
stated_exprs a = cond (option_map_or (λ (i : Ident). bytes_eq i.text (codes "overlap")) a.name false) [] (a.value ∷ [])

-- the expressions of a rule, and those that a modifier compares with
abbrev pub part_compared : PartTree → List ExprTree
part_compared (PartTree.RulePart rule) = rule_exprs rule
part_compared (PartTree.ModifierPart modifier) = flat_map compared_exprs modifier.arguments

-- the path to the actor that is called
abbrev pub actor_paths : Callee → List ExprTree
actor_paths (Callee.Alone name) = []
actor_paths (Callee.Owned actor name) = actor ∷ []
actor_paths (Callee.NoName place) = []

-- A phase in the text of type t, without the phases in it. The path to an actor is judged in the scope with labels, and read in the one without.
abbrev pub phase_judged : Types → ℕ → List Turn → PhaseTree → List Judged
phase_judged ts t way (Comp label place comp arguments members) = judged_in (scope_at ts t None way) (flat_map stated_exprs arguments)
phase_judged ts t way (Wait label place elapsed) = judged_in (scope_at ts t None way) (elapsed ∷ [])
phase_judged ts t way (Invoke label head names arguments parts) =
    judged_in (without_labels t) (actor_paths (callee head names))
    ++ judged_in (scope_at ts t None way) (actor_paths (callee head names) ++ argument_exprs arguments)
    ++ judged_in (scope_at ts t (Some (it_made (invoked ts t head names))) way) (flat_map part_compared parts)

-- a member in the text of type t
abbrev pub member_judged : Types → ℕ → MemberTree → List Judged
member_judged ts t (MemberTree.Field f) = judged_in (scope_at ts t None []) (option_to_list f.initial) ++ judged_in (field_scope ts t f) (flat_map rule_exprs f.rules)
member_judged ts t (MemberTree.Rule rule) = judged_in (scope_at ts t None []) (rule_exprs rule)
member_judged ts t (MemberTree.Do place phase) = flat_map (λ (p : PhaseHere). phase_judged ts t p.way p.phase) (phases_in phase)

-- the text of type t: its declaration and its extensions
abbrev pub text_judged : Types → ℕ → List Judged
text_judged ts t = flat_map (λ (w : Written). member_judged ts t w.member) ((body ts.bodies t).own ++ (body ts.bodies t).more)

-- all texts
abbrev pub all_judged : Types → List Judged
all_judged ts = flat_map (text_judged ts) (all_types ts.table.heads)

-- An expression whose scope leaves nothing open, and which has a typed form. The form is sound if its constants are within the limit.
pub record IsTypedIn (table : Table) (j : Judged) : Type 0 where
  pub resolved : IsResolved table j.scope
  pub form : Typed
  pub is : typed table j.scope j.expr ≡ Some form
  pub sound : is_narrow form ≡ true → is_sound form ≡ true

-- What an invocation calls.
use Rattle.std.proofs.Common.{◌≡◌, ◌∙◌, refl, sym, ap, ap₂, ◌||◌, Bool, List, [], ◌∷◌, Option, Some, None, false, is_none}
use Rattle.std.specs.Option.{option_map_or}
use Rattle.osc_base.specs.declared.fault.Place.{Place}
use Rattle.osc_base.specs.declared.fault.Fault.{Fault}
use Rattle.osc_base.specs.declared.fault.FaultCode.{FaultCode}
use Rattle.osc_base.specs.FaultRows.{row, row_fault, first_of, first_from}
use Rattle.dsl_tree.specs.declared.parts.Ident.{Ident}
use Rattle.dsl_tree.specs.declared.phases.InvokeHead.{InvokeHead}
use Rattle.dsl_tree.specs.ExprTree.{ExprTree}
use Rattle.expr_nodes.specs.type_heads.Table.{Table}
use Rattle.expr_nodes.specs.Checks.{IsChecked}
use Rattle.expr_nodes.specs.Parts.{of_one}
use Rattle.expr_nodes.specs.Scope.{Scope}
use Rattle.expr_nodes.specs.Seen.{seen_part}
use Rattle.expr_nodes.specs.Typed.{Typed}
use Rattle.expr_nodes.specs.Typing.{expr_rows, first, typed}
use Rattle.expr_nodes.specs.declared.parts.Checked.{Checked}
use Rattle.program_calls.specs.composition.Calls.{Callee, actor_type, owned_behaviour, without_labels}
use Rattle.program_calls.specs.composition.Uses.{begins_with_label, callee_rows}
use Rattle.program_calls.specs.SeenCallees.{actor_tree, head_tree, with_names}
use Rattle.program_uses.specs.TableTypes.{of_table}

-- a path to an actor begins as its head does
names_begin : (table : Table) (sc : Scope) (e : ExprTree) (names : List Ident) → begins_with_label table sc (with_names e names) ≡ begins_with_label table sc e
names_begin table sc e [] = refl
names_begin table sc e (name ∷ names) = names_begin table sc (ExprTree.Dot e name) names

names_first : (e : ExprTree) (names : List Ident) → first (with_names e names) ≡ first e
names_first e [] = refl
names_first e (name ∷ names) = names_first (ExprTree.Dot e name) names

-- the path to an actor and the name of one of its behaviours
pub owned : (table : Table) (sc : Scope) (before own middle last : Option Fault) (place : Place) (head : InvokeHead) (names : List Ident) (name : Ident) (known : Checked) (wrong unknown : Bool) →
    wrong ≡ (begins_with_label table sc (head_tree head) || of_one (seen_part known.typed) (λ x. is_none (actor_type table.heads (Some x)))) → place ≡ first (head_tree head) →
    IsChecked table sc (actor_tree head names) known →
    unknown ≡ option_map_or (λ a. is_none (owned_behaviour table.heads name.text a)) (actor_type table.heads (typed table (without_labels sc.holder) (actor_tree head names))) false →
    own ≡ first_of before (row_fault (row place FaultCode.WrongKind wrong)) → middle ≡ first_of own (row_fault (row name.place FaultCode.Unknown unknown)) →
    last ≡ first_from middle (expr_rows table sc (actor_tree head names)) → last ≡ first_from before (callee_rows (of_table None table) sc (Callee.Owned (actor_tree head names) name))
owned table sc before own middle last place head names name known wrong unknown is at h lacks one two rest =
    let actor = actor_tree head names in
    let no_actor : Option Typed → Bool = λ t. of_one t (λ x. is_none (actor_type table.heads (Some x))) in
    rest
    ∙ ap (λ f. first_from f (expr_rows table sc actor))
    (two ∙ ap₂ (λ f b. first_of f (row_fault (row name.place FaultCode.Unknown b)))
    (one ∙ ap₂ (λ p b. first_of before (row_fault (row p FaultCode.WrongKind b))) (at ∙ sym (names_first (head_tree head) names))
    (is ∙ ap₂ (λ l t. l || no_actor t) (sym (names_begin table sc (head_tree head) names)) h.1))
    lacks)

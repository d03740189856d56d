-- The faults of phases, by the parts of which they are worked out.
use Rattle.std.proofs.Common.{◌≡◌, ◌∙◌, sym, ap, ap₂, ℕ, List, [], ◌++◌, Option, Some, None, flat_map, map}
use Rattle.osc_base.specs.declared.fault.Fault.{Fault}
use Rattle.osc_base.specs.FaultRows.{first_from}
use Rattle.dsl_tree.specs.declared.phases.CompNode.{CompNode}
use Rattle.dsl_tree.specs.declared.phases.InvokeNode.{InvokeNode}
use Rattle.dsl_tree.specs.declared.phases.WaitNode.{WaitNode}
use Rattle.dsl_tree.specs.declared.phases.Phase.{Phase}
use Rattle.dsl_tree.specs.declared.phases.Phase.TheViews
use Rattle.dsl_tree.specs.PhaseTree.{ArgumentTree, PhaseTree}
use Rattle.dsl_tree.specs.Views.{argument_tree, expr_tree, part_tree, phase_tree}
use Rattle.dsl_tree.proofs.SeenPhases.{seen_comp, seen_invoke, seen_wait}
use Rattle.expr_nodes.specs.type_heads.Members.{fields}
use Rattle.expr_nodes.specs.type_heads.Table.{Table}
use Rattle.expr_nodes.specs.type_heads.Types.{Field, Types}
use Rattle.expr_nodes.specs.Fits.{duration_fit_rows}
use Rattle.expr_nodes.specs.Scope.{Scope}
use Rattle.expr_nodes.specs.Typing.{typed, expr_rows, first}
use Rattle.program_calls.specs.composition.Calls.{Turn, callee, invoked, scope_at}
use Rattle.program_calls.specs.composition.Uses.{call_rows, callee_rows, composition_rows, it_made, part_rows, phase_rows}
use Rattle.program_calls.specs.SeenCallees.{called_in}
use Rattle.program_uses.specs.ArgumentRows.{arguments_in}
use Rattle.program_uses.specs.PhaseRows.{phase_in}
use Rattle.program_uses.specs.TableTypes.{of_table}
use Rattle.program_uses.proofs.RowSteps.{three}
use Rattle.program_uses.proofs.UseLaws.{arguments_law, called_law, callee_law, parts_law, phase_law}

-- the arguments of an invocation, and of one that isn't resolved
pub given_law : (ts : Types) (table : Table) (sc : Scope) (before : Option Fault) (of : ℕ) (fs : List Field) (args : List ArgumentTree) → table ≡ ts.table → fs ≡ fields ts of →
    first_from before (arguments_in table sc fs [] 0 args) ≡ first_from before (call_rows ts sc (Some of) args)
given_law ts table sc before of fs args same told =
    ap₂ (λ t xs. first_from before (arguments_in t sc xs [] 0 args)) same told ∙ ap (first_from before) (sym (arguments_law ts sc of [] 0 args))

pub unresolved_law : (ts : Types) (table : Table) (sc : Scope) (before : Option Fault) (args : List ArgumentTree) → table ≡ ts.table →
    first_from before (flat_map (λ (a : ArgumentTree). expr_rows table sc a.value) args) ≡ first_from before (call_rows ts sc None args)
unresolved_law ts table sc before args same = ap (λ t. first_from before (flat_map (λ (a : ArgumentTree). expr_rows t sc a.value) args)) same

-- a composition, and a `wait`
pub composed_law : (ts : Types) (table : Table) (sc : Scope) (before : Option Fault) (c : CompNode) → table ≡ ts.table →
    first_from before (composition_rows table sc c.kind [] (map argument_tree c.arguments)) ≡ first_from before (phase_in ts sc (phase_tree (TheViews.Comp c)))
composed_law ts table sc before c same =
    ap (λ t. first_from before (composition_rows t sc c.kind [] (map argument_tree c.arguments))) same ∙ ap (λ p. first_from before (phase_in ts sc p)) (sym (seen_comp c))

pub waited_law : (ts : Types) (table : Table) (sc : Scope) (before : Option Fault) (w : WaitNode) → table ≡ ts.table →
    first_from before (duration_fit_rows (first (expr_tree w.elapsed)) (typed table sc (expr_tree w.elapsed)) ++ expr_rows table sc (expr_tree w.elapsed)) ≡ first_from before (phase_in ts sc (phase_tree (Phase.Wait w)))
waited_law ts table sc before w same =
    ap (λ t. first_from before (duration_fit_rows (first (expr_tree w.elapsed)) (typed t sc (expr_tree w.elapsed)) ++ expr_rows t sc (expr_tree w.elapsed))) same
    ∙ ap (λ p. first_from before (phase_in ts sc p)) (sym (seen_wait w))

-- an invocation
pub invocation_law : (ts : Types) (table : Table) (library : Option ℕ) (sc : Scope) (i : InvokeNode) (of : Option ℕ) (before called given last : Option Fault) →
    table ≡ ts.table → library ≡ ts.library → of ≡ called_in table sc.holder (callee i.head i.names) →
    called ≡ first_from before (callee_rows (of_table None table) sc (callee i.head i.names)) →
    given ≡ first_from called (call_rows ts sc of (map argument_tree i.arguments)) →
    last ≡ first_from given (flat_map (part_rows (of_table library table) (record sc { it = Some (it_made of) }) of) (map part_tree i.parts)) →
    last ≡ first_from before (phase_in ts sc (phase_tree (Phase.Invoke i)))
invocation_law ts table library sc i of before called given last same told is one two rest =
    let found = invoked ts sc.holder i.head i.names in
    let of' : of ≡ found = is ∙ ap (λ t. called_in t sc.holder (callee i.head i.names)) same ∙ sym (called_law ts sc.holder (callee i.head i.names)) in
    three (callee_rows ts sc (callee i.head i.names)) (call_rows ts sc found (map argument_tree i.arguments))
    (flat_map (part_rows ts (record sc { it = Some (it_made found) }) found) (map part_tree i.parts)) before called given last
    (one ∙ ap (λ t. first_from before (callee_rows (of_table None t) sc (callee i.head i.names))) same ∙ ap (first_from before) (sym (callee_law ts sc (callee i.head i.names))))
    (two ∙ ap (λ o. first_from called (call_rows ts sc o (map argument_tree i.arguments))) of')
    (rest ∙ ap₂ (λ t l. first_from given (flat_map (part_rows (of_table l t) (record sc { it = Some (it_made of) }) of) (map part_tree i.parts))) same told
    ∙ ap (λ o. first_from given (flat_map (part_rows (of_table ts.library ts.table) (record sc { it = Some (it_made o) }) o) (map part_tree i.parts))) of'
    ∙ ap (first_from given) (sym (parts_law ts (record sc { it = Some (it_made found) }) found (map part_tree i.parts))))
    ∙ ap (λ p. first_from before (phase_in ts sc p)) (sym (seen_invoke i))

-- a phase in the scope of its place
pub placed_law : (ts : Types) (before : Option Fault) (t : ℕ) (way way' : List Turn) (sc : Scope) (p : PhaseTree) → way ≡ way' → sc ≡ scope_at ts t None way →
    first_from before (phase_in ts sc p) ≡ first_from before (phase_rows ts t way' p)
placed_law ts before t way way' sc p same is =
    ap (λ s. first_from before (phase_in ts s p)) (is ∙ ap (scope_at ts t None) same) ∙ ap (first_from before) (sym (phase_law ts t way' p))

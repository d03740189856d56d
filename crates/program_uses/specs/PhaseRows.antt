-- The faults of a phase, given the scope of its expressions.
use Rattle.std.specs.Prelude.{ℕ, Some, List, [], ◌++◌, flat_map}
use Rattle.osc_base.specs.FaultRows.{FaultRow}
use Rattle.dsl_tree.specs.PhaseTree.{PhaseTree, Comp, Invoke, Wait}
use Rattle.expr_nodes.specs.type_heads.Types.{Types}
use Rattle.expr_nodes.specs.Fits.{duration_fit_rows}
use Rattle.expr_nodes.specs.Scope.{Scope}
use Rattle.expr_nodes.specs.Typing.{typed, expr_rows, first}
use Rattle.program_calls.specs.composition.Calls.{PhaseHere, callee, invoked}
use Rattle.program_calls.specs.composition.Uses.{call_rows, callee_rows, composition_rows, it_made, part_rows, phase_rows}

-- a phase without the phases in it; in its `with:`, `it` is the object that it makes
abbrev pub phase_in : Types → Scope → PhaseTree → List FaultRow
phase_in ts sc (Comp label place comp arguments members) = composition_rows ts.table sc comp [] arguments
phase_in ts sc (Wait label place elapsed) = duration_fit_rows (first elapsed) (typed ts.table sc elapsed) ++ expr_rows ts.table sc elapsed
phase_in ts sc (Invoke label head names arguments parts) =
    let of = invoked ts sc.holder head names in
    callee_rows ts sc (callee head names) ++ call_rows ts sc of arguments ++ flat_map (part_rows ts (record sc { it = Some (it_made of) }) of) parts

-- a phase in the text of type t, where it stands
abbrev pub placed_rows : Types → ℕ → PhaseHere → List FaultRow
placed_rows ts t p = phase_rows ts t p.way p.phase

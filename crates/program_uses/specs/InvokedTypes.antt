-- The actions and scenarios that the `do` of each type invokes, by what expressions look up.
use Rattle.std.specs.Prelude.{◌≡◌, ℕ, List, [], Option, Some, None, filter_map, slice_index_or}
use Rattle.dsl_tree.specs.PhaseTree.{PhaseTree, Comp, Invoke, Wait}
use Rattle.expr_nodes.specs.type_heads.Table.{Table}
use Rattle.expr_nodes.specs.type_heads.Types.{Do, Types}
use Rattle.program_calls.specs.composition.Calls.{PhaseHere, callee, phases_in}
use Rattle.program_calls.specs.composition.Uses.{invocations}
use Rattle.program_calls.specs.SeenCallees.{called_in}
use Rattle.program_uses.specs.declared.invocations.Invoked.{Invoked}

-- what a phase in the text of type t invokes
abbrev pub invoked_at : Table → ℕ → PhaseTree → Option ℕ
invoked_at table t (Comp label place kind arguments members) = None
invoked_at table t (Invoke label head names arguments parts) = called_in table t (callee head names)
invoked_at table t (Wait label place elapsed) = None

-- what some phases in the text of type t invoke
abbrev pub invoked_in : Table → ℕ → List PhaseHere → List ℕ
invoked_in table t phases = filter_map (λ (p : PhaseHere). invoked_at table t p.phase) phases

-- what a `do` invokes
abbrev pub invoked_do : Table → Option Do → List ℕ
invoked_do table None = []
invoked_do table (Some d) = invoked_in table d.holder (phases_in d.phase)

-- what type t invokes, as it is kept
abbrev pub row_of : Invoked → ℕ → List ℕ
row_of i t = slice_index_or i.rows.items t []

-- what is kept is what each type invokes
abbrev pub AreInvoked : Types → Invoked → Type 0
AreInvoked ts i = (t : ℕ) → row_of i t ≡ invocations ts t

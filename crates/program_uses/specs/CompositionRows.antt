-- The faults of the arguments of a composition, one at a time.
use Rattle.std.specs.Prelude.{◌≡◌, ◌&&◌, ℕ, true, Option, List, [], ◌∷◌, ◌++◌, bytes_eq, codes, cond}
use Rattle.std.specs.Option.{option_map_or}
use Rattle.osc_base.specs.declared.fault.Fault.{Fault}
use Rattle.osc_base.specs.declared.fault.FaultCode.{FaultCode}
use Rattle.osc_base.specs.FaultRows.{FaultRow, row, first_from}
use Rattle.dsl_tree.specs.declared.parts.Ident.{Ident}
use Rattle.dsl_tree.specs.declared.phases.CompKind.{CompKind}
use Rattle.dsl_tree.specs.ExprTree.{ExprTree}
use Rattle.dsl_tree.specs.PhaseTree.{ArgumentTree}
use Rattle.fault_sets.specs.NameRows.{HasTexts}
use Rattle.expr_nodes.specs.type_heads.Table.{Table}
use Rattle.expr_nodes.specs.Fits.{duration_fit_rows}
use Rattle.expr_nodes.specs.Names.{is_duration}
use Rattle.expr_nodes.specs.Scope.{Scope}
use Rattle.expr_nodes.specs.Typing.{typed, expr_rows, first}
use Rattle.program_calls.specs.composition.Uses.{is_overlap, named_rows, takes_overlap}

-- the words after `overlap:`
abbrev pub overlap_words : List (List ℕ)
overlap_words = codes "start" ∷ codes "end" ∷ codes "equal" ∷ codes "any" ∷ []

-- an argument with another name than `duration`
abbrev pub other_rows : Table → Scope → CompKind → Ident → ExprTree → List FaultRow
other_rows table sc comp i value =
    cond (bytes_eq i.text (codes "overlap") && (takes_overlap comp && is_overlap value)) [] (row i.place FaultCode.BadArgument true ∷ expr_rows table sc value)

-- the value of an argument with a name
abbrev pub valued_rows : Table → Scope → CompKind → Ident → ExprTree → List FaultRow
valued_rows table sc comp i value = cond (is_duration i.text) (duration_fit_rows (first value) (typed table sc value) ++ expr_rows table sc value) (other_rows table sc comp i value)

-- an argument
abbrev pub composed_rows : Table → Scope → CompKind → List (List ℕ) → ArgumentTree → List FaultRow
composed_rows table sc comp earlier a =
    option_map_or (λ (i : Ident). named_rows table sc comp earlier i a.value) a.name (row (first a.value) FaultCode.BadArgument true ∷ expr_rows table sc a.value)

-- the name of an argument, if it has one
abbrev pub name_given : ArgumentTree → List (List ℕ)
name_given a = option_map_or (λ (i : Ident). i.text ∷ []) a.name []

-- after an argument with a name a set has its name too
abbrev pub ContinuesNamed : Table → Scope → CompKind → Option Fault → List (List ℕ) → Option Fault → List (List ℕ) → Ident → ExprTree → Type 0
ContinuesNamed table sc comp first old found new i value =
    (earlier : List (List ℕ)) → HasTexts old earlier → HasTexts new (i.text ∷ earlier) × (found ≡ first_from first (named_rows table sc comp earlier i value))

-- after an argument a set has its name too
abbrev pub ContinuesComposition : Table → Scope → CompKind → Option Fault → List (List ℕ) → Option Fault → List (List ℕ) → ArgumentTree → Type 0
ContinuesComposition table sc comp first old found new a =
    (earlier : List (List ℕ)) → HasTexts old earlier → HasTexts new (name_given a ++ earlier) × (found ≡ first_from first (composed_rows table sc comp earlier a))

-- The constraints of phases, at their homes.
use Rattle.std.specs.Prelude.{ℕ, ◌+◌, Bool, true, false, List, [], ◌∷◌, ◌++◌, Option, Some, None, cond, find, flat_map, is_some, map, option_map, option_to_list, slice_get}
use Rattle.std.specs.Option.{option_map_or}
use Rattle.osc_base.specs.declared.path.Path.{Path}
use Rattle.osc_base.specs.declared.mark.Strength.{Strength}
use Rattle.osc_base.specs.Paths.{then_duration}
use Rattle.dsl_tree.specs.declared.parts.Ident.{Ident}
use Rattle.dsl_tree.specs.ExprTree.{ExprTree}
use Rattle.dsl_tree.specs.PhaseTree.{ArgumentTree, PartTree}
use Rattle.expr_nodes.specs.type_heads.Table.{Table}
use Rattle.expr_nodes.specs.type_heads.Types.{Field, Types}
use Rattle.expr_nodes.specs.type_heads.Members.{fields}
use Rattle.expr_nodes.specs.Names.{duration_at, is_duration}
use Rattle.expr_nodes.specs.Scope.{It, Scope}
use Rattle.expr_nodes.specs.Typed.{Span, Typed, moved}
use Rattle.expr_nodes.specs.Typing.{first, typed}
use Rattle.text_constraints.specs.composition.Calls.{scope_at}
use Rattle.text_constraints.specs.composition.Expansion.{Calling}
use Rattle.text_constraints.specs.composition.Givens.{read_at, required}
use Rattle.text_constraints.specs.composition.Homes.{home}
use Rattle.text_constraints.specs.composition.Scenes.{Binding, Occurrence}
use Rattle.text_constraints.specs.program_fields.SeenFields.{has_name}
use Rattle.text_constraints.specs.Kept.{Holder, constraint, rule_kept}
use Rattle.text_constraints.specs.Sites.{Site, at_home, typed_home}

-- where the texts of a phase stand
abbrev pub call_site : List Binding → Calling → Scope → Site
call_site bindings call sc = record { object = call.object; it = call.path; scope = sc; bindings = bindings }

-- the same with another `it`
abbrev pub with_it : Site → Option It → Site
with_it s it = record s { scope = record s.scope { it = it } }

-- a phase, with no conditions of its own
abbrev pub phase_holder : Path → Holder
phase_holder path = record { holder = path; under = [] }

-- ---- what is required

-- the expression is a range
abbrev pub is_span : Typed → Bool
is_span (Span i low high) = true
is_span _ = false

-- a constraint on what is read
abbrev pub required_kept : Table → Site → Holder → Typed → ExprTree → Occurrence
required_kept table s h left value = constraint h (first value) Strength.Hard (read_at left) (option_map (required (first value) left) (typed_home table s value))

-- a duration that is read at its home
abbrev pub duration_home : Site → Holder → ExprTree → Typed
duration_home s h value = duration_at (first value) (home s.bindings (then_duration h.holder))

-- a stated duration
abbrev pub duration_kept : Table → Site → Holder → ExprTree → Occurrence
duration_kept table s h value = required_kept table s h (duration_home s h value) value

-- an expression that is one read
abbrev pub one_read : Option Typed → Option Typed
one_read t = find (λ l. is_some (read_at l)) (option_to_list t)

-- an argument for a parameter of that name; one for an object is no value
abbrev pub parameter_kept : Table → Site → Holder → ExprTree → Ident → List Occurrence
parameter_kept table s h value name =
    map (λ p. required_kept table s h (moved (at_home s) p) value) (option_to_list (one_read (typed table s.scope (ExprTree.Dot (ExprTree.It (first value)) name))))

-- ---- arguments

-- the argument is for the duration
abbrev pub for_duration : Option Ident → Bool
for_duration name = option_map_or (λ (i : Ident). is_duration i.text) name false

-- the field to which an argument at place n goes, unless it is for the duration
abbrev pub argument_field : List Field → ℕ → Option Ident → Option Field
argument_field fields n None = slice_get fields n
argument_field fields n (Some name) = find (has_name name.text) fields

-- what an argument for a field gives
abbrev pub field_argument : Table → Site → Holder → ℕ → ExprTree → Field → List Occurrence
field_argument table s h of value f = parameter_kept table (with_it s (Some (It.Of of None))) h value f.name

-- what an argument of an invocation of type `of` gives
abbrev pub argument_kept : Table → Site → Holder → ℕ → List Field → ℕ → ArgumentTree → List Occurrence
argument_kept table s h of fields n a =
    cond (for_duration a.name) (duration_kept table (with_it s None) h a.value ∷ [])
    (flat_map (field_argument table s h of a.value) (option_to_list (argument_field fields n a.name)))

-- what arguments give, the first of which stands at place n
abbrev pub arguments_kept : Table → Site → Holder → ℕ → List Field → ℕ → List ArgumentTree → List Occurrence
arguments_kept table s h of fields n [] = []
arguments_kept table s h of fields n (a ∷ others) = argument_kept table s h of fields n a ++ arguments_kept table s h of fields (n + 1) others

-- what a part of a `with:` gives
abbrev pub part_kept : Table → Site → Holder → PartTree → List Occurrence
part_kept table s h (PartTree.RulePart r) = rule_kept table s h r ∷ []
part_kept table s h (PartTree.ModifierPart m) = []

-- what an invocation gives
abbrev pub invocation_kept : Table → Site → Holder → ℕ → List Field → List ArgumentTree → List PartTree → List Occurrence
invocation_kept table s h of fields arguments parts =
    arguments_kept table s h of fields 0 arguments ++ flat_map (part_kept table (with_it s (Some (It.Of of None))) h) parts

-- what an invocation of type `of` in a call gives
abbrev pub invoke_kept : Types → List Binding → Calling → ℕ → List ArgumentTree → List PartTree → List Occurrence
invoke_kept ts bindings call of arguments parts =
    invocation_kept ts.table (call_site bindings call (scope_at ts call.holder None call.way)) (phase_holder call.path) of (fields ts of) arguments parts

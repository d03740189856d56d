-- The rows of uses look at the table of types, at the library, and at the fields of what is invoked.
use Rattle.std.proofs.Common.{◌≡◌, ◌∙◌, refl, ap, ap₂, ℕ, ◌+◌, List, [], ◌∷◌, ◌++◌, Option, Some, None, flat_map}
use Rattle.dsl_tree.specs.declared.parts.Ident.{Ident}
use Rattle.dsl_tree.specs.FileTree.{FieldTree}
use Rattle.dsl_tree.specs.PhaseTree.{ArgumentTree, PartTree, PhaseTree, Comp, Invoke, Wait}
use Rattle.expr_nodes.specs.type_heads.Members.{fields}
use Rattle.expr_nodes.specs.type_heads.Types.{Types}
use Rattle.expr_nodes.specs.Scope.{Scope}
use Rattle.expr_nodes.specs.Typing.{expr_rows}
use Rattle.program_calls.specs.composition.Calls.{Assigned, Callee, Turn, assigned, called, scope_at}
use Rattle.program_calls.specs.composition.Uses.{arguments_rows, assigned_rows, callee_rows, field_use_rows, name_assigned, part_rows, phase_rows}
use Rattle.program_calls.specs.SeenCallees.{called_in}
use Rattle.program_uses.specs.ArgumentRows.{arguments_in, assigned_in}
use Rattle.program_uses.specs.FieldRows.{field_in}
use Rattle.program_uses.specs.PhaseRows.{phase_in}
use Rattle.program_uses.specs.TableTypes.{of_table}

pub field_law : (ts : Types) (t : ℕ) (f : FieldTree) → field_use_rows ts t f ≡ field_in ts.table (scope_at ts t None []) f
field_law ts t f = refl

-- arguments
goes : (ts : Types) (t n : ℕ) (name : Option Ident) → assigned ts t n name ≡ assigned_in (fields ts t) n name
goes ts t n None = refl
goes ts t n (Some name) = refl

same_rows : (ts : Types) (sc : Scope) (earlier : List (List ℕ)) (a : ArgumentTree) (to : Assigned) → assigned_rows ts sc earlier a to ≡ assigned_rows (of_table None ts.table) sc earlier a to
same_rows ts sc earlier a Assigned.Surplus = refl
same_rows ts sc earlier a Assigned.Duration = refl
same_rows ts sc earlier a (Assigned.Unknown name) = refl
same_rows ts sc earlier a (Assigned.Given f) = refl

pub arguments_law : (ts : Types) (sc : Scope) (t : ℕ) (earlier : List (List ℕ)) (n : ℕ) (args : List ArgumentTree) → arguments_rows ts sc t earlier n args ≡ arguments_in ts.table sc (fields ts t) earlier n args
arguments_law ts sc t earlier n [] = refl
arguments_law ts sc t earlier n (a ∷ others) =
    let to = assigned ts t n a.name in
    ap₂ (λ xs ys. expr_rows ts.table sc a.value ++ xs ++ ys) (same_rows ts sc earlier a to) (arguments_law ts sc t (name_assigned to ++ earlier) (n + 1) others)
    ∙ ap (λ g. expr_rows ts.table sc a.value ++ assigned_rows (of_table None ts.table) sc earlier a g ++ arguments_in ts.table sc (fields ts t) (name_assigned g ++ earlier) (n + 1) others) (goes ts t n a.name)

-- the `with:` of an invocation
pub part_law : (ts : Types) (sc : Scope) (of : Option ℕ) (p : PartTree) → part_rows ts sc of p ≡ part_rows (of_table ts.library ts.table) sc of p
part_law ts sc of (PartTree.RulePart rule) = refl
part_law ts sc of (PartTree.ModifierPart modifier) = refl

pub parts_law : (ts : Types) (sc : Scope) (of : Option ℕ) (ps : List PartTree) → flat_map (part_rows ts sc of) ps ≡ flat_map (part_rows (of_table ts.library ts.table) sc of) ps
parts_law ts sc of [] = refl
parts_law ts sc of (p ∷ ps) = ap₂ (λ xs ys. xs ++ ys) (part_law ts sc of p) (parts_law ts sc of ps)

-- what is called
pub callee_law : (ts : Types) (sc : Scope) (c : Callee) → callee_rows ts sc c ≡ callee_rows (of_table None ts.table) sc c
callee_law ts sc (Callee.Alone name) = refl
callee_law ts sc (Callee.Owned actor name) = refl
callee_law ts sc (Callee.NoName place) = refl

pub called_law : (ts : Types) (t : ℕ) (c : Callee) → called ts t c ≡ called_in ts.table t c
called_law ts t (Callee.Alone name) = refl
called_law ts t (Callee.Owned actor name) = refl
called_law ts t (Callee.NoName place) = refl

-- a phase in its scope
pub phase_law : (ts : Types) (t : ℕ) (way : List Turn) (p : PhaseTree) → phase_rows ts t way p ≡ phase_in ts (scope_at ts t None way) p
phase_law ts t way (Comp label place comp arguments members) = refl
phase_law ts t way (Invoke label head names arguments parts) = refl
phase_law ts t way (Wait label place elapsed) = refl

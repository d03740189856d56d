-- The expressions among the arguments of a modifier.
use Rattle.std.proofs.Common.{◌≡◌, ◌∙◌, refl, sym, ap, List, [], ◌∷◌, ◌++◌, flat_map}
use Rattle.std.proofs.lemmas.Grind.{flat_map-append}
use Rattle.dsl_tree.specs.PhaseTree.{ArgumentTree}
use Rattle.expr_nodes.specs.type_heads.Table.{Table}
use Rattle.expr_nodes.specs.Scope.{Scope}
use Rattle.expr_nodes.specs.Typing.{expr_rows}
use Rattle.program_calls.specs.composition.Uses.{compared_exprs}
use Rattle.program_uses.specs.ModifierRows.{compared_rows}

pub compared_law : (table : Table) (sc : Scope) (args : List ArgumentTree) → flat_map (compared_rows table sc) args ≡ flat_map (expr_rows table sc) (flat_map compared_exprs args)
compared_law table sc [] = refl
compared_law table sc (a ∷ args) =
    ap (λ rs. compared_rows table sc a ++ rs) (compared_law table sc args) ∙ sym (flat_map-append (expr_rows table sc) (compared_exprs a) (flat_map compared_exprs args))

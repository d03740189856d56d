use Rattle.std.proofs.Common.{◌≡◌, map, drop}
use Rattle.std.specs.List.{list_any}
use Rattle.std.specs.Prelude.{not, ◌&&◌}
use Rattle.expr_nodes.specs.Kinds.{same_units}
use Rattle.expr_nodes.specs.Typed.{kind}
use Rattle.expr_nodes.specs.Parts.{both_numbers}
use Rattle.expr_nodes.specs.Seen.{seen}
use Rattle.expr_operators.proofs.within.is_any_apart.Given as goal

abbrev pub invariant-loop-item : goal.invariant-loop-item
invariant-loop-item l = list_any (λ z. both_numbers (seen l.left) z && not (same_units (kind (seen l.left)) (kind z))) (map seen l.items) ≡ list_any (λ z. both_numbers (seen l.left) z && not (same_units (kind (seen l.left)) (kind z))) (map seen (drop l.item-index l.items))

use Rattle.std.proofs.Common.{◌≡◌, map, drop}
use Rattle.std.specs.List.{list_any}
use Rattle.expr_nodes.specs.Sizes.{size, joined, is_wide}
use Rattle.expr_nodes.specs.Seen.{seen}
use Rattle.expr_operators.proofs.within.is_any_wide.Given as goal

abbrev pub invariant-loop-item : goal.invariant-loop-item
invariant-loop-item l = list_any (λ z. is_wide (joined (size (seen l.left)) (size z))) (map seen l.items) ≡ list_any (λ z. is_wide (joined (size (seen l.left)) (size z))) (map seen (drop l.item-index l.items))

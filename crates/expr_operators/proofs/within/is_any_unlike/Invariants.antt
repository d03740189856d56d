use Rattle.std.proofs.Common.{◌≡◌, map, drop}
use Rattle.std.specs.List.{list_any}
use Rattle.std.specs.Prelude.{not}
use Rattle.expr_nodes.specs.Kinds.{are_alike}
use Rattle.expr_nodes.specs.Typed.{kind}
use Rattle.expr_nodes.specs.Seen.{seen}
use Rattle.expr_operators.proofs.within.is_any_unlike.Given as goal

abbrev pub invariant-loop-item : goal.invariant-loop-item
invariant-loop-item l = list_any (λ y. not (are_alike (kind (seen l.left)) (kind y))) (map seen l.items) ≡ list_any (λ y. not (are_alike (kind (seen l.left)) (kind y))) (map seen (drop l.item-index l.items))

use Rattle.std.proofs.Common.{◌≡◌, ◌++◌, ◌-◌, map}
use Rattle.expr_nodes.specs.Typed.{Read, row_of, items_of}
use Rattle.expr_nodes.specs.Names.{elements_from}
use Rattle.expr_nodes.specs.Seen.{seen, seen_info}
use Rattle.expr_typing.proofs.held.elements.Given as goal

abbrev pub invariant-loop-number : goal.invariant-loop-number
invariant-loop-number l =
    row_of (map seen l.items ++ items_of (elements_from l.number (l.count - l.number) (λ p. Read (seen_info l.info) p l.per) l.path))
    ≡ elements_from 0 l.count (λ p. Read (seen_info l.info) p l.per) l.path

use Rattle.std.proofs.Common.{◌≡◌, map, take}
use Rattle.expr_nodes.specs.Seen.{seen, reached}
use Rattle.expr_nodes.proofs.node.+copies.Given as goal

abbrev pub invariant-copy_earlier-parts : goal.invariant-copy_earlier-parts
invariant-copy_earlier-parts l = map reached l.copies ≡ map reached (take l.earlier-index l.parts)

abbrev pub invariant-copy_items-items : goal.invariant-copy_items-items
invariant-copy_items-items l = map seen l.copies ≡ map seen (take l.item-index l.items)

use Rattle.std.proofs.Common.{map, drop, ◌+◌, ◌*◌}
use Rattle.std.specs.Prelude.{max}
use denote.Param.Weighed.{most}
use Rattle.expr_nodes.specs.declared.node.Typed.TheViews.{size-Typed, size-Earlier}
use Rattle.expr_nodes.specs.Seen.{seen, reached, grouped}
use Rattle.expr_value.proofs.RowSteps.{InRow, ItemsLeft}
use Rattle.expr_value.proofs.counts.+counts.Given as goal

abbrev pub invariant-count_of_row-parts : goal.invariant-count_of_row-parts
invariant-count_of_row-parts g l = InRow (g.R.Reading.told l.reading) l.join (grouped l.join (seen l.fn.first) (map reached l.earlier)) (map reached (drop l.next-index l.earlier)) l.row

abbrev pub invariant-is_item-items : goal.invariant-is_item-items
invariant-is_item-items g l = ItemsLeft (g.R.Reading.told l.reading) l.value (map seen l.items) (map seen (drop l.item-index l.items))

abbrev pub decreases-count_of : goal.decreases-count_of
decreases-count_of g l = 2 * size-Typed l.typed.now

abbrev pub decreases-count_of_row : goal.decreases-count_of_row
decreases-count_of_row g l = 2 * max (size-Typed l.first.now) (most size-Earlier l.earlier.now) + 1

abbrev pub decreases-is_in : goal.decreases-is_in
decreases-is_in g l = 2 * size-Typed l.right.now

abbrev pub decreases-is_item : goal.decreases-is_item
decreases-is_item g l = 2 * most size-Typed l.items.now + 1

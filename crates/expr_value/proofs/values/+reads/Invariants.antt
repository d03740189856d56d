use Rattle.std.proofs.Common.{◌≡◌, map, drop}
use Rattle.std.specs.Prelude.{is_some}
use Rattle.std.specs.List.{list_all}
use Rattle.expr_nodes.specs.Typed.{row_of, reads_of}
use Rattle.expr_nodes.specs.Seen.{Reached, seen, reached}
use Rattle.expr_value.specs.Held.{are_held}
use Rattle.expr_value.proofs.values.+reads.Given as goal

abbrev pub invariant-items_are_held-items : goal.invariant-items_are_held-items
invariant-items_are_held-items g l = list_all (λ p. is_some (g.R.Reading.told l.reading p)) (reads_of (row_of (map seen l.items))) ≡ list_all (λ p. is_some (g.R.Reading.told l.reading p)) (reads_of (row_of (map seen (drop l.item-index l.items))))

abbrev pub invariant-parts_are_held-parts : goal.invariant-parts_are_held-parts
invariant-parts_are_held-parts g l = list_all (λ (r : Reached). are_held (g.R.Reading.told l.reading) r.part) (map reached l.parts) ≡ list_all (λ (r : Reached). are_held (g.R.Reading.told l.reading) r.part) (map reached (drop l.earlier-index l.parts))

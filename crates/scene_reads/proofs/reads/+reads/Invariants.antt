use Rattle.std.proofs.Common.{◌≡◌, map, drop}
use Rattle.std.specs.List.{list_all}
use Rattle.expr_nodes.specs.Typed.{row_of}
use Rattle.expr_nodes.specs.Seen.{seen, reached}
use Rattle.scene_reads.specs.Readable.{has_row, has_part}
use Rattle.scene_reads.proofs.reads.+reads.Given as goal

abbrev pub invariant-has_items-items : goal.invariant-has_items-items
invariant-has_items-items l = has_row l.scene (row_of (map seen l.items)) ≡ has_row l.scene (row_of (map seen (drop l.item-index l.items)))

abbrev pub invariant-has_parts-parts : goal.invariant-has_parts-parts
invariant-has_parts-parts l = list_all (has_part l.scene) (map reached l.parts) ≡ list_all (has_part l.scene) (map reached (drop l.earlier-index l.parts))

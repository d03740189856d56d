use Rattle.std.proofs.Common.{◌≡◌, map, drop}
use Rattle.std.specs.List.{list_all}
use Rattle.expr_nodes.specs.Typed.{row_of}
use Rattle.expr_nodes.specs.Seen.{seen, reached}
use Rattle.expr_nodes.specs.NoReads.{constant_row, constant_part}
use Rattle.expr_operators.proofs.constants.+constants.Given as goal

abbrev pub invariant-are_constant-items : goal.invariant-are_constant-items
invariant-are_constant-items l = constant_row (row_of (map seen l.items)) ≡ constant_row (row_of (map seen (drop l.item-index l.items)))

abbrev pub invariant-parts_are_constant-parts : goal.invariant-parts_are_constant-parts
invariant-parts_are_constant-parts l = list_all constant_part (map reached l.parts) ≡ list_all constant_part (map reached (drop l.earlier-index l.parts))

use Rattle.std.proofs.Common.{◌≡◌, take, map}
use Rattle.dsl_tree.specs.Views.{part_tree}
use Rattle.work_counts.specs.Amounts.{kept, sum_of}
use Rattle.work_parts.specs.Parts.{part_amount}
use Rattle.work_parts.proofs.phases.parts_tally.Given as goal

abbrev pub invariant-loop-part : goal.invariant-loop-part
invariant-loop-part l = l.all ≡ kept (sum_of (part_amount l.ticks) (map part_tree (take l.part-index l.parts)))

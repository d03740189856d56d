use Rattle.std.proofs.Common.{◌≡◌, drop, map}
use Rattle.dsl_tree.specs.Views.{argument_tree}
use Rattle.work_parts.specs.Arguments.{duration_amount}
use Rattle.work_parts.proofs.arguments.duration_tally.Given as goal

abbrev pub invariant-loop-argument : goal.invariant-loop-argument
invariant-loop-argument l = duration_amount (map argument_tree (drop l.argument-index l.arguments)) ≡ duration_amount (map argument_tree l.arguments)

use Rattle.std.proofs.Common.{◌≡◌, drop, find, map}
use Rattle.dsl_tree.specs.Views.{argument_tree}
use Rattle.program_calls.specs.Named.{has_name}
use Rattle.program_calls.proofs.arguments.argument_named.Given as goal

abbrev pub invariant-loop-argument : goal.invariant-loop-argument
invariant-loop-argument l = find (has_name l.name) (map argument_tree (drop l.argument-index l.arguments)) ≡ find (has_name l.name) (map argument_tree l.arguments)

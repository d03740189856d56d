use Rattle.std.proofs.Common.{◌≡◌, ◌++◌, drop}
use Rattle.object_works.proofs.fields.push_guards.Given as goal

abbrev pub invariant-loop-guard : goal.invariant-loop-guard
invariant-loop-guard l = l.guards ++ drop l.guard-index l.more ≡ l.fn.guards ++ l.more

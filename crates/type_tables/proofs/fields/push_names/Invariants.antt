use Rattle.std.proofs.Common.{◌≡◌, ◌++◌, drop}
use Rattle.type_tables.specs.Entries.{entries}
use Rattle.type_tables.proofs.fields.push_names.Given as goal

abbrev pub invariant-loop-name : goal.invariant-loop-name
invariant-loop-name l = l.into.items ++ entries l.of l.length (drop l.name-index l.names) ≡ l.fn.into.items ++ entries l.of l.length l.names

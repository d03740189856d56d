use Rattle.std.proofs.Common.{◌≡◌, ◌++◌, map, drop}
use Rattle.std.specs.Prelude.{flat_map}
use Rattle.type_heads.specs.Bodied.{members_placed, seen_written}
use Rattle.type_heads.proofs.body.more_members.Given as goal

abbrev pub invariant-loop-placed : goal.invariant-loop-placed
invariant-loop-placed l = map seen_written l.written.items ++ flat_map members_placed (drop l.placed-index l.extensions) ≡ flat_map members_placed l.extensions

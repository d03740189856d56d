use Rattle.std.proofs.Common.{◌≡◌, ◌++◌, map}
use Rattle.type_heads.specs.Placing.{placed_after, seen_placed}
use Rattle.type_heads.proofs.placed.placed_decls.Given as goal

abbrev pub invariant-loop-number : goal.invariant-loop-number
invariant-loop-number l = map seen_placed l.all.items ++ placed_after l.number l.program ≡ placed_after 0 l.program

use Rattle.std.proofs.Common.{◌≡◌, ◌++◌, drop, map}
use Rattle.std.specs.Prelude.{flat_map}
use Rattle.string_texts.specs.Ordered.{placed_texts}
use Rattle.string_texts.proofs.program.found.Given as goal

abbrev pub invariant-loop-declaration : goal.invariant-loop-declaration
invariant-loop-declaration l = map (λ t. t.now) l.texts.items ++ flat_map placed_texts (drop l.declaration-index l.placed) ≡ flat_map placed_texts l.placed

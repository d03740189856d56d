use Rattle.std.proofs.Common.{◌≡◌, ◌++◌, map, drop, filter_map}
use Rattle.type_heads.specs.DeclaredTypes.{Placed, type_declared}
use Rattle.type_heads.specs.Placing.{seen_placed, seen_type}
use Rattle.type_heads.proofs.own_type.push_declared.Given as goal

abbrev pub invariant-loop-declaration : goal.invariant-loop-declaration
invariant-loop-declaration l =
    map seen_type l.all.items ++ filter_map (λ (d : Placed). type_declared d.file d.index d.declaration) (map seen_placed (drop l.declaration-index l.placed))
    ≡ map seen_type l.fn.all.items ++ filter_map (λ (d : Placed). type_declared d.file d.index d.declaration) (map seen_placed l.placed)

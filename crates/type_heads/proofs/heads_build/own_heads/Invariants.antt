use Rattle.std.proofs.Common.{◌≡◌, ◌++◌, map, drop, length}
use Rattle.type_heads.specs.Placing.{seen_type}
use Rattle.type_heads.specs.Gathered.{heads_of}
use Rattle.type_heads.specs.HeadsGrouped.{heads_grouped}
use Rattle.type_heads.proofs.heads_build.own_heads.Given as goal

abbrev pub invariant-loop-own : goal.invariant-loop-own
invariant-loop-own l = record {
  count : l.number ≡ l.own-index;
  size : length l.heads.items ≡ l.own-index;
  rest : l.heads.items ++ heads_grouped (heads_of l.declarations) l.declarations.added.items l.number (map seen_type (drop l.own-index l.declarations.types.items))
      ≡ heads_grouped (heads_of l.declarations) l.declarations.added.items 0 (map seen_type l.declarations.types.items);
}

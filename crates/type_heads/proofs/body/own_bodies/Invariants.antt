use Rattle.std.proofs.Common.{◌≡◌, ◌++◌, map, drop}
use Rattle.type_heads.specs.Placing.{seen_type}
use Rattle.type_heads.specs.Bodied.{bodies_grouped, seen_body}
use Rattle.type_heads.proofs.body.own_bodies.Given as goal

abbrev pub invariant-loop-own : goal.invariant-loop-own
invariant-loop-own l = record {
  count : l.number ≡ l.own-index;
  rest : map seen_body l.bodies.items ++ bodies_grouped l.declarations.added.items l.number (map seen_type (drop l.own-index l.declarations.types.items))
      ≡ bodies_grouped l.declarations.added.items 0 (map seen_type l.declarations.types.items);
}

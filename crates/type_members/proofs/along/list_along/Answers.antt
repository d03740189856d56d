use Rattle.std.proofs.Common.{◌-◌, arith, map, refl, take}
use Rattle.type_heads.specs.Bodied.{seen_body}
use Rattle.type_members.specs.Listed.{seen_listed}
use Rattle.type_members.proofs.Tasks.{along_more}
use Rattle.type_members.proofs.along.list_along.Goals as goal

pub loop-left-preserved : goal.loop-left-preserved
loop-left-preserved c = record {
  within = omega (arith, c.loop-left.invariant.within);
  rest = along_more c.args.steps (map seen_body c.args.bodies.now) c.args.subtypes.now c.args.line.now c.args.way.now (take (c.loop-left.left - 1) c.args.way.now)
      c.loop-left.left c.index-way-left.result (map seen_listed c.loop-left.members.items) (map seen_listed c.list.new.into.items)
      c.loop-left-test.true c.loop-left.invariant.within c.index-way-left.is refl c.loop-left.invariant.rest c.in_ok-list.ensures;
}

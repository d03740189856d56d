use Rattle.std.proofs.Common.{arith}
use Rattle.type_members.specs.Listing.{deeper, listed_within, pending, way_of}
use Rattle.type_members.proofs.Tasks.{one_more}
use Rattle.type_members.proofs.listing.Descent.push_subtypes.Goals as goal

pub loop-left-preserved : goal.loop-left-preserved
loop-left-preserved c = record {
  within = omega (arith, c.loop-left.invariant.within);
  rest = one_more (way_of c.args.self.now) (λ x. listed_within c.args.steps (way_of c.args.self.now) (deeper (way_of c.args.self.now) c.args.under.now x) x)
      c.args.subtypes.now c.loop-left.left c.index-subtypes-left.result (pending (way_of c.args.self.now) c.args.tasks.now.items)
      (pending (way_of c.args.self.now) c.loop-left.tasks.items) (pending (way_of c.args.self.now) c.push_subtype.new.tasks.items)
      c.loop-left-test.true c.loop-left.invariant.within c.index-subtypes-left.is c.loop-left.invariant.rest c.in_ok-push_subtype.ensures;
}

use Rattle.std.proofs.Common.{◌+◌, ap, map}
use Rattle.type_members.specs.Listed.{seen_listed}
use Rattle.program_fields.specs.Parts.{all_ends, spots_from}
use Rattle.program_fields.proofs.SpotSteps.{ends_more, spots_more}
use Rattle.program_fields.proofs.spots.ended_spots.Goals as goal

pub loop-listed-preserved : goal.loop-listed-preserved
loop-listed-preserved c = record {
  count = ap (λ n. n + 1) c.loop-listed.invariant.count;
  spots = spots_more c.args.members.now c.loop-listed.listed-index c.listed-item.result c.loop-listed.number c.loop-listed.fields.spots.items c.push.new.self.spots.items
      (spots_from 0 (map seen_listed c.args.members.now)) c.loop-listed-test.true c.listed-item.is c.loop-listed.invariant.spots c.in_ok-push.ensures.spots;
  ends = ends_more c.args.members.now c.loop-listed.listed-index c.listed-item.result c.loop-listed.number c.loop-listed.fields.spots.items c.push.new.self.spots.items
      c.loop-listed.fields.ends.items c.push.new.self.ends.items (all_ends (map seen_listed c.args.members.now))
      c.loop-listed-test.true c.listed-item.is c.loop-listed.invariant.ends c.in_ok-push.ensures.spots c.in_ok-push.ensures.ends;
}

use Rattle.std.proofs.Common.{◌+◌, ap, map}
use Rattle.type_members.specs.Listed.{seen_listed}
use Rattle.program_fields.specs.Parts.{dos_from}
use Rattle.program_fields.proofs.SpotSteps.{dos_more}
use Rattle.program_fields.proofs.gathered.do_places.Goals as goal

pub loop-listed-preserved : goal.loop-listed-preserved
loop-listed-preserved c = record {
  count = ap (λ n. n + 1) c.loop-listed.invariant.count;
  dos = dos_more c.args.members.now c.loop-listed.listed-index c.listed-item.result c.loop-listed.place c.loop-listed.dos.items c.push_do.new.into.items
      (dos_from 0 (map seen_listed c.args.members.now)) c.loop-listed-test.true c.listed-item.is c.loop-listed.invariant.dos c.in_ok-push_do.ensures;
}

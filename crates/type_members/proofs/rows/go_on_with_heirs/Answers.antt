use Rattle.std.proofs.Common.{◌<◌, ◌∙◌, arith, length, map}
use Rattle.type_heads.specs.Bodied.{seen_body}
use Rattle.type_members.proofs.Ancestry.{end_more}
use Rattle.type_members.proofs.RowSteps.{went_on}
use Rattle.type_members.proofs.rows.go_on_with_heirs.Goals as goal

pub go_on-requires-clause-ended : goal.go_on-requires-clause-ended
go_on-requires-clause-ended c =
    let below : c.loop-last_depth.last_depth < length c.args.heads.now = omega (arith, c.loop-last_depth-test.true, c.count-most.ensures) in
    λ less. end_more c.args.heads.now c.loop-last_depth.last c.in-Some.heir c.loop-last_depth.last_depth c.in-Some.ensures.0 (c.loop-last_depth.invariant.ended below)

pub loop-last_depth-preserved : goal.loop-last_depth-preserved
loop-last_depth-preserved c =
    let below : c.loop-last_depth.last_depth < length c.args.heads.now = omega (arith, c.loop-last_depth-test.true, c.count-most.ensures) in
    record {
      whole = λ front whole.
          went_on c.args.heads.now (map seen_body c.args.bodies.now) front c.loop-last_depth.row c.go_on.new.row c.loop-last_depth.last c.loop-last_depth.last_depth c.in-Some.heir
          (c.loop-last_depth.invariant.whole front whole) below (c.loop-last_depth.invariant.ended below) c.in-Some.ensures.0 c.in-Some.ensures.1
          c.in_ok-go_on.ensures.members c.in_ok-go_on.ensures.ends;
      ended = λ less. end_more c.args.heads.now c.loop-last_depth.last c.in-Some.heir c.loop-last_depth.last_depth c.in-Some.ensures.0 (c.loop-last_depth.invariant.ended below);
      front = c.in_ok-go_on.ensures.front ∙ c.loop-last_depth.invariant.front;
      start = c.in_ok-go_on.ensures.start ∙ c.loop-last_depth.invariant.start;
    }

pub returns-after-loop-last_depth-clause-ends : goal.returns-after-loop-last_depth-clause-ends
returns-after-loop-last_depth-clause-ends c = λ front whole. (c.loop-last_depth.invariant.whole front whole).ends

pub returns-in-loop-last_depth-clause-ends : goal.returns-in-loop-last_depth-clause-ends
returns-in-loop-last_depth-clause-ends c = λ front whole. (c.loop-last_depth.invariant.whole front whole).ends

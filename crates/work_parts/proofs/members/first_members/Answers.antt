use Rattle.std.proofs.Common.{◌∙◌, ◌++◌, ◌∷◌, [], ap, map}
use Rattle.std.specs.List.{range_with_len}
use Rattle.osc_base.specs.Paths.{then_member}
use Rattle.work_parts.proofs.MemberPaths.{number_more}
use Rattle.work_parts.proofs.members.first_members.Goals as goal

pub loop-number-preserved : goal.loop-number-preserved
loop-number-preserved c =
    number_more (then_member c.args.path.now) c.loop-number.number c.args.count c.loop-number.members c.push.new.self
    (map (then_member c.args.path.now) (range_with_len 0 c.args.count)) c.loop-number-test.true
    (c.in_ok-push.ensures.ok ∙ ap (λ p. c.loop-number.members ++ p ∷ []) c.in_ok-then_member.ensures) c.loop-number.invariant

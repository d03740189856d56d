use Rattle.std.proofs.Common.{◌≡◌, false, length, nat_eq, rules}
use Rattle.std.specs.List.{list_any}
use Rattle.type_heads.specs.Table.{line_within}
use Rattle.type_heads.proofs.LineSteps.{any_step}
use Rattle.type_heads.proofs.lines.is_on_line.Goals as goal

pub loop-steps-preserved : goal.loop-steps-preserved
loop-steps-preserved c =
    let other : nat_eq c.args.base c.in-Some.current ≡ false = search rules in
    any_step c.args.base (list_any (nat_eq c.args.base) (line_within (length c.args.heads.now) c.args.heads.now c.args.of)) c.loop-steps.steps c.args.heads.now c.loop-steps.at
    c.base-at.result c.in-Some.current c.loop-steps.invariant c.in-Some.is other c.base-at.ensures c.loop-steps-test.true

use Rattle.std.proofs.Common.{◌∙◌, length, sym}
use Rattle.composition.specs.type_heads.Table.{line_within}
use Rattle.program_calls.specs.SeenCallees.{owned_along}
use Rattle.program_calls.proofs.CalleeNames.{owned_later}
use Rattle.program_calls.proofs.owned.owned_on_line.Goals as goal

pub loop-steps-preserved : goal.loop-steps-preserved
loop-steps-preserved c =
    owned_later c.args.types.now.table.heads c.args.name.now (owned_along c.args.types.now.table.heads c.args.name.now (line_within (length c.args.types.now.table.heads) c.args.types.now.table.heads c.args.of))
    c.loop-steps.steps c.loop-steps.at c.base-at.result c.in-Some.owner c.loop-steps.invariant c.in-Some.is (sym c.in_default.is ∙ c.owned_here.ensures) c.base-at.ensures c.loop-steps-test.true

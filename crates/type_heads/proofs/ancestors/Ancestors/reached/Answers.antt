use Rattle.std.proofs.Common.{◌∙◌, ◌≤◌, arith}
use Rattle.type_heads.specs.Ancestors.{depth}
use Rattle.type_heads.proofs.LineClimbs.{last_is}
use Rattle.type_heads.proofs.ancestors.Ancestors.reached.Goals as goal

pub returns : goal.returns
returns c =
    let few : depth c.args.self.now.entries.items c.loop-base.at ≤ depth c.args.self.now.entries.items c.args.base = omega (arith, c.loop-base-test.false, c.depth.ensures, c.depth-in-loop-base.ensures) in
    c.loop-base.invariant ∙ last_is c.args.heads.now c.args.self.now.entries.items c.requires c.args.base c.loop-base.at few

use Rattle.std.proofs.Common.{◌∙◌, ◌≤◌, sym, arith}
use Rattle.type_heads.specs.Ancestors.{depth}
use Rattle.type_heads.proofs.LineClimbs.{jumped, never_last, stepped}
use Rattle.type_heads.proofs.ancestors.Ancestors.farther.Goals as goal

pub returns-then-depth-clause-nearer : goal.returns-then-depth-clause-nearer
returns-then-depth-clause-nearer c =
    let far_enough : depth c.args.self.now.entries.items c.args.base ≤ depth c.args.self.now.entries.items c.jump-far.result = omega (arith, c.if-depth.true, c.depth.ensures, c.depth-2.ensures) in
    (jumped c.args.heads.now c.args.self.now.entries.items c.requires.fit c.args.base c.args.of c.jump-far.result c.requires.deep c.jump-far.ensures far_enough).0

pub returns-then-depth-clause-same : goal.returns-then-depth-clause-same
returns-then-depth-clause-same c =
    let far_enough : depth c.args.self.now.entries.items c.args.base ≤ depth c.args.self.now.entries.items c.jump-far.result = omega (arith, c.if-depth.true, c.depth.ensures, c.depth-2.ensures) in
    (jumped c.args.heads.now c.args.self.now.entries.items c.requires.fit c.args.base c.args.of c.jump-far.result c.requires.deep c.jump-far.ensures far_enough).1

pub returns-in-Some-clause-nearer : goal.returns-in-Some-clause-nearer
returns-in-Some-clause-nearer c =
    (stepped c.args.heads.now c.args.self.now.entries.items c.requires.fit c.args.base c.args.of c.in-Some.next c.requires.deep (sym c.base_in.ensures ∙ c.in-Some.is)).0

pub returns-in-Some-clause-same : goal.returns-in-Some-clause-same
returns-in-Some-clause-same c =
    (stepped c.args.heads.now c.args.self.now.entries.items c.requires.fit c.args.base c.args.of c.in-Some.next c.requires.deep (sym c.base_in.ensures ∙ c.in-Some.is)).1

pub returns-in-None-clause-nearer : goal.returns-in-None-clause-nearer
returns-in-None-clause-nearer c =
    absurd (never_last c.args.heads.now c.args.self.now.entries.items c.requires.fit c.args.base c.args.of c.requires.deep (sym c.base_in.ensures ∙ c.in-None.is))

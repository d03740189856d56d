use Rattle.std.proofs.Common.{◌<◌, arith, length}
use Rattle.type_members.specs.RowEnds.{StandsAt}
use Rattle.type_members.proofs.fronts.known_place.Goals as goal

pub returns-then-of-count-clause-place : goal.returns-then-of-count-clause-place
returns-then-of-count-clause-place c = λ bodies are.
    let stands : StandsAt c.args.heads.now bodies c.args.rows.now c.args.of c.in_ok-at.at = c.in_ok-at.ensures c.args.heads.now bodies are in
    let below : c.in_ok-at.at.depth < length c.args.heads.now = omega (arith, c.if-of-count.true, c.count.ensures) in
    record { there = omega (arith, c.if-of-count.true, c.count.ensures); at = stands.at; below = below; end = stands.ended below }

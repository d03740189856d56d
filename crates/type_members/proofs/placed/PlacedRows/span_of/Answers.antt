use Rattle.std.proofs.Common.{map, subst, sym}
use Rattle.type_heads.specs.Bodied.{seen_body}
use Rattle.type_members.specs.RowEnds.{AreRows, IsAt}
use Rattle.type_members.proofs.placed.PlacedRows.span_of.Goals as goal

pub returns-in-Some-clause-place : goal.returns-in-Some-clause-place
returns-in-Some-clause-place c =
    subst (λ rows. IsAt c.args.heads.now (map seen_body c.args.bodies.now) rows c.args.of c.in-Some.at.span) c.as_slice.ensures.value
    (c.in-Some.ensures c.args.heads.now (map seen_body c.args.bodies.now)
    (subst (AreRows c.args.heads.now (map seen_body c.args.bodies.now)) (sym c.as_slice.ensures.value) c.requires.rows)).at

use Rattle.std.proofs.Common.{map, subst, sym}
use Rattle.type_heads.specs.Bodied.{seen_body}
use Rattle.type_members.specs.RowEnds.{AreRows, IsAt}
use Rattle.type_members.proofs.RowPlaces.{alone_pushed, at_pushed}
use Rattle.type_members.proofs.placed.PlacedRows.push_alone.Goals as goal

pub returns-clause-rows : goal.returns-clause-rows
returns-clause-rows c =
    subst (AreRows c.args.heads.now (map seen_body c.args.bodies.now)) (sym c.in_ok-push.ensures.items)
    (alone_pushed c.args.heads.now (map seen_body c.args.bodies.now) c.args.self.now.rows.items c.in_ok-row.row c.args.of c.requires.rows
    c.in_ok-row.ensures.start c.in_ok-row.ensures.front c.in_ok-row.ensures.members c.in_ok-row.ensures.ends)

pub returns-clause-kept : goal.returns-clause-kept
returns-clause-kept c = λ t s at.
    subst (λ rows. IsAt c.args.heads.now (map seen_body c.args.bodies.now) rows t s) (sym c.in_ok-push.ensures.items)
    (at_pushed c.args.heads.now (map seen_body c.args.bodies.now) c.args.self.now.rows.items c.in_ok-row.row t s c.requires.rows.started at)

use Rattle.std.proofs.Common.{map, subst, sym}
use Rattle.type_heads.specs.Bodied.{seen_body}
use Rattle.type_members.specs.RowEnds.{AreRows}
use Rattle.type_members.proofs.RowPlaces.{first_pushed}
use Rattle.type_members.proofs.placed.PlacedRows.push_from.Goals as goal

pub first_row-requires-clause-ended : goal.first_row-requires-clause-ended
first_row-requires-clause-ended c =
    c.depth_of-depth.ensures (map seen_body c.args.bodies.now) (subst (AreRows c.args.heads.now (map seen_body c.args.bodies.now)) (sym c.as_slice.ensures.value) c.requires.rows)

pub go_on_with_heirs-requires-clause-ended : goal.go_on_with_heirs-requires-clause-ended
go_on_with_heirs-requires-clause-ended c =
    c.depth_of-depth.ensures (map seen_body c.args.bodies.now) (subst (AreRows c.args.heads.now (map seen_body c.args.bodies.now)) (sym c.as_slice.ensures.value) c.requires.rows)

pub returns : goal.returns
returns c =
    subst (AreRows c.args.heads.now (map seen_body c.args.bodies.now)) (sym c.in_ok-push.ensures.items)
    (first_pushed c.args.heads.now (map seen_body c.args.bodies.now) c.args.self.now.rows.items c.in_ok-row.row c.go_on_with_heirs.new.row c.args.of c.requires.rows c.in_ok-row.ensures
    c.in_ok-go_on_with_heirs.ensures.ends c.in_ok-go_on_with_heirs.ensures.front c.in_ok-go_on_with_heirs.ensures.start)

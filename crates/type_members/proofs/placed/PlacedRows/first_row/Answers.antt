use Rattle.std.proofs.Common.{◌≡◌, None, map, subst, sym}
use Rattle.type_heads.specs.Bodied.{seen_body}
use Rattle.type_heads.specs.Table.{base}
use Rattle.type_members.specs.Origins.{IsOrigin}
use Rattle.type_members.specs.RowEnds.{own_part}
use Rattle.type_members.proofs.Inheriting.{members_none}
use Rattle.type_members.proofs.RowSteps.{first_at, no_start}
use Rattle.type_members.proofs.placed.PlacedRows.first_row.Goals as goal

pub returns-in_ok-row-in-Nowhere : goal.returns-in_ok-row-in-Nowhere
returns-in_ok-row-in-Nowhere c =
    let none : base c.args.heads.now c.args.of ≡ None =
    subst (IsOrigin c.args.heads.now (map seen_body c.args.bodies.now) c.as_slice-rows.result.now c.args.of) c.in-Nowhere.is c.in_ok-origin.ensures in
    first_at c.args.heads.now (map seen_body c.args.bodies.now) c.args.self.now.rows.items c.in_ok-row-in-Nowhere.row None (own_part c.args.heads.now (map seen_body c.args.bodies.now) c.args.of)
    c.args.of c.args.depth c.in_ok-row-in-Nowhere.ensures.start c.in_ok-row-in-Nowhere.ensures.front c.in_ok-row-in-Nowhere.ensures.members c.in_ok-row-in-Nowhere.ensures.ends
    (no_start c.args.self.now.rows.items) (sym (members_none c.args.heads.now (map seen_body c.args.bodies.now) c.args.of none)) c.requires.ended

use Rattle.std.proofs.Common.{length, map, subst}
use Rattle.type_members.specs.type_heads.Bodied.{seen_body}
use Rattle.type_members.specs.type_heads.MemberFaults.{depends_on}
use Rattle.type_members.specs.Listed.{lists_of}
use Rattle.member_faults.specs.ListedRows.{near_depended, types_with}
use Rattle.fault_sets.specs.Ranking.{HasLevels, IsShown}
use Rattle.member_faults.proofs.NearDepended.{near_shows}
use Rattle.fault_sets.proofs.RowSteps.{if_ok}
use Rattle.member_faults.proofs.near_depended.near_ranking.Goals as goal

pub returns : goal.returns
returns c =
    let d = c.args.depends.now in
    let heads = d.heads.now in
    let bodies = map seen_body d.bodies.now in
    let members = lists_of d.lists.now in
    if_ok (HasLevels c.count.result (near_depended heads bodies members)) (IsShown (length heads) (depends_on (types_with heads bodies members)))
    (λ r levels. near_shows heads bodies members r (subst (λ n. HasLevels n (near_depended heads bodies members) r) c.count.ensures levels)) c.of.result c.of.ensures.levels

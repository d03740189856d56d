use Rattle.std.proofs.Common.{rules, ◌≡◌, ◌∙◌, ◌<◌, ◌≤◌, length, slice_index_or}
use Rattle.type_members.proofs.RowPlaces.{front_past, front_there}
use Rattle.type_members.proofs.member_lists.MemberLists.front.Goals as goal

pub returns-in-Some : goal.returns-in-Some
returns-in-Some c =
    let less : c.args.row < length c.args.self.now.rows.items = search rules in
    let is : c.in-Some.row.now ≡ slice_index_or c.args.self.now.rows.items c.args.row c.in-Some.row.now = search rules in
    c.as_slice.ensures.value ∙ front_there c.args.self.now.rows.items c.in-Some.row.now c.args.row less is

pub returns-in-None : goal.returns-in-None
returns-in-None c =
    let past : length c.args.self.now.rows.items ≤ c.args.row = search rules in
    front_past c.args.self.now.rows.items c.args.row past

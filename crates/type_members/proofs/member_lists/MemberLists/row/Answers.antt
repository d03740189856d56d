use Rattle.std.proofs.Common.{rules, ◌≡◌, ◌∙◌, ◌<◌, ◌≤◌, ap, length, map, slice_index_or}
use Rattle.type_members.specs.Listed.{seen_listed}
use Rattle.type_members.proofs.RowPlaces.{row_past, row_there}
use Rattle.type_members.proofs.member_lists.MemberLists.row.Goals as goal

pub returns-in-Some : goal.returns-in-Some
returns-in-Some c =
    let less : c.args.number < length c.args.self.now.rows.items = search rules in
    let is : c.in-Some.row.now ≡ slice_index_or c.args.self.now.rows.items c.args.number c.in-Some.row.now = search rules in
    ap (map seen_listed) c.as_slice.ensures.value ∙ row_there c.args.self.now.rows.items c.in-Some.row.now c.args.number less is

pub returns-in-None : goal.returns-in-None
returns-in-None c =
    let past : length c.args.self.now.rows.items ≤ c.args.number = search rules in
    c.between.ensures ∙ row_past c.args.self.now.rows.items c.args.number past

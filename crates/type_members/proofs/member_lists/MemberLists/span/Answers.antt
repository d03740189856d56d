use Rattle.std.proofs.Common.{rules, ◌≡◌, ◌∙◌, ◌<◌, ◌≤◌, ap, length, map, slice_index_or}
use Rattle.type_members.specs.Listed.{seen_row}
use Rattle.type_members.specs.Shared.{fronts_in, members_at}
use Rattle.type_members.proofs.RowPlaces.{list_past, list_there}
use Rattle.type_members.proofs.member_lists.MemberLists.span.Goals as goal

pub returns-in-Some : goal.returns-in-Some
returns-in-Some c =
    let less : c.args.of < length c.args.self.now.spans.items = search rules in
    let is : c.in-Some.span.now ≡ slice_index_or c.args.self.now.spans.items c.args.of c.in-Some.span.now = search rules in
    list_there c.args.self.now.rows.items c.args.self.now.spans.items c.in-Some.span.now c.args.of less is

pub returns-in-None : goal.returns-in-None
returns-in-None c =
    let past : length c.args.self.now.spans.items ≤ c.args.of = search rules in
    let row_is : c.len.result ≡ length c.args.self.now.rows.items = search rules in
    ap (λ k. members_at (fronts_in c.args.self.now.rows.items) (map seen_row c.args.self.now.rows.items) (record { row = k; len = 0 })) row_is
    ∙ list_past c.args.self.now.rows.items c.args.self.now.spans.items c.args.of past

use Rattle.std.proofs.Common.{rules, ◌≡◌, ◌<◌, length, slice_index_or}
use Rattle.type_members.proofs.RowPlaces.{end_at}
use Rattle.type_members.proofs.places.standing_in.Goals as goal

pub returns : goal.returns
returns c = λ heads bodies are.
    let in_rows : c.in_ok-at.at.row < length c.args.rows.now = search rules in
    let row_is : c.in_ok-row.row.now ≡ slice_index_or c.args.rows.now c.in_ok-at.at.row c.in_ok-row.row.now = search rules in
    let in_ends : c.in_ok-at.at.end < length c.in_ok-row.row.now.ends.items = search rules in
    let end_is : c.in_ok-end.end.now ≡ slice_index_or c.in_ok-row.row.now.ends.items c.in_ok-at.at.end c.in_ok-end.end.now = search rules in
    let of_is : c.in_ok-end.end.now.of ≡ c.args.of = search rules in
    end_at heads bodies c.args.rows.now c.in_ok-at.at.row c.in_ok-at.at.end c.args.of c.in_ok-row.row.now c.in_ok-end.end.now are in_rows row_is in_ends end_is of_is

use Rattle.std.proofs.Common.{◌∙◌, ◌+◌, [], ◌∷◌, ap, length, map, subst, sym, length-append}
use Rattle.type_members.specs.Listed.{seen_listed, seen_row}
use Rattle.member_faults.specs.NamePlaces.{ArePlaces, AreRowPlaces}
use Rattle.member_faults.proofs.NameNotes.{row_placed}
use Rattle.member_faults.proofs.name_places.row_places.Goals as goal

pub loop-row-preserved : goal.loop-row-preserved
loop-row-preserved c =
    let all = c.loop-row.all.items in
    let q = c.in_ok-places.places in
    record {
      count = ap length c.in_ok-push.ensures.items ∙ length-append all (q ∷ []) ∙ ap (λ n. n + 1) c.loop-row.invariant.count;
      places = subst (λ qs. AreRowPlaces qs (map seen_row c.args.rows.now)) (sym c.in_ok-push.ensures.items)
          (row_placed c.args.rows.now all q c.row-item.result c.loop-row.row-index c.loop-row-test.true c.row-item.is
          (subst (λ ms. ArePlaces q (map seen_listed ms)) c.as_slice.ensures.value c.in_ok-places.ensures) c.loop-row.invariant.count c.loop-row.invariant.places);
    }

use Rattle.std.proofs.Common.{◌∙◌, ◌+◌, [], ◌∷◌, ap, length, map, subst, sym, length-append}
use Rattle.type_members.specs.Listed.{seen_row}
use Rattle.type_members.specs.Shared.{fronts_in}
use Rattle.member_faults.specs.RowFacts.{AreAllSo, next_facts}
use Rattle.member_faults.proofs.KnownRows.{next_so}
use Rattle.member_faults.proofs.row_facts.row_facts.Goals as goal

pub loop-row-preserved : goal.loop-row-preserved
loop-row-preserved c =
    let all = c.loop-row.all.items in
    let heads = c.args.heads.now in
    let rows = c.args.rows.now in
    let f = c.in_ok-facts.facts in
    record {
      count = ap length c.in_ok-push.ensures.items ∙ length-append all (f ∷ []) ∙ ap (λ n. n + 1) c.loop-row.invariant.count;
      so = subst (AreAllSo heads (fronts_in rows) (map seen_row rows)) (sym c.in_ok-push.ensures.items)
          (next_so heads rows c.args.places.now all c.row-item.result f c.loop-row.row-index c.requires.started c.requires.places c.loop-row.invariant.count c.loop-row-test.true c.row-item.is
          (c.in_ok-facts.ensures ∙ ap (λ ks. next_facts heads c.args.places.now ks c.row-item.result) c.as_slice.ensures.value) c.loop-row.invariant.so);
    }

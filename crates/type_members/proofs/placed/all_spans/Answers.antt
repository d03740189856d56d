use Rattle.std.proofs.Common.{◌≡◌, ◌∙◌, ◌+◌, [], ◌∷◌, ap, arith, length, length-append, map, subst, sym}
use Rattle.type_heads.specs.Bodied.{seen_body}
use Rattle.type_members.specs.RowEnds.{IsAt}
use Rattle.type_members.proofs.RowPlaces.{AreAt, at_kept, at_more, lists_at}
use Rattle.type_members.proofs.placed.all_spans.Goals as goal

pub loop-number-preserved : goal.loop-number-preserved
loop-number-preserved c =
    let count : c.loop-number.number ≡ 0 + length c.loop-number.spans.items = omega (arith, c.loop-number.invariant.count) in
    record {
      rows = c.in_ok-span.ensures.rows;
      places = subst (AreAt c.args.heads.now (map seen_body c.args.bodies.now) c.span_of.new.self.rows.items 0) (sym c.in_ok-push.ensures.items)
          (at_more c.args.heads.now (map seen_body c.args.bodies.now) c.span_of.new.self.rows.items 0 c.loop-number.spans.items c.in_ok-span.span
          (at_kept c.args.heads.now (map seen_body c.args.bodies.now) c.loop-number.placed.rows.items c.span_of.new.self.rows.items 0 c.loop-number.spans.items
          c.in_ok-span.ensures.kept c.loop-number.invariant.places)
          (subst (λ n. IsAt c.args.heads.now (map seen_body c.args.bodies.now) c.span_of.new.self.rows.items n c.in_ok-span.span) count c.in_ok-span.ensures.place));
      count = ap length c.in_ok-push.ensures.items ∙ length-append c.loop-number.spans.items (c.in_ok-span.span ∷ []) ∙ ap (λ n. n + 1) c.loop-number.invariant.count;
    }

pub returns-clause-lists : goal.returns-clause-lists
returns-clause-lists c =
    let all : length c.loop-number.spans.items ≡ length c.args.heads.now =
    omega (arith, c.loop-number.invariant.count, c.loop-number-test.false, c.loop-number.auto.number-end, c.count-number-end.ensures) in
    lists_at c.args.heads.now (map seen_body c.args.bodies.now) c.loop-number.placed.rows.items 0 c.loop-number.spans.items c.args.heads.now c.loop-number.invariant.places all

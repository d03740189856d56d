use Rattle.std.proofs.Common.{◌≡◌, ◌∙◌, ◌<◌, ◌+◌, ◌*◌, ap, arith}
use Rattle.std.specs.Prelude.{pos, unwrap_or, max}
use denote.Param.Weighed.{most}
use Rattle.expr_nodes.specs.declared.node.Typed.TheViews.{size-Typed, size-Earlier}
use Rattle.expr_value.proofs.NodeCounts as Steps
use Rattle.expr_value.proofs.Falls
use Rattle.expr_value.proofs.counts.+counts.Goals as goal

pub count_of-count_of-requires : goal.count_of-count_of-requires
count_of-count_of-requires g t c κs within =
    let d : 2 * size-Typed c.args.typed.now ≡ t = c.decreases in
    let b : 2 * size-Typed c.get.result.now < t = omega (arith, d, Falls.below_minus c.args.typed.now c.get.result.now c.in-Minus.part c.in-Minus.info c.in-Minus.is c.get.ensures) in
    (b, (within, Steps.minus_part (g.R.Reading.told c.args.reading.now) c.args.typed.now c.get.result.now c.in-Minus.part c.in-Minus.info c.requires c.in-Minus.is c.get.ensures))

pub count_of-count_of-requires-in-Not : goal.count_of-count_of-requires-in-Not
count_of-count_of-requires-in-Not g t c κs within =
    let d : 2 * size-Typed c.args.typed.now ≡ t = c.decreases in
    let b : 2 * size-Typed c.get-in-Not.result.now < t = omega (arith, d, Falls.below_not c.args.typed.now c.get-in-Not.result.now c.in-Not.part c.in-Not.info c.in-Not.is c.get-in-Not.ensures) in
    (b, (within, Steps.not_part (g.R.Reading.told c.args.reading.now) c.args.typed.now c.get-in-Not.result.now c.in-Not.part c.in-Not.info c.requires c.in-Not.is c.get-in-Not.ensures))

pub count_of-count_of_row-left-requires : goal.count_of-count_of_row-left-requires
count_of-count_of_row-left-requires g t c κs within =
    let d : 2 * size-Typed c.args.typed.now ≡ t = c.decreases in
    let b : 2 * max (size-Typed c.get-in-Joined.result.now) (most size-Earlier c.as_slice.result.now) + 1 < t = omega (arith, d, Falls.below_joined c.args.typed.now c.in-Joined.first c.in-Joined.last c.in-Joined.info c.in-Joined.join c.in-Joined.earlier c.in-Joined.is, ap size-Typed c.get-in-Joined.ensures, ap (most size-Earlier) c.as_slice.ensures) in
    (b, (within, Steps.row_ready (g.R.Reading.told c.args.reading.now) c.args.typed.now c.get-in-Joined.result.now c.in-Joined.first c.in-Joined.last c.in-Joined.info c.in-Joined.join c.in-Joined.earlier c.as_slice.result.now c.requires c.in-Joined.is c.get-in-Joined.ensures c.as_slice.ensures))

pub count_of-count_of-requires-in-Joined : goal.count_of-count_of-requires-in-Joined
count_of-count_of-requires-in-Joined g t c κs within =
    let d : 2 * size-Typed c.args.typed.now ≡ t = c.decreases in
    let b : 2 * size-Typed c.get-in-Joined-2.result.now < t = omega (arith, d, Falls.below_joined c.args.typed.now c.in-Joined.first c.in-Joined.last c.in-Joined.info c.in-Joined.join c.in-Joined.earlier c.in-Joined.is, ap size-Typed c.get-in-Joined-2.ensures) in
    (b, (within, Steps.last_ready (g.R.Reading.told c.args.reading.now) c.args.typed.now c.get-in-Joined-2.result.now c.in-Joined.first c.in-Joined.last c.in-Joined.info c.in-Joined.join c.in-Joined.earlier c.requires c.in-Joined.is c.get-in-Joined-2.ensures))

pub count_of-join-requires : goal.count_of-join-requires
count_of-join-requires g t c = Steps.row_fits (g.R.Reading.told c.args.reading.now) c.args.typed.now c.get-in-Joined.result.now c.get-in-Joined-2.result.now c.in-Joined.first c.in-Joined.last c.in-Joined.info c.in-Joined.join c.in-Joined.earlier c.as_slice.result.now c.count_of_row-left.result c.count_of-in-Joined.result c.in-Joined.is c.get-in-Joined.ensures c.as_slice.ensures c.get-in-Joined-2.ensures c.requires c.count_of_row-left.ensures c.count_of-in-Joined.ensures

pub count_of-count_of-left-requires : goal.count_of-count_of-left-requires
count_of-count_of-left-requires g t c κs within =
    let d : 2 * size-Typed c.args.typed.now ≡ t = c.decreases in
    let b : 2 * size-Typed c.get-in-Implies.result.now < t = omega (arith, d, Falls.below_implies c.args.typed.now c.in-Implies.left c.in-Implies.right c.in-Implies.info c.in-Implies.is, ap size-Typed c.get-in-Implies.ensures) in
    (b, (within, Steps.implies_first (g.R.Reading.told c.args.reading.now) c.args.typed.now c.get-in-Implies.result.now c.in-Implies.left c.in-Implies.right c.in-Implies.info c.requires c.in-Implies.is c.get-in-Implies.ensures))

pub count_of-count_of-right-requires : goal.count_of-count_of-right-requires
count_of-count_of-right-requires g t c κs within =
    let d : 2 * size-Typed c.args.typed.now ≡ t = c.decreases in
    let b : 2 * size-Typed c.get-in-Implies-2.result.now < t = omega (arith, d, Falls.below_implies c.args.typed.now c.in-Implies.left c.in-Implies.right c.in-Implies.info c.in-Implies.is, ap size-Typed c.get-in-Implies-2.ensures) in
    (b, (within, Steps.implies_second (g.R.Reading.told c.args.reading.now) c.args.typed.now c.get-in-Implies-2.result.now c.in-Implies.left c.in-Implies.right c.in-Implies.info c.requires c.in-Implies.is c.get-in-Implies-2.ensures))

pub count_of-count_of-left-requires-in-Relation : goal.count_of-count_of-left-requires-in-Relation
count_of-count_of-left-requires-in-Relation g t c κs within =
    let d : 2 * size-Typed c.args.typed.now ≡ t = c.decreases in
    let b : 2 * size-Typed c.get-in-Relation.result.now < t = omega (arith, d, Falls.below_relation c.args.typed.now c.in-Relation.left c.in-Relation.right c.in-Relation.info c.in-Relation.sign c.in-Relation.is, ap size-Typed c.get-in-Relation.ensures) in
    (b, (within, Steps.relation_first (g.R.Reading.told c.args.reading.now) c.args.typed.now c.get-in-Relation.result.now c.in-Relation.left c.in-Relation.right c.in-Relation.info c.in-Relation.sign c.requires c.in-Relation.is c.get-in-Relation.ensures))

pub count_of-count_of-right-requires-in-Relation : goal.count_of-count_of-right-requires-in-Relation
count_of-count_of-right-requires-in-Relation g t c κs within =
    let d : 2 * size-Typed c.args.typed.now ≡ t = c.decreases in
    let b : 2 * size-Typed c.get-in-Relation-2.result.now < t = omega (arith, d, Falls.below_relation c.args.typed.now c.in-Relation.left c.in-Relation.right c.in-Relation.info c.in-Relation.sign c.in-Relation.is, ap size-Typed c.get-in-Relation-2.ensures) in
    (b, (within, Steps.relation_second (g.R.Reading.told c.args.reading.now) c.args.typed.now c.get-in-Relation-2.result.now c.in-Relation.left c.in-Relation.right c.in-Relation.info c.in-Relation.sign c.requires c.in-Relation.is c.get-in-Relation-2.ensures))

pub count_of-count_of-left-requires-in-Within : goal.count_of-count_of-left-requires-in-Within
count_of-count_of-left-requires-in-Within g t c κs within =
    let d : 2 * size-Typed c.args.typed.now ≡ t = c.decreases in
    let b : 2 * size-Typed c.get-in-Within.result.now < t = omega (arith, d, Falls.below_within c.args.typed.now c.in-Within.left c.in-Within.right c.in-Within.info c.in-Within.is, ap size-Typed c.get-in-Within.ensures) in
    (b, (within, Steps.within_first (g.R.Reading.told c.args.reading.now) c.args.typed.now c.get-in-Within.result.now c.in-Within.left c.in-Within.right c.in-Within.info c.requires c.in-Within.is c.get-in-Within.ensures))

pub count_of-is_in-requires : goal.count_of-is_in-requires
count_of-is_in-requires g t c κs within =
    let d : 2 * size-Typed c.args.typed.now ≡ t = c.decreases in
    let b : 2 * size-Typed c.get-in-Within-2.result.now < t = omega (arith, d, Falls.below_within c.args.typed.now c.in-Within.left c.in-Within.right c.in-Within.info c.in-Within.is, ap size-Typed c.get-in-Within-2.ensures) in
    (b, (within, (Steps.within_second (g.R.Reading.told c.args.reading.now) c.args.typed.now c.get-in-Within-2.result.now c.in-Within.left c.in-Within.right c.in-Within.info c.requires c.in-Within.is c.get-in-Within-2.ensures, Steps.within_joins (g.R.Reading.told c.args.reading.now) c.args.typed.now c.get-in-Within.result.now c.get-in-Within-2.result.now c.in-Within.left c.in-Within.right c.in-Within.info c.count_of-left-in-Within.result c.requires c.in-Within.is c.get-in-Within-2.ensures c.count_of-left-in-Within.ensures c.get-in-Within.ensures)))

pub count_of-compares-requires : goal.count_of-compares-requires
count_of-compares-requires g t c = Steps.relation_fits (g.R.Reading.told c.args.reading.now) c.args.typed.now c.get-in-Relation.result.now c.get-in-Relation-2.result.now c.in-Relation.left c.in-Relation.right c.in-Relation.info c.in-Relation.sign c.count_of-left-in-Relation.result c.count_of-right-in-Relation.result c.in-Relation.is c.get-in-Relation.ensures c.get-in-Relation-2.ensures c.requires c.count_of-left-in-Relation.ensures c.count_of-right-in-Relation.ensures

pub count_of-of_number-requires : goal.count_of-of_number-requires
count_of-of_number-requires g t c = Steps.constant_reach (g.R.Reading.told c.args.reading.now) c.args.typed.now c.in-Constant.info c.in-Constant.number c.in-Constant.is c.requires

pub count_of-of_held-requires : goal.count_of-of_held-requires
count_of-of_held-requires g t c = Steps.read_reach (g.R.Reading.told c.args.reading.now) c.args.typed.now c.in-Read.info c.in-Read.path c.in-Read.per (unwrap_or c.held.result (pos 0)) c.in-Read.is (ap (λ o. unwrap_or o (pos 0)) c.held.ensures) c.requires

pub count_of-returns-in-Constant : goal.count_of-returns-in-Constant
count_of-returns-in-Constant g t c = Steps.constant_counted (g.R.Reading.told c.args.reading.now) c.args.typed.now c.in-Constant.info c.in-Constant.number c.of_number.result c.in-Constant.is c.of_number.ensures.sized c.of_number.ensures.same

pub count_of-returns-in-Read : goal.count_of-returns-in-Read
count_of-returns-in-Read g t c = Steps.read_counted (g.R.Reading.told c.args.reading.now) c.args.typed.now c.in-Read.info c.in-Read.path c.in-Read.per c.of_held.result c.in-Read.is c.of_held.ensures.sized (c.of_held.ensures.same ∙ ap (λ o. unwrap_or o (pos 0)) c.held.ensures)

pub count_of-returns-in-Whole : goal.count_of-returns-in-Whole
count_of-returns-in-Whole g t c = Steps.whole_counted (g.R.Reading.told c.args.reading.now) c.args.typed.now c.in-Whole.info c.in-Whole.path c.zero.result c.in-Whole.is c.zero.ensures.sized c.zero.ensures.same

pub count_of-returns-in-Listed : goal.count_of-returns-in-Listed
count_of-returns-in-Listed g t c = Steps.listed_counted (g.R.Reading.told c.args.reading.now) c.args.typed.now c.in-Listed.info c.in-Listed.is_field c.in-Listed.items c.zero-in-Listed.result c.in-Listed.is c.zero-in-Listed.ensures.sized c.zero-in-Listed.ensures.same

pub count_of-returns-in-Span : goal.count_of-returns-in-Span
count_of-returns-in-Span g t c = Steps.span_counted (g.R.Reading.told c.args.reading.now) c.args.typed.now c.in-Span.info c.in-Span.low c.in-Span.high c.zero-in-Span.result c.in-Span.is c.zero-in-Span.ensures.sized c.zero-in-Span.ensures.same

pub count_of-returns-in-Minus : goal.count_of-returns-in-Minus
count_of-returns-in-Minus g t c = Steps.minus_counted (g.R.Reading.told c.args.reading.now) c.args.typed.now c.get.result.now c.in-Minus.part c.in-Minus.info c.count_of.result c.opposite.result c.in-Minus.is c.get.ensures c.requires c.count_of.ensures c.opposite.ensures.sized c.opposite.ensures.same

pub count_of-returns-in-Not : goal.count_of-returns-in-Not
count_of-returns-in-Not g t c = Steps.not_counted (g.R.Reading.told c.args.reading.now) c.args.typed.now c.get-in-Not.result.now c.in-Not.part c.in-Not.info c.count_of-in-Not.result c.negated.result c.in-Not.is c.get-in-Not.ensures c.requires c.count_of-in-Not.ensures c.negated.ensures.sized c.negated.ensures.same

pub count_of-returns-in-Joined : goal.count_of-returns-in-Joined
count_of-returns-in-Joined g t c = Steps.row_counted (g.R.Reading.told c.args.reading.now) c.args.typed.now c.get-in-Joined.result.now c.get-in-Joined-2.result.now c.in-Joined.first c.in-Joined.last c.in-Joined.info c.in-Joined.join c.in-Joined.earlier c.as_slice.result.now c.count_of_row-left.result c.count_of-in-Joined.result c.join.result c.in-Joined.is c.get-in-Joined.ensures c.as_slice.ensures c.get-in-Joined-2.ensures c.count_of_row-left.ensures c.count_of-in-Joined.ensures c.join.ensures.sized c.join.ensures.same

pub count_of-returns-in-Implies : goal.count_of-returns-in-Implies
count_of-returns-in-Implies g t c = Steps.implies_counted (g.R.Reading.told c.args.reading.now) c.args.typed.now c.get-in-Implies.result.now c.get-in-Implies-2.result.now c.in-Implies.left c.in-Implies.right c.in-Implies.info c.count_of-left.result c.count_of-right.result c.implies.result c.in-Implies.is c.get-in-Implies.ensures c.get-in-Implies-2.ensures c.requires c.count_of-left.ensures c.count_of-right.ensures c.implies.ensures.sized c.implies.ensures.same

pub count_of-returns-in-Relation : goal.count_of-returns-in-Relation
count_of-returns-in-Relation g t c = Steps.relation_counted (g.R.Reading.told c.args.reading.now) c.args.typed.now c.get-in-Relation.result.now c.get-in-Relation-2.result.now c.in-Relation.left c.in-Relation.right c.in-Relation.info c.in-Relation.sign c.count_of-left-in-Relation.result c.count_of-right-in-Relation.result c.truth.result c.compares.result c.in-Relation.is c.get-in-Relation.ensures c.get-in-Relation-2.ensures c.requires c.count_of-left-in-Relation.ensures c.count_of-right-in-Relation.ensures c.compares.ensures c.truth.ensures.sized c.truth.ensures.same

pub count_of-returns-in-Within : goal.count_of-returns-in-Within
count_of-returns-in-Within g t c = Steps.within_counted (g.R.Reading.told c.args.reading.now) c.args.typed.now c.get-in-Within.result.now c.get-in-Within-2.result.now c.in-Within.left c.in-Within.right c.in-Within.info c.count_of-left-in-Within.result c.truth-in-Within.result c.is_in.result c.in-Within.is c.get-in-Within.ensures c.get-in-Within-2.ensures c.requires c.count_of-left-in-Within.ensures c.is_in.ensures c.truth-in-Within.ensures.sized c.truth-in-Within.ensures.same

pub count_of_row-count_of-row-requires : goal.count_of_row-count_of-row-requires
count_of_row-count_of-row-requires g t c κs within =
    let d : 2 * max (size-Typed c.args.first.now) (most size-Earlier c.args.earlier.now) + 1 ≡ t = c.decreases in
    let b : 2 * size-Typed c.args.first.now < t = omega (arith, d, c.args.join) in
    (b, (within, Steps.first_ready (g.R.Reading.told c.args.reading.now) c.args.join c.args.first.now c.args.earlier.now c.requires))

pub count_of_row-count_of-part-requires : goal.count_of_row-count_of-part-requires
count_of_row-count_of-part-requires g t c κs within =
    let d : 2 * max (size-Typed c.args.first.now) (most size-Earlier c.args.earlier.now) + 1 ≡ t = c.decreases in
    let b : 2 * size-Typed c.next-item.result.part < t = omega (arith, d, Falls.part_below c.next-item.result, Falls.at_most size-Earlier c.args.earlier.now c.parts.next-index c.next-item.result c.parts-test.true c.next-item.is) in
    (b, (within, Steps.next_ready (g.R.Reading.told c.args.reading.now) c.args.join c.args.first.now c.args.earlier.now c.parts.next-index c.next-item.result c.parts-test.true c.next-item.is c.parts.row c.parts.invariant c.requires))

pub count_of_row-parts-init : goal.count_of_row-parts-init
count_of_row-parts-init g t c = Steps.row_begun (g.R.Reading.told c.args.reading.now) c.args.join c.args.first.now c.args.earlier.now c.count_of-row.result c.count_of-row.ensures

pub count_of_row-join-row-requires : goal.count_of_row-join-row-requires
count_of_row-join-row-requires g t c = Steps.next_fits (g.R.Reading.told c.args.reading.now) c.args.join c.args.first.now c.args.earlier.now c.parts.next-index c.next-item.result c.parts-test.true c.next-item.is c.parts.row c.parts.invariant c.count_of-part.result c.requires c.count_of-part.ensures

pub count_of_row-parts-preserved : goal.count_of_row-parts-preserved
count_of_row-parts-preserved g t c = Steps.row_more (g.R.Reading.told c.args.reading.now) c.args.join c.args.first.now c.args.earlier.now c.parts.next-index c.next-item.result c.parts-test.true c.next-item.is c.parts.row c.parts.invariant c.count_of-part.result c.join-row.result c.count_of-part.ensures c.join-row.ensures.sized c.join-row.ensures.same

pub count_of_row-returns : goal.count_of_row-returns
count_of_row-returns g t c = Steps.row_ended (g.R.Reading.told c.args.reading.now) c.args.join c.args.first.now c.args.earlier.now c.parts.next-index c.parts.row c.parts-test.false c.parts.invariant

pub is_item-count_of-requires : goal.is_item-count_of-requires
is_item-count_of-requires g t c κs within =
    let d : 2 * most size-Typed c.args.items.now + 1 ≡ t = c.decreases in
    let b : 2 * size-Typed c.item-item.result < t = omega (arith, d, Falls.at_most size-Typed c.args.items.now c.items.item-index c.item-item.result c.items-test.true c.item-item.is) in
    (b, (within, Steps.item_ready (g.R.Reading.told c.args.reading.now) c.args.value.now c.args.items.now c.items.item-index c.item-item.result c.items-test.true c.item-item.is c.items.invariant))

pub is_item-items-init : goal.is_item-items-init
is_item-items-init g t c = Steps.items_begun (g.R.Reading.told c.args.reading.now) c.args.value.now c.args.items.now c.requires

pub is_item-compares-requires : goal.is_item-compares-requires
is_item-compares-requires g t c = Steps.item_fits (g.R.Reading.told c.args.reading.now) c.args.value.now c.args.items.now c.items.item-index c.item-item.result c.items-test.true c.item-item.is c.items.invariant c.count_of.result c.count_of.ensures

pub is_item-returns-then-compares : goal.is_item-returns-then-compares
is_item-returns-then-compares g t c = Steps.item_found (g.R.Reading.told c.args.reading.now) c.args.value.now c.args.items.now c.items.item-index c.item-item.result c.items-test.true c.item-item.is c.items.invariant c.count_of.result c.compares.result c.count_of.ensures c.compares.ensures c.if-compares.true

pub is_item-items-preserved : goal.is_item-items-preserved
is_item-items-preserved g t c = Steps.items_more (g.R.Reading.told c.args.reading.now) c.args.value.now c.args.items.now c.items.item-index c.item-item.result c.items-test.true c.item-item.is c.items.invariant c.count_of.result c.compares.result c.count_of.ensures c.compares.ensures c.if-compares.false

pub is_item-returns : goal.is_item-returns
is_item-returns g t c = Steps.items_ended (g.R.Reading.told c.args.reading.now) c.args.value.now c.args.items.now c.items.item-index c.items-test.false c.items.invariant

pub is_in-count_of-low-requires : goal.is_in-count_of-low-requires
is_in-count_of-low-requires g t c κs within =
    let d : 2 * size-Typed c.args.right.now ≡ t = c.decreases in
    let b : 2 * size-Typed c.get.result.now < t = omega (arith, d, Falls.below_span c.args.right.now c.in-Span.low c.in-Span.high c.in-Span.info c.in-Span.is, ap size-Typed c.get.ensures) in
    (b, (within, Steps.low_ready (g.R.Reading.told c.args.reading.now) c.args.right.now c.get.result.now c.in-Span.low c.in-Span.high c.in-Span.info c.requires.ready c.in-Span.is c.get.ensures))

pub is_in-count_of-high-requires : goal.is_in-count_of-high-requires
is_in-count_of-high-requires g t c κs within =
    let d : 2 * size-Typed c.args.right.now ≡ t = c.decreases in
    let b : 2 * size-Typed c.get-in-Span.result.now < t = omega (arith, d, Falls.below_span c.args.right.now c.in-Span.low c.in-Span.high c.in-Span.info c.in-Span.is, ap size-Typed c.get-in-Span.ensures) in
    (b, (within, Steps.high_ready (g.R.Reading.told c.args.reading.now) c.args.right.now c.get-in-Span.result.now c.in-Span.low c.in-Span.high c.in-Span.info c.requires.ready c.in-Span.is c.get-in-Span.ensures))

pub is_in-is_between-requires : goal.is_in-is_between-requires
is_in-is_between-requires g t c = record { low = Steps.low_fits (g.R.Reading.told c.args.reading.now) c.args.value.now c.args.right.now c.get.result.now c.in-Span.low c.in-Span.high c.in-Span.info c.count_of-low.result c.in-Span.is c.get.ensures c.requires.joins c.count_of-low.ensures; high = Steps.high_fits (g.R.Reading.told c.args.reading.now) c.args.value.now c.args.right.now c.get-in-Span.result.now c.in-Span.low c.in-Span.high c.in-Span.info c.count_of-high.result c.in-Span.is c.get-in-Span.ensures c.requires.joins c.count_of-high.ensures }

pub is_in-returns-in-Span : goal.is_in-returns-in-Span
is_in-returns-in-Span g t c = Steps.span_found (g.R.Reading.told c.args.reading.now) c.args.value.now c.args.right.now c.get.result.now c.get-in-Span.result.now c.in-Span.low c.in-Span.high c.in-Span.info c.count_of-low.result c.count_of-high.result c.is_between.result c.in-Span.is c.get.ensures c.get-in-Span.ensures c.count_of-low.ensures c.count_of-high.ensures c.is_between.ensures

pub is_in-is_item-requires : goal.is_in-is_item-requires
is_in-is_item-requires g t c κs within =
    let d : 2 * size-Typed c.args.right.now ≡ t = c.decreases in
    let b : 2 * most size-Typed c.as_slice.result.now + 1 < t = omega (arith, d, Falls.below_listed c.args.right.now c.in-Listed.info c.in-Listed.is_field c.in-Listed.items c.in-Listed.is, ap (most size-Typed) c.as_slice.ensures) in
    (b, (within, Steps.items_ready (g.R.Reading.told c.args.reading.now) c.args.value.now c.args.right.now c.in-Listed.info c.in-Listed.is_field c.in-Listed.items c.as_slice.result.now c.requires.ready c.requires.joins c.in-Listed.is c.as_slice.ensures))

pub is_in-returns-in-Listed : goal.is_in-returns-in-Listed
is_in-returns-in-Listed g t c = Steps.items_found (g.R.Reading.told c.args.reading.now) c.args.value.now c.args.right.now c.in-Listed.info c.in-Listed.is_field c.in-Listed.items c.as_slice.result.now c.is_item.result c.in-Listed.is c.as_slice.ensures c.is_item.ensures

pub is_in-returns-in-Constant : goal.is_in-returns-in-Constant
is_in-returns-in-Constant g t c = Steps.nowhere (g.R.Reading.told c.args.reading.now) c.args.value.now c.args.right.now c.in-Constant.is

pub is_in-returns-in-Constant-2 : goal.is_in-returns-in-Constant-2
is_in-returns-in-Constant-2 g t c = Steps.nowhere (g.R.Reading.told c.args.reading.now) c.args.value.now c.args.right.now c.in-Constant.is

pub is_in-returns-in-Constant-3 : goal.is_in-returns-in-Constant-3
is_in-returns-in-Constant-3 g t c = Steps.nowhere (g.R.Reading.told c.args.reading.now) c.args.value.now c.args.right.now c.in-Constant.is

pub is_in-returns-in-Constant-4 : goal.is_in-returns-in-Constant-4
is_in-returns-in-Constant-4 g t c = Steps.nowhere (g.R.Reading.told c.args.reading.now) c.args.value.now c.args.right.now c.in-Constant.is

pub is_in-returns-in-Constant-5 : goal.is_in-returns-in-Constant-5
is_in-returns-in-Constant-5 g t c = Steps.nowhere (g.R.Reading.told c.args.reading.now) c.args.value.now c.args.right.now c.in-Constant.is

pub is_in-returns-in-Constant-6 : goal.is_in-returns-in-Constant-6
is_in-returns-in-Constant-6 g t c = Steps.nowhere (g.R.Reading.told c.args.reading.now) c.args.value.now c.args.right.now c.in-Constant.is

pub is_in-returns-in-Constant-7 : goal.is_in-returns-in-Constant-7
is_in-returns-in-Constant-7 g t c = Steps.nowhere (g.R.Reading.told c.args.reading.now) c.args.value.now c.args.right.now c.in-Constant.is

pub is_in-returns-in-Constant-8 : goal.is_in-returns-in-Constant-8
is_in-returns-in-Constant-8 g t c = Steps.nowhere (g.R.Reading.told c.args.reading.now) c.args.value.now c.args.right.now c.in-Constant.is

pub is_in-returns-in-Constant-9 : goal.is_in-returns-in-Constant-9
is_in-returns-in-Constant-9 g t c = Steps.nowhere (g.R.Reading.told c.args.reading.now) c.args.value.now c.args.right.now c.in-Constant.is

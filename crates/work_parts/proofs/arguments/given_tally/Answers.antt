use Rattle.std.proofs.Common.{◌+◌, ap, map, refl}
use Rattle.std.proofs.lemmas.List.{drop_all}
use Rattle.dsl_tree.specs.Views.{argument_tree}
use Rattle.work_counts.specs.program_fields.Tables.{fields_in}
use Rattle.work_counts.specs.program_texts.SeenTexts.{types_in}
use Rattle.work_counts.specs.Amounts.{kept}
use Rattle.work_counts.proofs.Sums.{counted_all, counted_init, counted_more}
use Rattle.work_parts.specs.Arguments.{arguments_amount}
use Rattle.work_parts.proofs.ArgumentSteps.{from_place, place_split}
use Rattle.work_parts.proofs.arguments.given_tally.Goals as goal

pub loop-place-init : goal.loop-place-init
loop-place-init c =
    let amount = arguments_amount (types_in c.args.texts.now).table c.args.of (fields_in c.args.fields.now) 0 (map argument_tree c.args.arguments.now) in
    counted_init c.none-all.result amount amount c.none-all.ensures refl

pub loop-place-preserved : goal.loop-place-preserved
loop-place-preserved c =
    let table = (types_in c.args.texts.now).table in
    let fields = fields_in c.args.fields.now in
    let arguments = c.args.arguments.now in
    counted_more c.loop-place.all c.in_ok-own.own c.with-all.result (from_place table c.args.of fields arguments c.loop-place.place) (from_place table c.args.of fields arguments (c.loop-place.place + 1))
    (from_place table c.args.of fields arguments 0) c.loop-place.invariant c.with-all.ensures
    (place_split table c.args.of fields arguments c.loop-place.place c.index-arguments-place.result c.in_ok-own.own c.loop-place-test.true c.index-arguments-place.is c.in_ok-own.ensures)

pub returns : goal.returns
returns c =
    let table = (types_in c.args.texts.now).table in
    let fields = fields_in c.args.fields.now in
    let arguments = c.args.arguments.now in
    counted_all c.loop-place.all (from_place table c.args.of fields arguments c.loop-place.place) (from_place table c.args.of fields arguments 0) c.loop-place.invariant
    (ap (λ xs. kept (arguments_amount table c.args.of fields c.loop-place.place (map argument_tree xs))) (drop_all c.loop-place.place arguments c.loop-place-test.false))

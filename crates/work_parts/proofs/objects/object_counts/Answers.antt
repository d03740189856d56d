use Rattle.std.proofs.Common.{◌∙◌, ◌<◌, ◌^◌, arith, sym}
use Rattle.work_counts.specs.program_texts.SeenTexts.{types_in}
use Rattle.work_parts.proofs.Nodes.{object_is, vehicle_is}
use Rattle.work_parts.proofs.objects.object_counts.Goals as goal

pub returns-then-not-is_vehicle : goal.returns-then-not-is_vehicle
returns-then-not-is_vehicle c = λ path guards bindings.
    c.with_own.ensures
    ∙ object_is (types_in c.args.texts.now) c.args.steps path c.args.of guards bindings c.args.last c.object_tally-own.result (c.object_tally-own.ensures path)
    (sym c.is_vehicle.ensures ∙ c.if-not-is_vehicle.true)

pub returns : goal.returns
returns c = λ path guards bindings.
    let few : c.args.last < 2 ^ 32 = omega arith in
    c.with_own-2.ensures
    ∙ vehicle_is (types_in c.args.texts.now) c.args.steps path c.args.of guards bindings c.args.last c.object_tally-own.result (c.object_tally-own.ensures path)
    c.ticks_to-ticks.result c.ticks_to-ticks.ensures few (sym c.is_vehicle.ensures ∙ c.if-not-is_vehicle.false)

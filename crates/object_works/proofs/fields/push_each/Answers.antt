use Rattle.std.proofs.Common.{◌++◌, flat_map, map}
use Rattle.scene_expansion.specs.composition.SeenParts.{seen_binding}
use Rattle.scene_expansion.specs.expansion_laws.Works.{field_works}
use Rattle.program_texts.specs.program_fields.SeenFields.{seen_field}
use Rattle.program_texts.specs.SeenTexts.{types_in}
use Rattle.scene_expansion.specs.SeenWorks.{seen_work}
use Rattle.object_works.proofs.WorkParts.{each_more}
use Rattle.object_works.proofs.fields.push_each.Goals as goal

pub loop-field-preserved : goal.loop-field-preserved
loop-field-preserved c =
    let works = field_works c.args.within.now.steps (types_in c.args.texts.now) (map seen_binding c.args.within.now.bindings.now) c.args.within.now.object.now c.args.within.now.of c.args.within.now.guards.now in
    each_more works seen_field c.args.fields.now c.loop-field.field-index c.field-item.result (map seen_work c.loop-field.into.items) (map seen_work c.push_field.new.into.items)
    (map seen_work c.args.into.now.items ++ flat_map works (map seen_field c.args.fields.now)) c.loop-field-test.true c.field-item.is c.in_ok-push_field.ensures c.loop-field.invariant

use Rattle.std.proofs.Common.{◌≡◌, ◌++◌, drop, flat_map, map}
use Rattle.scene_expansion.specs.composition.SeenParts.{seen_binding}
use Rattle.scene_expansion.specs.expansion_laws.Works.{field_works}
use Rattle.program_texts.specs.program_fields.SeenFields.{seen_field}
use Rattle.program_texts.specs.SeenTexts.{types_in}
use Rattle.scene_expansion.specs.SeenWorks.{seen_work}
use Rattle.object_works.proofs.fields.push_each.Given as goal

abbrev pub invariant-loop-field : goal.invariant-loop-field
invariant-loop-field l =
    map seen_work l.into.items ++ flat_map (field_works l.within.steps (types_in l.texts) (map seen_binding l.within.bindings.now) l.within.object.now l.within.of l.within.guards.now) (map seen_field (drop l.field-index l.fields))
    ≡ map seen_work l.fn.into.items ++ flat_map (field_works l.within.steps (types_in l.texts) (map seen_binding l.within.bindings.now) l.within.object.now l.within.of l.within.guards.now) (map seen_field l.fields)

use Rattle.std.proofs.Common.{◌∙◌, ◌++◌, [], ap, flat_map, map, slice_index_or}
use Rattle.program_texts.specs.composition.SeenParts.{seen_occurrence}
use Rattle.program_texts.specs.composition.SeenScenes.{seen_scene}
use Rattle.expr_nodes.specs.type_heads.Members.{members}
use Rattle.program_texts.specs.type_members.Listed.{seen_listed, seen_row}
use Rattle.program_texts.specs.type_members.Shared.{fronts_in}
use Rattle.program_texts.proofs.of_program_fields.Fronts.{all_left, own_at, own_left}
use Rattle.program_texts.specs.SeenTexts.{types_in}
use Rattle.text_constraints.specs.OwnTexts.{listed_kept}
use Rattle.text_constraints.proofs.ListSteps.{put_last}
use Rattle.text_constraints.proofs.PartSteps.{part_more}
use Rattle.text_constraints.proofs.members.push_parts.Goals as goal

pub loop-part-init : goal.loop-part-init
loop-part-init c =
    let ts = types_in c.args.texts.now in
    let of = c.args.standing.now.of in
    let give = listed_kept ts (seen_scene c.args.standing.now.scene.now).bindings c.args.standing.now.object.now of in
    let rows = c.lists-lists.result.now.rows.items in
    ap (λ ms. map seen_occurrence c.args.into.now.items ++ flat_map give ms)
    (all_left (map seen_row rows) c.span-span.result (λ ms. ms) (fronts_in rows) c.front-part-items.result.now c.front-part-items.ensures
    ∙ c.span-span.ensures ∙ ap (λ all. slice_index_or all of []) c.lists-lists.ensures)

pub loop-part-preserved : goal.loop-part-preserved
loop-part-preserved c =
    let ts = types_in c.args.texts.now in
    let give = listed_kept ts (seen_scene c.args.standing.now.scene.now).bindings c.args.standing.now.object.now c.args.standing.now.of in
    let old = map seen_occurrence c.args.into.now.items in
    part_more give (map seen_row c.lists-lists.result.now.rows.items) c.span-span.result c.front-part-items.result.now c.loop-part.part-index _ c.loop-part-test.true (map seen_listed c.part.result.now) (map seen_occurrence c.loop-part.into.items) (map seen_occurrence c.push_members.new.into.items)
    (old ++ flat_map give (members ts c.args.standing.now.of)) c.part.ensures c.in_ok-push_members.ensures c.loop-part.invariant

pub returns : goal.returns
returns c =
    let ts = types_in c.args.texts.now in
    let give = listed_kept ts (seen_scene c.args.standing.now.scene.now).bindings c.args.standing.now.object.now c.args.standing.now.of in
    let old = map seen_occurrence c.args.into.now.items in
    let mid = map seen_occurrence c.loop-part.into.items in
    let rows = map seen_row c.lists-lists.result.now.rows.items in
    let before = own_left rows c.span-span.result c.front-part-items.result.now c.loop-part.part-index (λ ms. mid ++ flat_map give ms)
    (old ++ flat_map give (members ts c.args.standing.now.of)) c.loop-part-test.false c.loop-part.invariant in
    put_last give mid (map seen_occurrence c.push_members-2.new.into.items) (old ++ flat_map give (members ts c.args.standing.now.of))
    (map seen_listed c.own.result.now) (own_at rows c.span-span.result) c.own.ensures c.in_ok-push_members-2.ensures before

use Rattle.std.proofs.Common.{◌∷◌, [], ap, codes, map, option_to_list, refl, sym}
use Rattle.text_constraints.specs.composition.Expanded.{occurrence_of}
use Rattle.text_constraints.specs.composition.Expansion.{argument_named, given_duration}
use Rattle.scene_expansion.specs.expansion_laws.WorkNodes.{own_within}
use Rattle.text_constraints.specs.composition.SeenParts.{seen_occurrence}
use Rattle.text_constraints.specs.composition.SeenScenes.{seen_scene}
use Rattle.dsl_tree.specs.Views.{argument_tree, expr_tree, part_tree}
use Rattle.text_constraints.specs.program_texts.SeenTexts.{types_in}
use Rattle.scene_expansion.specs.SeenWorks.{seen_call, seen_work}
use Rattle.work_constraints.specs.CallTexts.{invoke_kept}
use Rattle.work_constraints.proofs.InvocationTexts.{given_by, invoke_is}
use Rattle.work_constraints.proofs.works.push_occurrences.Goals as goal

pub returns-in-Object : goal.returns-in-Object
returns-in-Object c =
    let ts = types_in c.args.texts.now in
    let bindings = (seen_scene c.args.scene.now).bindings in
    given_by ts bindings (seen_work c.args.work.now) _ (map (occurrence_of bindings) (own_within c.in-Object.steps ts c.in-Object.path c.in-Object.of))
    (map seen_occurrence c.args.occurrences.now.items) (map seen_occurrence c.push_own.new.into.items) c.push_own.result
    (ap seen_work c.in-Object.is) refl c.push_own.ensures

pub returns-in-Comp : goal.returns-in-Comp
returns-in-Comp c =
    let ts = types_in c.args.texts.now in
    let bindings = (seen_scene c.args.scene.now).bindings in
    given_by ts bindings (seen_work c.args.work.now) _ (map (occurrence_of bindings) (map (given_duration ts (seen_call c.in-Comp.call)) (option_to_list (argument_named (codes "duration") (map argument_tree c.in-Comp.node.now.arguments)))))
    (map seen_occurrence c.args.occurrences.now.items) (map seen_occurrence c.push_comp.new.into.items) c.push_comp.result
    (ap seen_work c.in-Comp.is) refl c.push_comp.ensures

pub returns-in-Invoke : goal.returns-in-Invoke
returns-in-Invoke c =
    let ts = types_in c.args.texts.now in
    let bindings = (seen_scene c.args.scene.now).bindings in
    given_by ts bindings (seen_work c.args.work.now) _ (invoke_kept ts bindings (seen_call c.in-Invoke.call) c.in-Invoke.of (map argument_tree c.in-Invoke.node.now.arguments) (map part_tree c.in-Invoke.node.now.parts))
    (map seen_occurrence c.args.occurrences.now.items) (map seen_occurrence c.push_invoked.new.into.items) c.push_invoked.result
    (ap seen_work c.in-Invoke.is) (sym (invoke_is ts bindings (seen_call c.in-Invoke.call) c.in-Invoke.of (map argument_tree c.in-Invoke.node.now.arguments) (map part_tree c.in-Invoke.node.now.parts))) c.push_invoked.ensures

pub returns-in-Wait : goal.returns-in-Wait
returns-in-Wait c =
    let ts = types_in c.args.texts.now in
    let bindings = (seen_scene c.args.scene.now).bindings in
    given_by ts bindings (seen_work c.args.work.now) _ (occurrence_of bindings (given_duration ts (seen_call c.in-Wait.call) (expr_tree c.in-Wait.node.now.elapsed)) ∷ [])
    (map seen_occurrence c.args.occurrences.now.items) (map seen_occurrence c.push_stated.new.into.items) c.push_stated.result
    (ap seen_work c.in-Wait.is) refl c.push_stated.ensures

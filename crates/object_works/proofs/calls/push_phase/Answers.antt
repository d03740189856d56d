use Rattle.std.proofs.Common.{◌∙◌, ◌++◌, ap, map, sym}
use Rattle.std.proofs.lemmas.List.{map-append}
use Rattle.dsl_tree.specs.Views.{phase_tree}
use Rattle.scene_expansion.specs.expansion_laws.Works.{phase_works}
use Rattle.program_texts.specs.SeenTexts.{types_in}
use Rattle.scene_expansion.specs.SeenWorks.{seen_call, seen_work}
use Rattle.object_works.proofs.WorkParts.{comp_works, wait_works}
use Rattle.object_works.proofs.calls.push_phase.Goals as goal

pub returns-in_ok-push-in-Comp : goal.returns-in_ok-push-in-Comp
returns-in_ok-push-in-Comp c =
    ap (map seen_work) c.in_ok-push-in-Comp.ensures.items ∙ map-append seen_work c.args.into.now.items _
    ∙ ap (λ ws. map seen_work c.args.into.now.items ++ ws)
    (comp_works c.args.steps (types_in c.args.texts.now) (seen_call c.args.call) c.in-Comp.node ∙ ap (λ p. phase_works c.args.steps (types_in c.args.texts.now) (seen_call c.args.call) (phase_tree p)) (sym c.in-Comp.is))

pub returns-in_ok-push-in-Wait : goal.returns-in_ok-push-in-Wait
returns-in_ok-push-in-Wait c =
    ap (map seen_work) c.in_ok-push-in-Wait.ensures.items ∙ map-append seen_work c.args.into.now.items _
    ∙ ap (λ ws. map seen_work c.args.into.now.items ++ ws)
    (wait_works c.args.steps (types_in c.args.texts.now) (seen_call c.args.call) c.in-Wait.node ∙ ap (λ p. phase_works c.args.steps (types_in c.args.texts.now) (seen_call c.args.call) (phase_tree p)) (sym c.in-Wait.is))

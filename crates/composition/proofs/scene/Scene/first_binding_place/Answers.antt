use Rattle.std.proofs.Common.{◌∙◌, sym, ap, take, get_or}
use Rattle.std.proofs.lemmas.List.{take_more}
use Rattle.keep_rules.specs.path_index.Places.{first_place}
use Rattle.composition.specs.SeenHomes.{leads, least_place}
use Rattle.composition.proofs.HomeSteps.{first_root, first_longer, more_steps}
use Rattle.composition.proofs.scene.Scene.first_binding_place.Goals as goal

pub loop-step-init : goal.loop-step-init
loop-step-init c =
    (c.new.ensures, c.get-first.ensures ∙ first_root c.args.self.now.part_indexes.bindings c.args.self.now.bindings (record { steps = c.new.result }) c.args.self.now.bindings_at c.new.ensures)

pub loop-step-preserved : goal.loop-step-preserved
loop-step-preserved c =
    let items = c.as_slice-step-items.result.now in
    let i = c.loop-step.step-index in
    let one = take_more items i c.step-item.result c.loop-step-test.true in
    let more = more_steps items i c.step-item.result c.in_ok-copy.field-0 c.loop-step.prefix.steps c.push.new.self c.loop-step-test.true c.step-item.is c.in_ok-copy.ensures c.loop-step.invariant.0 c.in_ok-push.ensures.ok in (
      more,
      c.least_place-first.ensures ∙ ap (least_place c.loop-step.first) c.get.ensures
          ∙ first_longer c.args.self.now.part_indexes.bindings c.args.self.now.bindings (record { steps = c.push.new.self }) (take i items) (get_or items i c.step-item.result) c.loop-step.first
          c.args.self.now.bindings_at (more ∙ one) c.loop-step.invariant.1
          ∙ ap (λ z. first_place (leads z) 0 c.args.self.now.bindings) (sym one),
    )

use Rattle.std.proofs.Common.{◌∙◌, sym, ap, map}
use Rattle.std.specs.List.{list_all}
use Rattle.scene_conditions.specs.composition.SeenParts.{seen_occurrence}
use Rattle.scene_conditions.specs.composition.Scenes.{Scene, Occurrence}
use Rattle.run_values.specs.SeenNumbers.{scene_in, run_in}
use Rattle.run_values.proofs.Rows.{all_first, all_later, later}
use Rattle.run_constraints.specs.FirstConstraints.{first_default, is_sound_part}
use Rattle.run_constraints.proofs.Sound.{sound_occurrences}
use Rattle.run_constraints.proofs.Overridden.{default_later, default_first}
use Rattle.run_constraints.proofs.defaults.first_failing.Goals as goal

pub loop-rest-init : goal.loop-rest-init
loop-rest-init c =
    let e = c.occurrences-rest.ensures ∙ ap (λ (s : Scene). s.occurrences) c.scene.ensures in (
      ap (first_default (scene_in c.args.numbers.now) (run_in c.args.numbers.now) 0) e,
      ap (list_all (λ (o : Occurrence). is_sound_part (scene_in c.args.numbers.now) o.typed)) e ∙ sound_occurrences (scene_in c.args.numbers.now) c.args.numbers.now.within.is_scene,
    )

pub fails-requires-clause-sound : goal.fails-requires-clause-sound
fails-requires-clause-sound c =
    all_first seen_occurrence (λ (o : Occurrence). is_sound_part (scene_in c.args.numbers.now) o.typed) c.loop-rest.rest.now c.constraint-item.result
    c.in-len1-up.len_at_least c.constraint-item.is c.loop-rest.invariant.1

pub returns-then-failed : goal.returns-then-failed
returns-then-failed c =
    default_first (scene_in c.args.numbers.now) (run_in c.args.numbers.now) c.loop-rest.number c.loop-rest.rest.now c.constraint-item.result
    c.in-len1-up.len_at_least c.constraint-item.is (sym c.in_ok-failed.ensures ∙ c.if-failed.true)
    ∙ c.loop-rest.invariant.0

pub loop-rest-preserved : goal.loop-rest-preserved
loop-rest-preserved c = (
  ap (λ n. first_default (scene_in c.args.numbers.now) (run_in c.args.numbers.now) n (map seen_occurrence (later c.loop-rest.rest.now))) c.in_ok-number.ensures
      ∙ default_later (scene_in c.args.numbers.now) (run_in c.args.numbers.now) c.loop-rest.number c.loop-rest.rest.now c.constraint-item.result
      c.in-len1-up.len_at_least c.constraint-item.is (sym c.in_ok-failed.ensures ∙ c.if-failed.false)
      ∙ c.loop-rest.invariant.0,
  all_later seen_occurrence (λ (o : Occurrence). is_sound_part (scene_in c.args.numbers.now) o.typed) c.loop-rest.rest.now c.constraint-item.result
      c.in-len1-up.len_at_least c.constraint-item.is c.loop-rest.invariant.1,
)

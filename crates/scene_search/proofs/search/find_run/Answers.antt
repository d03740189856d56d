use Rattle.std.proofs.Common.{subst}
use Rattle.flat_forms.specs.composition.SeenScenes.{seen_scene}
use Rattle.scene_search.specs.Choices.{choice_of}
use Rattle.scene_search.specs.Outcomes.{IsOutcome}
use Rattle.scene_search.proofs.Found.{reached_run, scene_refutation, spent_record}
use Rattle.scene_search.proofs.search.find_run.Goals as goal

pub search_by_plan-requires-clause-flat : goal.search_by_plan-requires-clause-flat
search_by_plan-requires-clause-flat c = c.in_ok-flat.ensures.flat

pub returns-in-Point : goal.returns-in-Point
returns-in-Point c =
    reached_run (seen_scene c.args.scene.now) c.in_ok-flat.flat c.args.seed c.args.cuts c.in-Point.point.values c.in_ok-run_of-in-Point.field-0 c.requires.expanded c.in_ok-flat.ensures.form
    (subst (IsOutcome (choice_of (seen_scene c.args.scene.now) c.args.seed) c.args.cuts c.in_ok-flat.flat) c.in-Point.is c.in_ok-point.ensures) c.in_ok-run_of-in-Point.ensures

pub returns-in-Refuted : goal.returns-in-Refuted
returns-in-Refuted c =
    scene_refutation (seen_scene c.args.scene.now) c.in_ok-flat.flat c.args.seed c.args.cuts c.in-Refuted.record c.requires.expanded c.in_ok-flat.ensures.form
    (subst (IsOutcome (choice_of (seen_scene c.args.scene.now) c.args.seed) c.args.cuts c.in_ok-flat.flat) c.in-Refuted.is c.in_ok-point.ensures)

pub returns : goal.returns
returns c =
    spent_record (seen_scene c.args.scene.now) c.in_ok-flat.flat c.args.seed c.args.cuts c.in-Undecided.record c.in_ok-flat.ensures.form
    (subst (IsOutcome (choice_of (seen_scene c.args.scene.now) c.args.seed) c.args.cuts c.in_ok-flat.flat) c.in-Undecided.is c.in_ok-point.ensures)

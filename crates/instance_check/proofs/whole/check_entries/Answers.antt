use Rattle.std.proofs.Common.{◌∙◌, sym}
use Rattle.run_check.specs.composition.SeenScenes.{seen_scene}
use Rattle.run_constraints.specs.run_entries.SeenRuns.{seen_run}
use Rattle.instance_check.proofs.Inside.{ended, bounded, found, passed_ok}
use Rattle.instance_check.proofs.whole.check_entries.Goals as goal

pub after_outer-requires-clause-ended : goal.after_outer-requires-clause-ended
after_outer-requires-clause-ended c = ended (seen_scene c.args.scene.now) (seen_run c.args.run.now) (sym c.in-None.is ∙ c.in_ok-outer.ensures)

pub after_outer-requires-clause-bounded : goal.after_outer-requires-clause-bounded
after_outer-requires-clause-bounded c = bounded (seen_scene c.args.scene.now) (seen_run c.args.run.now) (sym c.in-None.is ∙ c.in_ok-outer.ensures)

pub returns-in-Some : goal.returns-in-Some
returns-in-Some c = found (seen_scene c.args.scene.now) (seen_run c.args.run.now) c.in-Some.wrong (sym c.in-Some.is ∙ c.in_ok-outer.ensures)

pub returns-in-None : goal.returns-in-None
returns-in-None c = passed_ok (seen_scene c.args.scene.now) (seen_run c.args.run.now) c.after_outer.result (sym c.in-None.is ∙ c.in_ok-outer.ensures) c.after_outer.ensures

use Rattle.std.proofs.Common.{◌∙◌, ap}
use Rattle.seeded_search.specs.declared.work.Work.{Work}
use Rattle.seeded_search.proofs.Decidings.{go_back_runs}
use Rattle.seeded_search.proofs.course.enter_other.Goals as goal

pub returns-clause-entered : goal.returns-clause-entered
returns-clause-entered c = record {
  runs = go_back_runs c.args.task.now c.args.decision c.args.work.now c.args.trail.now c.args.ring.now c.requires
      c.unmark_to.new.self c.undo_to.new.self c.enter_second.new.trail c.empty.new.ring c.wake.new.ring c.unmark_to.ensures c.undo_to.ensures c.enter_second.ensures c.empty.ensures.items (c.wake.ensures.bound ∙ c.empty.ensures.bound) c.wake.ensures.woken;
  decisions = ap (λ (v : Work). v.decisions) c.unmark_to.ensures;
  made = ap (λ (v : Work). v.made) c.unmark_to.ensures;
}

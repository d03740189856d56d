use Rattle.std.proofs.Common.{subst, sym}
use Rattle.seeded_search.specs.declared.work.Work.{Work}
use Rattle.seeded_search.specs.Runs.{IsShut}
use Rattle.seeded_search.proofs.Decidings.{shut_by_rule}
use Rattle.seeded_search.proofs.course.close.Goals as goal

pub leave-requires : goal.leave-requires
leave-requires c = subst (λ (v : Work). IsShut c.args.task.now v c.args.trail.now c.args.ring.now) (sym c.note.ensures)
    (shut_by_rule c.args.task.now c.args.work.now c.args.trail.now c.args.ring.now _ c.requires.runs c.args.number c.requires.closes)

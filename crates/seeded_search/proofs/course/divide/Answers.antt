use Rattle.std.proofs.Common.{◌≡◌, ◌∙◌, ap, subst, List, ℕ}
use Rattle.seeded_search.specs.declared.work.Work.{Work}
use Rattle.seeded_search.specs.Listed.{rules_at}
use Rattle.seeded_search.specs.Waking.{IsWokenFrom}
use Rattle.seeded_search.proofs.Decidings.{decision_there, decision_after, decide_runs}
use Rattle.seeded_search.proofs.course.divide.Goals as goal

pub wake-requires-clause-slot : goal.wake-requires-clause-slot
wake-requires-clause-slot c = decision_there c.args.task.now c.args.work.now c.args.trail.now c.args.ring.now c.requires.runs c.wished-cut.result c.wished-cut.ensures.cuts

pub returns-clause-slot : goal.returns-clause-slot
returns-clause-slot c = decision_after c.args.task.now c.args.work.now c.args.trail.now c.args.ring.now c.requires.runs c.wished-cut.result c.wished-cut.ensures.cuts c.enter_first.new.trail c.enter_first.ensures

pub returns-clause-goes_on : goal.returns-clause-goes_on
returns-clause-goes_on c =
    let marks : c.count_cut.new.self.marks.listed ≡ c.args.work.now.marks.listed =
    ap (λ (v : Work). v.marks.listed) c.count_cut.ensures ∙ (ap (λ (v : Work). v.marks.listed) c.leave.ensures ∙ (ap (λ (v : Work). v.marks.listed) c.note.ensures ∙ ap (λ (v : Work). v.marks.listed) c.draw.ensures.count)) in
    decide_runs c.args.task.now c.args.work.now c.args.trail.now c.args.ring.now c.requires.runs c.wished-cut.result c.wished-cut.ensures.cuts c.args.entry.now c.requires.entry c.draw.result c.wished-cut.ensures.is
    c.requires.empty c.requires.room c.draw.ensures.number c.wake.new.ring c.wake.ensures.bound
    (subst (λ (m : List ℕ). IsWokenFrom (rules_at c.args.task.now.lists.now c.wished-cut.result.slot) m c.args.ring.now.items c.wake.new.ring.items) marks c.wake.ensures.woken)
    c.cut_line.result c.draw.new.self c.note.new.self c.leave.new.self c.count_cut.new.self c.mark.result c.mark-2.result c.enter_first.new.trail
    c.draw.ensures.count c.cut_line.ensures c.note.ensures c.mark.ensures.mark c.leave.ensures c.count_cut.ensures c.enter_first.ensures c.mark-2.ensures.mark

use Rattle.std.proofs.Common.{◌≡◌, ◌∙◌, ap, subst, List, ℕ}
use Rattle.seeded_search.specs.declared.work.Work.{Work}
use Rattle.seeded_search.specs.Listed.{rules_at}
use Rattle.seeded_search.specs.Waking.{IsWokenFrom}
use Rattle.seeded_search.proofs.Narrowings.{cut_off}
use Rattle.seeded_search.proofs.turns.narrow_to.Goals as goal

pub returns : goal.returns
returns c =
    let marks : c.count_cut.new.self.marks.listed ≡ c.args.work.now.marks.listed =
    ap (λ (v : Work). v.marks.listed) c.count_cut.ensures ∙ (ap (λ (v : Work). v.marks.listed) (c.remember.ensures ∙ c.note-2.ensures) ∙ ap (λ (v : Work). v.marks.listed) c.note.ensures) in
    cut_off c.args.task.now c.args.work.now c.args.trail.now c.args.ring.now c.args.number c.args.cut c.requires.runs c.requires.number c.requires.room c.requires.slot c.requires.longest
    c.wake.new.ring c.wake.ensures.bound
    (subst (λ (m : List ℕ). IsWokenFrom (rules_at c.args.task.now.lists.now c.args.cut.slot) m c.args.ring.now.items c.wake.new.ring.items) marks c.wake.ensures.woken)
    c.cut_line.result c.note.new.self c.remember.new.self c.count_cut.new.self c.mark.result c.enter_second.new.trail
    c.cut_line.ensures c.note.ensures (c.remember.ensures ∙ c.note-2.ensures) c.count_cut.ensures c.enter_second.ensures c.mark.ensures.mark

use Rattle.seeded_search.proofs.Working.{rule_there}
use Rattle.seeded_search.proofs.Turnings.{open_over, over_same, cut_turn, spent_turn}
use Rattle.seeded_search.proofs.turns.take_open_turn.Goals as goal

pub returns-in-None : goal.returns-in-None
returns-in-None c =
    let r = rule_there c.args.task.now.flat.now.rules c.args.number c.requires.number in
    over_same c.args.task.now c.args.number _ _ _ _ _ _ c.in-None.ensures.0
    (open_over c.args.task.now c.args.work.now c.args.trail.now c.args.ring.now c.args.number c.requires.runs r.0 r.1 c.requires.unclosed c.in-None.ensures.1)

pub returns-in-Cut : goal.returns-in-Cut
returns-in-Cut c = cut_turn c.args.task.now c.args.number c.args.work.now c.args.trail.now c.args.ring.now _ _ _ c.in-Cut.ensures

pub returns-in-Spent : goal.returns-in-Spent
returns-in-Spent c = spent_turn c.args.task.now c.args.number c.args.work.now c.args.trail.now c.args.ring.now _ _ c.sweep.new.ring _ c.in-Spent.ensures c.add.ensures.bound c.add.ensures.added

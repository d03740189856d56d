use Rattle.std.proofs.Common.{sym, ◌∙◌}
use Rattle.seeded_search.proofs.Working.{rule_there, all_fit}
use Rattle.seeded_search.proofs.Turnings.{true_over, false_closed}
use Rattle.seeded_search.proofs.turns.take_turn.Goals as goal

pub verdict_here-requires-clause-fit : goal.verdict_here-requires-clause-fit
verdict_here-requires-clause-fit c = all_fit c.args.task.now c.args.work.now c.args.trail.now c.args.ring.now _ c.requires.runs

pub returns-in-False : goal.returns-in-False
returns-in-False c =
    let r = rule_there c.args.task.now.flat.now.rules c.args.number c.requires.number in
    false_closed c.args.task.now c.args.work.now c.args.trail.now c.args.ring.now c.args.number c.requires.runs r.0 r.1 (sym (c.verdict_here.ensures r.0 r.1) ∙ c.in-False.is)

pub returns-in-True : goal.returns-in-True
returns-in-True c =
    let r = rule_there c.args.task.now.flat.now.rules c.args.number c.requires.number in
    true_over c.args.task.now c.args.work.now c.args.trail.now c.args.ring.now c.args.number c.requires.runs r.0 r.1 (sym (c.verdict_here.ensures r.0 r.1) ∙ c.in-True.is) c.retire.new.self c.retire.ensures

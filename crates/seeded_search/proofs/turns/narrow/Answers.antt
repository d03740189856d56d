use Rattle.std.proofs.Common.{◌≡◌, ◌∙◌, to_z, of_z, w64, rules}
use Rattle.seeded_search.proofs.Working.{probe}
use Rattle.seeded_search.proofs.Narrowings.{is_longest, stuck}
use Rattle.seeded_search.proofs.turns.narrow.Goals as goal

pub longest-requires : goal.longest-requires
longest-requires c = probe c.args.task.now c.args.work.now c.args.trail.now c.args.ring.now _ c.requires.runs c.args.number c.rule_at.result.now c.args.slot c.rule_at.ensures c.requires.slot

pub returns-then-work-task : goal.returns-then-work-task
returns-then-work-task c =
    let found = c.in-Some.ensures in
    stuck c.args.task.now c.args.work.now c.args.trail.now c.args.ring.now c.args.number c.requires.runs c.rule_at.result.now c.rule_at.ensures c.args.slot c.requires.slot c.args.side found.0 found.2 c.if-work-task.true

pub cut_off-requires-clause-longest : goal.cut_off-requires-clause-longest
cut_off-requires-clause-longest c =
    let found = c.in-Some.ensures in
    let same : to_z w64 (of_z w64 c.in-Some.value) ≡ c.in-Some.value = search rules in
    is_longest c.args.task.now c.args.work.now c.args.trail.now c.args.ring.now c.args.number c.requires.runs c.rule_at.result.now c.rule_at.ensures c.args.slot c.requires.slot c.args.side found.0 found.2 _ (same ∙ found.1)

use Rattle.std.proofs.Common.{◌∙◌, ap}
use Rattle.bound_trail.specs.History.{present}
use Rattle.search_laws.specs.record_trees.Record.{is_false}
use Rattle.seeded_search.proofs.Probes.{can_judge_pair, part_verdict}
use Rattle.seeded_search.proofs.halving.is_false_on.Goals as goal

pub judge-requires-clause-reach : goal.judge-requires-clause-reach
judge-requires-clause-reach c =
    (can_judge_pair (present c.args.trail.now) c.args.rule.now c.args.slot c.args.side c.args.count c.requires.probe c.requires.part _ _ c.requires.ends c.part_pair-pair.ensures).reach

pub returns : goal.returns
returns c = c.matches_false.ensures ∙ (ap is_false c.judge.ensures.verdict
    ∙ part_verdict (present c.args.trail.now) c.args.rule.now c.args.slot c.args.side c.args.count c.requires.probe c.requires.part _ _ c.requires.ends c.part_pair-pair.ensures)

use Rattle.seeded_search.proofs.Searches.{some_picks, faced_answer}
use Rattle.seeded_search.proofs.searching.search.Goals as goal

pub returns-then-not-is_empty-clause-refuted : goal.returns-then-not-is_empty-clause-refuted
returns-then-not-is_empty-clause-refuted c =
    faced_answer _ c.args.cuts c.args.flat.now c.args.desk.sum c.summed.result c.args.trail.now c.requires.desk.faced
    (some_picks c.as_slice.result.now c.args.desk.sum c.is_empty.result c.is_empty.ensures c.if-not-is_empty.true c.as_slice.ensures) c.summed.ensures c.requires.trail

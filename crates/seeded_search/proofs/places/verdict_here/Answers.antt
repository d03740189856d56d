use Rattle.box_eval.proofs.Fits.{fits_at}
use Rattle.seeded_search.proofs.places.verdict_here.Goals as goal

pub judge-requires-clause-slots : goal.judge-requires-clause-slots
judge-requires-clause-slots c = (fits_at _ _ c.args.number _ c.requires.fit c.rule_at.ensures).slots

pub judge-requires-clause-reach : goal.judge-requires-clause-reach
judge-requires-clause-reach c = (fits_at _ _ c.args.number _ c.requires.fit c.rule_at.ensures).reach

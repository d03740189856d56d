use Rattle.record_laws.proofs.Accepting.{refutation_answer, undecided_answer}
use Rattle.record_laws.proofs.one_answer.laws.Goals as goal

pub returns-clause-refuted : goal.returns-clause-refuted
returns-clause-refuted c = refutation_answer

pub returns-clause-undecided : goal.returns-clause-undecided
returns-clause-undecided c = undecided_answer

use Rattle.std.proofs.Common.{◌∙◌, sym}
use Rattle.bound_trail.specs.History.{present}
use Rattle.seeded_search.proofs.Tries.{all_there, may_be_added}
use Rattle.seeded_search.proofs.sums.Sums.may_add.Goals as goal

pub sum_false-requires-clause-there : goal.sum_false-requires-clause-there
sum_false-requires-clause-there c = all_there c.args.flat.now.rules c.args.picks.now (sym c.are_there.ensures ∙ c.if-not-are_there.false)

pub returns-clause-may : goal.returns-clause-may
returns-clause-may c = λ fall. may_be_added c.args.flat.now (present c.args.trail.now) c.args.picks.now c.may_stand.result c.sum_false.result c.may_stand.ensures c.if-not-may_stand.false c.sum_false.ensures.verdict fall

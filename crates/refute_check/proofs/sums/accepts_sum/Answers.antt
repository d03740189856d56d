use Rattle.std.proofs.Common.{sym, ◌∙◌, subst}
use Rattle.bound_trail.specs.History.{present}
use Rattle.linear_sums.specs.Sums.{AllThere}
use Rattle.refute_check.proofs.MissingRules.{all_there, missing}
use Rattle.refute_check.proofs.sums.accepts_sum.Goals as goal

pub sum_false-requires-clause-there : goal.sum_false-requires-clause-there
sum_false-requires-clause-there c =
    subst (AllThere c.args.flat.now.rules) (sym (c.as_slice.ensures.value ∙ c.in-Some.ensures.picks)) (all_there c.args.flat.now.rules c.args.picks.now (sym c.in-Some.ensures.there))

pub returns-in-None-clause-accepts : goal.returns-in-None-clause-accepts
returns-in-None-clause-accepts c = missing c.args.flat.now (present c.args.trail.now) c.args.picks.now (sym c.in-None.ensures.there)

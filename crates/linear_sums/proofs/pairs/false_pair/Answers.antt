use Rattle.std.proofs.Common.{◌∙◌, ap₂, [], ◌∷◌, if◌then◌else◌, Some, None}
use Rattle.linear_sums.specs.declared.pick.Pick.{Pick}
use Rattle.linear_sums.specs.Linear.{is_false_sum}
use Rattle.linear_sums.specs.Twos.{facing_of}
use Rattle.linear_sums.proofs.FacingTests.{none_added, pair_found}
use Rattle.linear_sums.proofs.pairs.false_pair.Goals as goal

pub returns-in-Some-clause-found : goal.returns-in-Some-clause-found
returns-in-Some-clause-found c =
    let flat = c.args.flat.now in
    pair_found flat c.args.c.now c.args.d.now c.requires.first c.requires.second c.requires.same_one c.requires.same_other c.in-Some.times c.in-Some.ensures c.requires.before c.tested.result
    (c.tested.ensures.found ∙ ap₂ (λ (p q : Pick). if is_false_sum flat (p ∷ q ∷ []) flat.bounds.pairs then Some (facing_of p q) else None) c.pick.ensures c.pick-in-Some.ensures)

pub returns-in-None-clause-found : goal.returns-in-None-clause-found
returns-in-None-clause-found c = none_added c.args.flat.now c.args.c.now c.args.d.now c.requires.first c.requires.second c.requires.same_one c.requires.same_other c.in-None.ensures

use Rattle.linear_sums.specs.Linear.{form_of_term}
use Rattle.linear_sums.proofs.Taking.{taken_both, sum_fits, wrapped_sum, none_less}
use Rattle.linear_sums.proofs.least.take_both.Goals as goal

pub returns : goal.returns
returns g c =
    let ends = g.E.Ends.ends c.args.ends.now in
    taken_both ends c.args.sums.now c.take-first.new.sums c.take-second.new.sums (form_of_term c.args.a.now).factor (form_of_term c.args.b.now).factor _
    c.take-first.result c.take-second.result _ c.take-first.ensures c.take-second.ensures (λ slot e f. none_less _ _ e f)
    (wrapped_sum c.take-first.result c.take-second.result (sum_fits ends _ _ _ _ _ _ _ c.take-first.ensures c.take-second.ensures c.requires.small))

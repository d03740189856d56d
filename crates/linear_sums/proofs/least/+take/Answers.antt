use Rattle.linear_sums.specs.Linear.{form_of_term}
use Rattle.linear_sums.proofs.TermParts.{of_sum, of_less, of_times}
use Rattle.linear_sums.proofs.Taking.{taken_form, taken_both, sum_fits, wrapped_sum, none_sum, none_less, none_times}
use Rattle.linear_sums.proofs.least.+take.Goals as goal

pub returns-in-Sum : goal.returns-in-Sum
returns-in-Sum g t c =
    let ends = g.E.Ends.ends c.args.ends.now in
    let x = c.get.result.now in
    let y = c.get-in-Sum.result.now in
    let j = of_sum c.args.term.now c.in-Sum.a c.in-Sum.b x y c.get.ensures c.get-in-Sum.ensures c.in-Sum.is in
    taken_form ends c.args.sums.now c.take-second.new.sums (form_of_term c.args.term.now) _ _ j.form
    (taken_both ends c.args.sums.now c.take-first.new.sums c.take-second.new.sums (form_of_term x).factor (form_of_term y).factor _
    c.take-first.result c.take-second.result _ c.take-first.ensures c.take-second.ensures (λ slot e f. none_sum _ _ e f)
    (wrapped_sum c.take-first.result c.take-second.result (sum_fits ends _ _ _ _ _ _ _ c.take-first.ensures c.take-second.ensures c.requires.small)))

pub returns-in-Less : goal.returns-in-Less
returns-in-Less g t c =
    let ends = g.E.Ends.ends c.args.ends.now in
    let x = c.get-in-Less.result.now in
    let y = c.get-in-Less-2.result.now in
    let j = of_less c.args.term.now c.in-Less.a c.in-Less.b x y c.get-in-Less.ensures c.get-in-Less-2.ensures c.in-Less.is in
    taken_form ends c.args.sums.now c.take-second-in-Less.new.sums (form_of_term c.args.term.now) _ _ j.form
    (taken_both ends c.args.sums.now c.take-first-in-Less.new.sums c.take-second-in-Less.new.sums (form_of_term x).factor (form_of_term y).factor _
    c.take-first-in-Less.result c.take-second-in-Less.result _ c.take-first-in-Less.ensures c.take-second-in-Less.ensures (λ slot e f. none_less _ _ e f)
    (wrapped_sum c.take-first-in-Less.result c.take-second-in-Less.result (sum_fits ends _ _ _ _ _ _ _ c.take-first-in-Less.ensures c.take-second-in-Less.ensures c.requires.small)))

pub returns-in-Times : goal.returns-in-Times
returns-in-Times g t c =
    let ends = g.E.Ends.ends c.args.ends.now in
    let x = c.get-in-Times.result.now in
    let y = c.get-in-Times-2.result.now in
    let j = of_times c.args.term.now c.in-Times.a c.in-Times.b x y c.get-in-Times.ensures c.get-in-Times-2.ensures c.in-Times.is in
    taken_form ends c.args.sums.now c.take-second-in-Times.new.sums (form_of_term c.args.term.now) _ _ j.form
    (taken_both ends c.args.sums.now c.take-first-in-Times.new.sums c.take-second-in-Times.new.sums (form_of_term x).factor (form_of_term y).factor _
    c.take-first-in-Times.result c.take-second-in-Times.result _ c.take-first-in-Times.ensures c.take-second-in-Times.ensures (λ slot e f. none_times (form_of_term x).fixed _ _ _ _ e f)
    (wrapped_sum c.take-first-in-Times.result c.take-second-in-Times.result (sum_fits ends _ _ _ _ _ _ _ c.take-first-in-Times.ensures c.take-second-in-Times.ensures c.requires.small)))

use Rattle.linear_sums.specs.Linear.{form_of_term}
use Rattle.linear_sums.proofs.TermParts.{of_sum, of_less, of_times}
use Rattle.linear_sums.proofs.Taking.{none_sum, none_less, none_times}
use Rattle.linear_sums.proofs.Searching.{searched_form, searched_both}
use Rattle.linear_sums.proofs.seen.+see_term.Goals as goal

pub returns-in-Sum : goal.returns-in-Sum
returns-in-Sum t c =
    let x = c.get.result.now in
    let y = c.get-in-Sum.result.now in
    let j = of_sum c.args.term.now c.in-Sum.a c.in-Sum.b x y c.get.ensures c.get-in-Sum.ensures c.in-Sum.is in
    searched_form c.args.sums.now c.see_term.new.sums (form_of_term c.args.term.now) _ _ _ j.form
    (searched_both c.args.sums.now c.see_term-first.new.sums c.see_term.new.sums (form_of_term x).factor (form_of_term y).factor _
    c.args.seen c.see_term-first.result c.see_term.result c.see_term-first.ensures c.see_term.ensures (λ slot e f. none_sum _ _ e f))

pub returns-in-Less : goal.returns-in-Less
returns-in-Less t c =
    let x = c.get-in-Less.result.now in
    let y = c.get-in-Less-2.result.now in
    let j = of_less c.args.term.now c.in-Less.a c.in-Less.b x y c.get-in-Less.ensures c.get-in-Less-2.ensures c.in-Less.is in
    searched_form c.args.sums.now c.see_term-in-Less.new.sums (form_of_term c.args.term.now) _ _ _ j.form
    (searched_both c.args.sums.now c.see_term-first-in-Less.new.sums c.see_term-in-Less.new.sums (form_of_term x).factor (form_of_term y).factor _
    c.args.seen c.see_term-first-in-Less.result c.see_term-in-Less.result c.see_term-first-in-Less.ensures c.see_term-in-Less.ensures (λ slot e f. none_less _ _ e f))

pub returns-in-Times : goal.returns-in-Times
returns-in-Times t c =
    let x = c.get-in-Times.result.now in
    let y = c.get-in-Times-2.result.now in
    let j = of_times c.args.term.now c.in-Times.a c.in-Times.b x y c.get-in-Times.ensures c.get-in-Times-2.ensures c.in-Times.is in
    searched_form c.args.sums.now c.see_term-in-Times.new.sums (form_of_term c.args.term.now) _ _ _ j.form
    (searched_both c.args.sums.now c.see_term-first-in-Times.new.sums c.see_term-in-Times.new.sums (form_of_term x).factor (form_of_term y).factor _
    c.args.seen c.see_term-first-in-Times.result c.see_term-in-Times.result c.see_term-first-in-Times.ensures c.see_term-in-Times.ensures (λ slot e f. none_times (form_of_term x).fixed _ _ _ _ e f))

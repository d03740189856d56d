use Rattle.linear_sums.specs.declared.seen.Seen.TheVariants.{Nothing}
use Rattle.linear_sums.specs.Linear.{form_of_term}
use Rattle.linear_sums.proofs.Taking.{none_less}
use Rattle.linear_sums.proofs.Searching.{searched_both}
use Rattle.linear_sums.proofs.seen.see_both.Goals as goal

pub returns : goal.returns
returns c = searched_both c.args.sums.now c.see_term-first.new.sums c.see_term.new.sums (form_of_term c.args.a.now).factor (form_of_term c.args.b.now).factor _
    Nothing c.see_term-first.result c.see_term.result c.see_term-first.ensures c.see_term.ensures (λ slot e f. none_less _ _ e f)

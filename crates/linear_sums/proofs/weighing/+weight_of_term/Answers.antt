use Rattle.std.proofs.Common.{◌∙◌}
use Rattle.linear_sums.proofs.Weights.{kept_product}
use Rattle.linear_sums.proofs.weighing.+weight_of_term.Goals as goal

pub returns-in-Times : goal.returns-in-Times
returns-in-Times t c = kept_product c.args.bounds.now.pairs c.args.term.now c.in-Times.a c.in-Times.b c.get-in-Times.result.now c.get-in-Times-2.result.now
    c.weights_multiplied.result c.in-Times.is c.get-in-Times.ensures c.get-in-Times-2.ensures
    (λ m n p q e f. c.weights_multiplied.ensures m n p q (c.weight_of_term-in-Times.ensures ∙ e) (c.weight_of_term-in-Times-2.ensures ∙ f))

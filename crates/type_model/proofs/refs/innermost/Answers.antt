use Rattle.std.proofs.Common.{◌∙◌}
use Rattle.type_model.proofs.LastNumbers.{last_is}
use Rattle.type_model.proofs.refs.innermost.Goals as goal

pub returns : goal.returns
returns c = c.copied.ensures ∙ c.last.ensures.value ∙ last_is c.args.under.now

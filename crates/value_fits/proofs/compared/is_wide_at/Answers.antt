use Rattle.expr_nodes.specs.Seen.{seen_size}
use Rattle.expr_nodes.specs.Sizes.{widened}
use Rattle.value_fits.proofs.Widened.{wide_none}
use Rattle.value_fits.proofs.compared.is_wide_at.Goals as goal

pub returns-in-None : goal.returns-in-None
returns-in-None c =
    wide_none (seen_size c.args.size.now) (widened c.args.common (seen_size c.args.end.now)) c.at_scale.result c.args.size.now.positive c.requires c.in-None.is c.at_scale.ensures

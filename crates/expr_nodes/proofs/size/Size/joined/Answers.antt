use Rattle.type_model.proofs.of_osc_base.Divisors.{lcm_above}
use Rattle.expr_nodes.proofs.Fitting.{above_if_there}
use Rattle.expr_nodes.proofs.size.Size.joined.Goals as goal

pub within-requires : goal.within-requires
within-requires c = above_if_there _ c.in_ok-common.common c.in_ok-common.ensures (lcm_above c.args.self.now.scale c.args.other.now.scale c.args.self.now.positive c.args.other.now.positive)

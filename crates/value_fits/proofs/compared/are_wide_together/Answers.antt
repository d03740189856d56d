use Rattle.expr_nodes.specs.Seen.{seen_size}
use Rattle.value_fits.proofs.Widened.{common_above, wide_ends}
use Rattle.value_fits.proofs.compared.are_wide_together.Goals as goal

pub is_wide_at-requires : goal.is_wide_at-requires
is_wide_at-requires c =
    common_above c.args.low.now.scale c.args.high.now.scale c.in-Some.common c.least_common_multiple.result c.args.low.now.positive c.args.high.now.positive c.in-Some.is c.least_common_multiple.ensures

pub is_wide_at-requires-else-is_wide_at : goal.is_wide_at-requires-else-is_wide_at
is_wide_at-requires-else-is_wide_at c =
    common_above c.args.low.now.scale c.args.high.now.scale c.in-Some.common c.least_common_multiple.result c.args.low.now.positive c.args.high.now.positive c.in-Some.is c.least_common_multiple.ensures

pub returns-in-None : goal.returns-in-None
returns-in-None c =
    wide_ends (seen_size c.args.size.now) (seen_size c.args.low.now) (seen_size c.args.high.now) c.least_common_multiple.result
    c.args.size.now.positive c.args.low.now.positive c.args.high.now.positive c.in-None.is c.least_common_multiple.ensures

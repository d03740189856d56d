use Rattle.expr_nodes.specs.Seen.{seen, seen_kind, seen_size}
use Rattle.value_fits.proofs.Widened.{known_rows}
use Rattle.value_fits.proofs.compared.with_known.Goals as goal

pub returns : goal.returns
returns c =
    known_rows c.args.first c.with_fault-clash.result c.with_fault-apart.result c.with_fault.result c.args.target.now.ranges c.is_kind.result c.has_end_apart-is_apart.result
    c.has_wide_end-is_wide.result (seen_kind c.args.target.now.kind) (seen_size c.args.target.now.size) c.args.place (seen c.args.typed.now)
    c.is_kind.ensures c.with_fault-clash.ensures c.has_end_apart-is_apart.ensures c.with_fault-apart.ensures c.has_wide_end-is_wide.ensures c.with_fault.ensures

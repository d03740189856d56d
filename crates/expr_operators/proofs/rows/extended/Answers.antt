use Rattle.std.proofs.Common.{◌∙◌, ap, map}
use Rattle.expr_nodes.specs.Seen.{seen, seen_info, reached, joined, grouped}
use Rattle.expr_nodes.proofs.SeenNodes.{longer_is}
use Rattle.expr_operators.proofs.rows.extended.Goals as goal

pub returns : goal.returns
returns c = λ join first.
    longer_is join first c.args.earlier (record { info = c.args.info.now; part = c.into_inner.result }) c.push.new.self c.in_ok-push.ensures.ok
    ∙ ap (λ t. joined join (seen_info c.args.info.now) (grouped join first (map reached c.args.earlier)) (seen t)) c.into_inner.ensures

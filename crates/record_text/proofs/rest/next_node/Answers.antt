use Rattle.record_text.proofs.Rests.{no_nodes_read, stopped_node, exit_from}
use Rattle.record_text.proofs.rest.next_node.Goals as goal

pub returns-in_err-line-clause-stop : goal.returns-in_err-line-clause-stop
returns-in_err-line-clause-stop g c = exit_from c.from_residual.result c.in_err-line.field-0.0 _ _ _ _ c.from_residual.ensures.1
    (stopped_node _ _ _ _ _ _ _ _ c.in_err-line.field-0.0 (no_nodes_read c.args.nodes.now c.args.reader.now _ c.requires.few) c.requires.some c.in_err-line.ensures.stop)

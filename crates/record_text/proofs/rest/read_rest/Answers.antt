use Rattle.std.proofs.Common.{[], ◌∷◌, ◌++◌, arith, ◌≡◌}
use Rattle.record_text.specs.Rest.{node_line}
use Rattle.record_text.specs.WholeLines.{whole_line}
use Rattle.record_text.proofs.Reading.{reads_then}
use Rattle.record_text.proofs.Rests.{nodes_more, exit_from, stopped_later, stopped_end, rest_read, stopped_after, on_ok_both, as_wanted, stop_wanted}
use Rattle.std.proofs.lemmas.Result.{IfErr-weaker}
use Rattle.record_text.proofs.rest.read_rest.Goals as goal

pub loop-nodes-preserved : goal.loop-nodes-preserved
loop-nodes-preserved g c = record {
  nodes = record {
    lines = c.loop-nodes.invariant.nodes.lines ++ node_line (whole_line c.next_node.new.reader.picks c.in_ok-next_node.field-0) ∷ [];
    has = nodes_more _ _ _ _ _ _ _ _ _ _ _ c.loop-nodes.invariant.nodes.has c.loop-nodes-test.true c.in_ok-next_node.ensures.line;
  };
  shelf = reads_then _ _ _ _ _ _ _ _ _ _ c.loop-nodes.invariant.shelf c.in_ok-next_node.ensures.shelf;
}

pub returns-in_err-next_node-clause-stop : goal.returns-in_err-next_node-clause-stop
returns-in_err-next_node-clause-stop g c = exit_from c.from_residual.result c.in_err-next_node.field-0.0 _ _ _ _ c.from_residual.ensures.1
    (stopped_later _ _ _ _ _ _ _ _ c.in_err-next_node.field-0.0 c.loop-nodes.invariant.nodes.has c.in_err-next_node.ensures.stop)

pub returns-in_err-expect-clause-stop : goal.returns-in_err-expect-clause-stop
returns-in_err-expect-clause-stop g c =
    let none : c.loop-nodes.nodes.left ≡ 0 = omega (arith, c.loop-nodes-test.false) in
    exit_from c.from_residual-in_err-expect.result c.in_err-expect.field-0.0 _ _ _ _ c.from_residual-in_err-expect.ensures.1
    (stopped_end _ _ _ _ _ _ _ _ c.in_err-expect.field-0.0 c.loop-nodes.invariant.nodes.has none
    (stop_wanted c.wanted.result c.loop-nodes.nodes c.in_err-expect.field-0.0 _ _ _ c.wanted.ensures c.in_err-expect.ensures.stop))

pub returns-clause-rest : goal.returns-clause-rest
returns-clause-rest g c =
    let none : c.loop-nodes.nodes.left ≡ 0 = omega (arith, c.loop-nodes-test.false) in
    on_ok_both c.expect_end.result _ _ _
    (λ empty nothing. rest_read _ _ _ _ _ _ _ _ _ _ _ c.loop-nodes.invariant.nodes.has none
    (as_wanted c.wanted.result c.loop-nodes.nodes _ _ _ _ _ c.wanted.ensures c.in_ok-expect.ensures.line) c.in_ok-expect.ensures.within empty nothing)
    c.expect_end.ensures.end c.expect_end.ensures.ended

pub returns-clause-stop : goal.returns-clause-stop
returns-clause-stop g c =
    let none : c.loop-nodes.nodes.left ≡ 0 = omega (arith, c.loop-nodes-test.false) in
    IfErr-weaker c.expect_end.result _ _
    (λ stop s. stopped_after _ _ _ _ _ _ _ _ _ _ _ stop c.loop-nodes.invariant.nodes.has none
    (as_wanted c.wanted.result c.loop-nodes.nodes _ _ _ _ _ c.wanted.ensures c.in_ok-expect.ensures.line) s)
    c.expect_end.ensures.stop

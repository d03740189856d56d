use Rattle.std.proofs.Common.{sym, ◌∙◌, ◌≡◌, arith}
use Rattle.record_text.proofs.Reading.{reads_nothing, reads_then}
use Rattle.record_text.proofs.Rests.{exit_from, stopped_later}
use Rattle.refute_check.proofs.Walking.{node_with, walk_starts, walk_more, walk_refuses, walk_ends}
use Rattle.refute_check.proofs.walk.walk.Goals as goal

pub loop-nodes-init : goal.loop-nodes-init
loop-nodes-init g c = record {
  walking = walk_starts c.args.flat.now c.args.trail.now.room c.args.nodes.now.undecided c.args.nodes.now.form c.args.nodes.now c.args.reader.now _ c.args.trail.now c.args.stack.now c.requires.few c.requires.nodes
      c.requires.trail c.requires.stack;
  shelf = reads_nothing _ _ _;
  sums = c.requires.sums;
}

pub step-requires-clause-short : goal.step-requires-clause-short
step-requires-clause-short g c = (node_with _ _ c.in_ok-line.line _ _ _ _ _ _ c.picks.ensures c.in_ok-line.ensures.line).gives.short

pub returns-in_err-line-clause-stop : goal.returns-in_err-line-clause-stop
returns-in_err-line-clause-stop g c = exit_from c.from_residual.result c.in_err-line.field-0.0 _ _ _ _ c.from_residual.ensures.1
    (stopped_later _ _ _ _ _ _ _ _ c.in_err-line.field-0.0 c.loop-nodes.invariant.walking.nodes c.in_err-line.ensures.stop)

pub returns-then-not-step-clause-walked : goal.returns-then-not-step-clause-walked
returns-then-not-step-clause-walked g c = walk_refuses c.args.flat.now c.args.trail.now.room _ _ _ _ _ _ _ _ _ _ c.loop-nodes.trail c.loop-nodes.stack c.lines.result
    c.loop-nodes.invariant.walking c.loop-nodes-test.true (node_with _ _ c.in_ok-line.line _ _ _ _ _ _ c.picks.ensures c.in_ok-line.ensures.line) (sym c.if-not-step.true ∙ c.step.ensures.accepts) c.lines.ensures.lines

pub loop-nodes-preserved : goal.loop-nodes-preserved
loop-nodes-preserved g c = record {
  walking = walk_more c.args.flat.now c.args.trail.now.room _ _ _ _ _ _ _ _ _ _ c.loop-nodes.trail c.step.new.trail c.loop-nodes.stack c.step.new.stack
      c.loop-nodes.invariant.walking c.loop-nodes-test.true (node_with _ _ c.in_ok-line.line _ _ _ _ _ _ c.picks.ensures c.in_ok-line.ensures.line) (sym c.if-not-step.false ∙ c.step.ensures.accepts)
      (c.step.ensures.trail c.if-not-step.false) (c.step.ensures.stack c.if-not-step.false);
  shelf = reads_then _ _ _ _ _ _ _ _ _ _ c.loop-nodes.invariant.shelf c.in_ok-line.ensures.shelf;
  sums = c.step.ensures.sums;
}

pub returns-clause-walked : goal.returns-clause-walked
returns-clause-walked g c =
    let none : c.loop-nodes.nodes.left ≡ 0 = omega (arith, c.loop-nodes-test.false) in
    walk_ends c.args.flat.now c.args.trail.now.room _ _ _ _ _ _ c.loop-nodes.trail c.loop-nodes.stack c.loop-nodes.invariant.walking none

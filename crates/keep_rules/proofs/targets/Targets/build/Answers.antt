use Rattle.std.proofs.Common.{◌∙◌, ◌+◌, [], Some, ap, take_all}
use Rattle.keep_rules.specs.Overriding.{with_target}
use Rattle.keep_rules.specs.TargetRows.{row_at}
use Rattle.keep_rules.proofs.OwnPlaces.{owns_from, row_more, owns_more, later_is}
use Rattle.keep_rules.proofs.targets.Targets.build.Goals as goal

pub loop-mark-preserved : goal.loop-mark-preserved
loop-mark-preserved c = record {
  count = c.in_ok-number.ensures ∙ ap (λ n. n + 1) c.loop-mark.invariant.count;
  rows = λ path. row_more path c.args.marks.now c.loop-mark.mark-index c.mark-item.result (row_at c.loop-mark.rows path) (row_at c.add.new.rows path) c.loop-mark.number
      c.loop-mark-test.true c.mark-item.is c.loop-mark.invariant.count (c.loop-mark.invariant.rows path) (c.in_ok-add.ensures path);
  owns = owns_more c.loop-mark.rows c.args.marks.now c.loop-mark.mark-index c.mark-item.result c.loop-mark.owns c.push.new.self c.in_ok-own.own
      c.loop-mark-test.true c.mark-item.is c.loop-mark.invariant.rows c.loop-mark.invariant.owns c.in_ok-own.ensures c.in_ok-push.ensures.ok;
}

pub returns : goal.returns
returns c =
    later_is (record { rows = c.loop-mark.rows; owns = c.loop-mark.owns }) c.args.marks.now
    (λ path. c.loop-mark.invariant.rows path ∙ ap (with_target (Some path) 0) (take_all c.loop-mark.mark-index c.args.marks.now c.loop-mark-test.false))
    (c.loop-mark.invariant.owns ∙ ap (owns_from []) (take_all c.loop-mark.mark-index c.args.marks.now c.loop-mark-test.false))

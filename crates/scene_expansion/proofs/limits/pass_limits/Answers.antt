use Rattle.std.proofs.Common.{◌∙◌, ◌+◌, sym, ap}
use Rattle.scene_expansion.specs.AllCounts.{are_past}
use Rattle.scene_expansion.proofs.CountLimits.{none_counted, work_counted, some_past, all_within}
use Rattle.scene_expansion.proofs.limits.pass_limits.Goals as goal

pub loop-work-init : goal.loop-work-init
loop-work-init g c = record { counted = c.none-all.ensures ∙ none_counted c.args.last; within = ap are_past c.none-all.ensures }

pub loop-work-preserved : goal.loop-work-preserved
loop-work-preserved g c = record {
  counted =
      work_counted (g.L.WorkLayout.types c.args.layout.now) c.args.works.now c.args.last c.loop-work.work-index c.work-item.result c.loop-work.all c.in_ok-own.own c.with-all.result c.loop-work-test.true c.work-item.is
      c.loop-work.invariant.counted c.in_ok-own.ensures c.with-all.ensures;
  within = sym c.are_past.ensures ∙ c.if-are_past.false;
}

pub returns-then-are_past : goal.returns-then-are_past
returns-then-are_past g c =
    some_past (g.L.WorkLayout.types c.args.layout.now) c.args.works.now c.args.last (c.loop-work.work-index + 1) c.with-all.result
    (work_counted (g.L.WorkLayout.types c.args.layout.now) c.args.works.now c.args.last c.loop-work.work-index c.work-item.result c.loop-work.all c.in_ok-own.own c.with-all.result c.loop-work-test.true c.work-item.is
    c.loop-work.invariant.counted c.in_ok-own.ensures c.with-all.ensures)
    (sym c.are_past.ensures ∙ c.if-are_past.true)

pub returns : goal.returns
returns g c =
    all_within (g.L.WorkLayout.types c.args.layout.now) c.args.works.now c.args.last c.loop-work.work-index c.loop-work.all c.loop-work.invariant.counted c.loop-work.invariant.within c.loop-work-test.false

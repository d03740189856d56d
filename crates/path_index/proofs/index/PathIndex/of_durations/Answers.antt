use Rattle.std.proofs.Common.{◌+◌, ◌∙◌, ap, take_all, arith}
use Rattle.osc_base.specs.Paths.{same_path, then_duration}
use Rattle.path_index.specs.Places.{place_at, first_place}
use Rattle.path_index.proofs.Firsts.{noted}
use Rattle.path_index.proofs.index.PathIndex.of_durations.Goals as goal

pub loop-thing-preserved : goal.loop-thing-preserved
loop-thing-preserved g c = record {
  count = c.in_ok-place.ensures.next ∙ ap (λ n. n + 1) c.loop-thing.invariant.count;
  small = c.in_ok-place.ensures.small;
  places = noted (place_at c.loop-thing.index) (place_at c.note.new.self) (λ x. then_duration (g.T.HasPath.path_of x)) c.args.things.now c.loop-thing.thing-index c.thing-item.result c.loop-thing.place c.in_ok-duration_of.field-0
      c.loop-thing-test.true c.thing-item.is c.loop-thing.invariant.count (c.in_ok-duration_of.ensures ∙ ap then_duration c.path.ensures) c.loop-thing.invariant.places c.in_ok-note.ensures;
}

pub returns-clause-few : goal.returns-clause-few
returns-clause-few g c = omega (arith, c.loop-thing-test.false, c.loop-thing.invariant.count, c.loop-thing.invariant.small)

pub returns-clause-places : goal.returns-clause-places
returns-clause-places g c = λ path. c.loop-thing.invariant.places path
    ∙ ap (first_place (λ x. same_path (then_duration (g.T.HasPath.path_of x)) path) 0) (take_all c.loop-thing.thing-index c.args.things.now c.loop-thing-test.false)

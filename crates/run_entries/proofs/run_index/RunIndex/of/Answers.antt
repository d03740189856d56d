use Rattle.std.proofs.Common.{◌+◌, ◌∙◌, ap, take_all}
use Rattle.osc_base.specs.Paths.{same_path}
use Rattle.composition.specs.path_index.Places.{first_place}
use Rattle.composition.proofs.of_path_index.Firsts.{noted}
use Rattle.run_entries.specs.RunPlaces.{place_at}
use Rattle.run_entries.proofs.run_index.RunIndex.of.Goals as goal

pub loop-thing-preserved : goal.loop-thing-preserved
loop-thing-preserved g c = record {
  count = c.in_ok-place.ensures.next ∙ ap (λ n. n + 1) c.loop-thing.invariant.count;
  small = c.in_ok-place.ensures.small;
  places = noted (place_at c.loop-thing.index) (place_at c.note.new.self) (λ x. g.T.HasPath.path_of x) c.args.things.now c.loop-thing.thing-index c.thing-item.result c.loop-thing.place c.path.result.now
      c.loop-thing-test.true c.thing-item.is c.loop-thing.invariant.count c.path.ensures c.loop-thing.invariant.places c.in_ok-note.ensures;
}

pub returns : goal.returns
returns g c = λ path. c.loop-thing.invariant.places path
    ∙ ap (first_place (λ x. same_path (g.T.HasPath.path_of x) path) 0) (take_all c.loop-thing.thing-index c.args.things.now c.loop-thing-test.false)

use Rattle.std.proofs.Common.{◌+◌, ◌∙◌, ap, bytes_eq, subst, take_all}
use Rattle.type_members.specs.name_scope.Declaring.{first_place}
use Rattle.type_tables.specs.Places.{AreDistinct, place_in}
use Rattle.type_tables.proofs.Firsts.{distinct_more, noted}
use Rattle.type_tables.proofs.first_places.FirstPlaces.of_many.Goals as goal

pub loop-thing-preserved : goal.loop-thing-preserved
loop-thing-preserved g c = record {
  count = ap (λ n. n + 1) c.loop-thing.invariant.count;
  places = noted (place_in c.loop-thing.index) (place_in c.note.new.self) g.T.HasName.name_of c.args.things.now c.loop-thing.thing-index c.thing-item.result c.loop-thing.place c.own_name.result.now
      c.loop-thing-test.true c.thing-item.is c.loop-thing.invariant.count c.own_name.ensures c.loop-thing.invariant.places c.in_ok-note.ensures.places;
  distinct = distinct_more (place_in c.loop-thing.index) g.T.HasName.name_of c.args.things.now c.loop-thing.thing-index c.thing-item.result c.own_name.result.now c.loop-thing.index.is_distinct c.note.new.self.is_distinct
      c.loop-thing-test.true c.thing-item.is c.own_name.ensures c.loop-thing.invariant.places c.loop-thing.invariant.distinct c.in_ok-note.ensures.distinct;
}

pub returns-clause-places : goal.returns-clause-places
returns-clause-places g c = λ name. c.loop-thing.invariant.places name
    ∙ ap (first_place (λ x. bytes_eq (g.T.HasName.name_of x) name) 0) (take_all c.loop-thing.thing-index c.args.things.now c.loop-thing-test.false)

pub returns-clause-distinct : goal.returns-clause-distinct
returns-clause-distinct g c = λ is. subst (AreDistinct g.T.HasName.name_of) (take_all c.loop-thing.thing-index c.args.things.now c.loop-thing-test.false) (c.loop-thing.invariant.distinct is)

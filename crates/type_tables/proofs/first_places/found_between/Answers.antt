use Rattle.std.proofs.Common.{◌∙◌, sym, ap, bytes_eq, option_and_then, slice_get}
use Rattle.type_tables.proofs.Firsts.{found_part, item_is}
use Rattle.type_tables.specs.Places.{high_place, low_place}
use Rattle.type_tables.proofs.first_places.found_between.Goals as goal

pub returns-in-Some : goal.returns-in-Some
returns-in-Some g c =
    item_is c.args.things.now c.in-Some.place c.get.result c.get.ensures.lookup
    ∙ ap (option_and_then (slice_get c.args.things.now)) (sym c.in-Some.is ∙ c.if_between.ensures ∙ ap (λ o. high_place c.args.from (low_place c.args.to o)) c.place_of.ensures)
    ∙ sym (found_part (λ x. bytes_eq (g.T.HasName.name_of x) c.args.name.now) c.args.from c.args.to c.args.things.now (c.requires.1 c.if-not-places.false c.args.name.now))

pub returns-in-None : goal.returns-in-None
returns-in-None g c =
    ap (option_and_then (slice_get c.args.things.now)) (sym c.in-None.is ∙ c.if_between.ensures ∙ ap (λ o. high_place c.args.from (low_place c.args.to o)) c.place_of.ensures)
    ∙ sym (found_part (λ x. bytes_eq (g.T.HasName.name_of x) c.args.name.now) c.args.from c.args.to c.args.things.now (c.requires.1 c.if-not-places.false c.args.name.now))

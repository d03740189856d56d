use Rattle.std.proofs.Common.{◌∙◌, sym, ap, bytes_eq, option_and_then, slice_get}
use Rattle.type_tables.proofs.Firsts.{find_is, item_is}
use Rattle.type_tables.proofs.first_places.found_by_place.Goals as goal

pub returns-in-Some : goal.returns-in-Some
returns-in-Some g c =
    item_is c.args.things.now c.in-Some.place c.get-in-Some.result c.get-in-Some.ensures.lookup
    ∙ ap (option_and_then (slice_get c.args.things.now)) (c.in-Some.ensures ∙ c.requires c.args.name.now)
    ∙ sym (find_is (λ x. bytes_eq (g.T.HasName.name_of x) c.args.name.now) c.args.things.now)

pub returns-in-None : goal.returns-in-None
returns-in-None g c =
    ap (option_and_then (slice_get c.args.things.now)) (c.in-None.ensures ∙ c.requires c.args.name.now)
    ∙ sym (find_is (λ x. bytes_eq (g.T.HasName.name_of x) c.args.name.now) c.args.things.now)

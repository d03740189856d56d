use Rattle.std.proofs.Common.{◌≡◌, drop}
use Rattle.std.specs.Prelude.{bytes_eq}
use Rattle.type_members.specs.name_scope.Declaring.{first_place}
use Rattle.type_tables.proofs.first_places.place_among.Given as goal

abbrev pub invariant-loop-thing : goal.invariant-loop-thing
invariant-loop-thing g l = record {
  count : l.place ≡ l.thing-index;
  rest : first_place (λ x. bytes_eq (g.T.HasName.name_of x) l.name) 0 l.things ≡ first_place (λ x. bytes_eq (g.T.HasName.name_of x) l.name) l.place (drop l.thing-index l.things);
}

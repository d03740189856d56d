use Rattle.std.proofs.Common.{◌∙◌, sym, ap, bytes_eq, ℕ, List, subst}
use Rattle.type_members.specs.name_scope.Declaring.{first_place}
use Rattle.type_tables.specs.Places.{Places}
use Rattle.type_tables.proofs.Firsts.{text_place}
use Rattle.type_tables.proofs.text_table.TextTable.place.Goals as goal

pub place_of-requires : goal.place_of-requires
place_of-requires c = subst (λ (texts : List (List ℕ)). Places c.self.inside.places (λ (text : List ℕ). text) texts) (sym c.as_slice.ensures.value) c.self.invariant

pub returns : goal.returns
returns c = c.place_of.ensures ∙ ap (first_place (λ x. bytes_eq x c.args.text.now) 0) (c.as_slice.ensures.value ∙ c.self.view_is) ∙ text_place c.args.text.now 0 c.args.self.now

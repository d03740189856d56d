use Rattle.std.proofs.Common.{List, subst, sym}
use Rattle.type_tables.specs.Places.{Places}
use Rattle.program_fields.specs.declared.spots.FieldSpot.{FieldSpot}
use Rattle.program_fields.proofs.field_row.FieldRow.spot_named.Goals as goal

pub found_between-requires : goal.found_between-requires
found_between-requires c = subst (λ (things : List FieldSpot). Places c.args.self.now.places (λ (s : FieldSpot). s.name.now.text) things) (sym c.as_slice.ensures.value) c.args.self.now.placed

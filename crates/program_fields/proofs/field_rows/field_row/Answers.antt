use Rattle.std.proofs.Common.{List, subst}
use Rattle.type_tables.specs.Places.{Places}
use Rattle.program_fields.specs.declared.spots.FieldSpot.{FieldSpot}
use Rattle.program_fields.proofs.field_rows.field_row.Goals as goal

pub invariant_of-result : goal.invariant_of-result
invariant_of-result c =
    record { placed = subst (λ (things : List FieldSpot). Places c.in_ok-places.places (λ (s : FieldSpot). s.name.now.text) things) c.as_slice.ensures.value c.in_ok-places.ensures }

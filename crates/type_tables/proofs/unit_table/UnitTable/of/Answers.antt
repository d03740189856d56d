use Rattle.std.proofs.Common.{List, subst}
use Rattle.type_members.specs.type_heads.Table.{TableUnit}
use Rattle.type_tables.specs.Places.{Places}
use Rattle.type_tables.proofs.unit_table.UnitTable.of.Goals as goal

pub invariant_of-result : goal.invariant_of-result
invariant_of-result c = subst (λ (things : List TableUnit). Places c.in_ok-places.places (λ (x : TableUnit). x.name) things) c.as_slice.ensures.value c.in_ok-places.ensures

use Rattle.std.proofs.Common.{List, subst}
use Rattle.type_members.specs.type_heads.Table.{TableField}
use Rattle.type_tables.specs.Places.{Places}
use Rattle.type_tables.proofs.field_table.FieldTable.of.Goals as goal

pub invariant_of-result : goal.invariant_of-result
invariant_of-result c = subst (λ (things : List TableField). Places c.in_ok-places.places (λ (x : TableField). x.name) things) c.as_slice.ensures.value c.in_ok-places.ensures

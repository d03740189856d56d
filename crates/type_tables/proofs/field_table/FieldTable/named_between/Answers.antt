use Rattle.std.proofs.Common.{List, subst, sym}
use Rattle.type_members.specs.type_heads.Table.{TableField}
use Rattle.type_tables.specs.Places.{Places}
use Rattle.type_tables.proofs.field_table.FieldTable.named_between.Goals as goal

pub found_between-requires : goal.found_between-requires
found_between-requires c = subst (λ (things : List TableField). Places c.self.inside.places (λ (x : TableField). x.name) things) (sym c.as_slice.ensures.value) c.self.invariant

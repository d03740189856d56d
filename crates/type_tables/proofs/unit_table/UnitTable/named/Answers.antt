use Rattle.std.proofs.Common.{List, subst, sym}
use Rattle.type_members.specs.type_heads.Table.{TableUnit}
use Rattle.type_tables.specs.Places.{Places}
use Rattle.type_tables.proofs.unit_table.UnitTable.named.Goals as goal

pub found-requires : goal.found-requires
found-requires c = subst (λ (things : List TableUnit). Places c.self.inside.places (λ (x : TableUnit). x.name) things) (sym c.as_slice.ensures.value) c.self.invariant

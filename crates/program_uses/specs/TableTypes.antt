-- Types of which the table and the library alone are told.
use Rattle.std.specs.Prelude.{ℕ, [], Option}
use Rattle.expr_nodes.specs.type_heads.Table.{Table}
use Rattle.expr_nodes.specs.type_heads.Types.{Types}

abbrev pub of_table : Option ℕ → Table → Types
of_table library table = record { bodies = []; library = library; members = []; table = table }

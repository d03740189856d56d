use Rattle.std.proofs.Common.{◌≡◌, drop, map}
use Rattle.std.specs.List.{list_all}
use Rattle.type_members.specs.Listed.{seen_row}
use Rattle.type_tables.specs.Looked.{have_types}
use Rattle.type_tables.proofs.field_types.all_have_types.Given as goal

abbrev pub invariant-loop-row : goal.invariant-loop-row
invariant-loop-row l = list_all (have_types l.heads) (map seen_row l.rows) ≡ list_all (have_types l.heads) (map seen_row (drop l.row-index l.rows))

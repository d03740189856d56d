use Rattle.std.proofs.Common.{◌≡◌, ◌++◌, drop, map}
use Rattle.type_members.specs.type_heads.Members.{table_fields}
use Rattle.type_members.specs.Listed.{seen_row}
use Rattle.type_tables.specs.FieldEnds.{all_ends}
use Rattle.type_tables.specs.declared.field_rows.FieldRow.{FieldRow}
use Rattle.type_tables.proofs.field_rows.field_rows.Given as goal

abbrev pub invariant-loop-row : goal.invariant-loop-row
invariant-loop-row l = record {
  tables : map (λ (r : FieldRow). r.table) l.all.items ++ map (table_fields l.heads) (map seen_row (drop l.row-index l.rows)) ≡ map (table_fields l.heads) (map seen_row l.rows);
  ends : map (λ (r : FieldRow). r.ends.items) l.all.items ++ map (all_ends l.heads) (map seen_row (drop l.row-index l.rows)) ≡ map (all_ends l.heads) (map seen_row l.rows);
}

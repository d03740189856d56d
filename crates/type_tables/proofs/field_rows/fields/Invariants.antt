use Rattle.std.proofs.Common.{◌≡◌, ◌++◌, length, drop, map}
use Rattle.type_members.specs.type_heads.Members.{table_fields}
use Rattle.type_members.specs.Listed.{seen_listed}
use Rattle.type_tables.specs.FieldEnds.{all_ends, ends_from}
use Rattle.type_tables.proofs.field_rows.fields.Given as goal

abbrev pub invariant-loop-member : goal.invariant-loop-member
invariant-loop-member l = record {
  entries : l.fields.entries.items ++ table_fields l.heads (map seen_listed (drop l.member-index l.members)) ≡ table_fields l.heads (map seen_listed l.members);
  ends : l.fields.ends.items ++ ends_from l.heads (length l.fields.entries.items) (map seen_listed (drop l.member-index l.members)) ≡ all_ends l.heads (map seen_listed l.members);
}

use Rattle.std.proofs.Common.{◌≡◌, ◌++◌, drop, map}
use Rattle.type_members.specs.Listed.{seen_row}
use Rattle.program_fields.specs.Parts.{facts_of}
use Rattle.program_fields.specs.RowFacts.{row_facts}
use Rattle.program_fields.proofs.field_rows.field_rows.Given as goal

abbrev pub invariant-loop-row : goal.invariant-loop-row
invariant-loop-row l = map row_facts l.all.items ++ map facts_of (map seen_row (drop l.row-index l.rows)) ≡ map facts_of (map seen_row l.rows)

use Rattle.std.proofs.Common.{◌≡◌, drop, map}
use Rattle.type_members.specs.type_heads.Table.{field_in}
use Rattle.type_members.specs.Shared.{part_at}
use Rattle.type_tables.specs.InParts.{first_found}
use Rattle.type_tables.specs.declared.field_rows.FieldRow.{FieldRow}
use Rattle.type_tables.proofs.field_lists.named_in_parts.Given as goal

abbrev pub invariant-loop-part : goal.invariant-loop-part
invariant-loop-part l = first_found (λ p. field_in (part_at (map (λ (r : FieldRow). r.table) l.rows) p) l.name) l.parts
    ≡ first_found (λ p. field_in (part_at (map (λ (r : FieldRow). r.table) l.rows) p) l.name) (drop l.part-index l.parts)

use Rattle.std.proofs.Common.{◌≡◌, drop, map}
use Rattle.type_members.specs.Listed.{seen_row}
use Rattle.type_members.specs.Shared.{part_at}
use Rattle.type_tables.specs.Entries.{named_among}
use Rattle.type_tables.specs.InParts.{first_found}
use Rattle.type_tables.proofs.field_types.named_in_parts.Given as goal

abbrev pub invariant-loop-part : goal.invariant-loop-part
invariant-loop-part l = first_found (λ p. named_among l.name (part_at (map seen_row l.lists.rows.items) p)) l.parts
    ≡ first_found (λ p. named_among l.name (part_at (map seen_row l.lists.rows.items) p)) (drop l.part-index l.parts)

use Rattle.std.proofs.Common.{◌≡◌, ◌++◌, [], map, slice_index_or}
use Rattle.type_heads.specs.Members.{fields_among}
use Rattle.program_fields.specs.SeenFields.{seen_field}
use Rattle.program_fields.specs.Tables.{lists_in, rows_in}
use Rattle.program_fields.proofs.Fronts.{left_at}
use Rattle.program_fields.proofs.tables.ProgramFields.listed.Given as goal

abbrev pub invariant-loop-part : goal.invariant-loop-part
invariant-loop-part l =
    map seen_field l.fields.items ++ fields_among (left_at (rows_in l.self) l.part-items l.part-index l.span) ≡ fields_among (slice_index_or (lists_in l.self) l.fn.of [])

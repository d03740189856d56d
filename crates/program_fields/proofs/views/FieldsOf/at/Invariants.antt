use Rattle.std.proofs.Common.{◌≡◌, slice_get}
use Rattle.type_heads.specs.Members.{fields_among}
use Rattle.program_fields.specs.Tables.{fields_in, rows_in}
use Rattle.program_fields.proofs.Fronts.{left_at}
use Rattle.program_fields.proofs.views.FieldsOf.at.Given as goal

abbrev pub invariant-loop-part : goal.invariant-loop-part
invariant-loop-part l = slice_get (fields_among (left_at (rows_in l.self.fields.now) l.part-items l.part-index l.self.span)) l.left ≡ slice_get (fields_in l.self) l.number

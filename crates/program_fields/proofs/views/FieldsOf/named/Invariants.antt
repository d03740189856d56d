use Rattle.std.proofs.Common.{◌≡◌, find}
use Rattle.type_heads.specs.Members.{fields_among}
use Rattle.program_fields.specs.SeenFields.{has_name}
use Rattle.program_fields.specs.Tables.{fields_in, rows_in}
use Rattle.program_fields.proofs.Fronts.{left_at}
use Rattle.program_fields.proofs.views.FieldsOf.named.Given as goal

abbrev pub invariant-loop-part : goal.invariant-loop-part
invariant-loop-part l = find (has_name l.name) (fields_among (left_at (rows_in l.self.fields.now) l.part-items l.part-index l.self.span)) ≡ find (has_name l.name) (fields_in l.self)

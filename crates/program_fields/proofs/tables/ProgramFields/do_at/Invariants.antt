use Rattle.std.proofs.Common.{◌≡◌}
use Rattle.program_fields.specs.SeenFields.{first_do_in}
use Rattle.program_fields.specs.Tables.{members_at, rows_in}
use Rattle.program_fields.proofs.Fronts.{left_at}
use Rattle.program_fields.proofs.tables.ProgramFields.do_at.Given as goal

abbrev pub invariant-loop-part : goal.invariant-loop-part
invariant-loop-part l = first_do_in (left_at (rows_in l.self) l.part-items l.part-index l.span) ≡ first_do_in (members_at l.self l.span)

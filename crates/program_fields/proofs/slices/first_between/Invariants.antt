use Rattle.std.proofs.Common.{◌≡◌, drop}
use Rattle.std.specs.Prelude.{find}
use Rattle.program_fields.specs.Parts.{is_between}
use Rattle.program_fields.proofs.slices.first_between.Given as goal

abbrev pub invariant-loop-place : goal.invariant-loop-place
invariant-loop-place l = find (is_between l.from l.to) l.places ≡ find (is_between l.from l.to) (drop l.place-index l.places)

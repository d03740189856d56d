use Rattle.std.proofs.Common.{◌≡◌, ◌++◌}
use Rattle.std.specs.String.{string_bytes}
use Rattle.made_programs.specs.MadeText.{drive_lines, for_each}
use Rattle.made_programs.proofs.text.push_drives.Given as goal

abbrev pub invariant-loop-vehicle : goal.invariant-loop-vehicle
invariant-loop-vehicle l = string_bytes l.text ≡ string_bytes l.fn.text ++ for_each l.vehicle (drive_lines l.phase)

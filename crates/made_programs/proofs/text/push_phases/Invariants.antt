use Rattle.std.proofs.Common.{◌≡◌, ◌++◌}
use Rattle.std.specs.String.{string_bytes}
use Rattle.made_programs.specs.MadeText.{phase_lines, for_each}
use Rattle.made_programs.proofs.text.push_phases.Given as goal

abbrev pub invariant-loop-phase : goal.invariant-loop-phase
invariant-loop-phase l = string_bytes l.text ≡ string_bytes l.fn.text ++ for_each l.phase (phase_lines l.count)

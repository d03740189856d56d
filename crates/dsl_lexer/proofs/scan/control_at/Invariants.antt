use Rattle.std.proofs.Common.{◌≡◌, ◌+◌, drop}
use Rattle.std.specs.Option.{option_map}
use Rattle.dsl_lexer.specs.Scan as scan
use Rattle.dsl_lexer.proofs.scan.control_at.Given as goal

abbrev pub invariant-loop-i : goal.invariant-loop-i
invariant-loop-i l = scan.control_at l.text ≡ option_map (λ n. l.i + n) (scan.control_at (drop l.i l.text))

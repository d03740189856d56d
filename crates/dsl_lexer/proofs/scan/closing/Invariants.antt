use Rattle.std.proofs.Common.{◌≡◌, ◌+◌, drop, false}
use Rattle.std.specs.Option.{option_map}
use Rattle.dsl_lexer.specs.Scan as scan
use Rattle.dsl_lexer.proofs.scan.closing.Given as goal

abbrev pub invariant-loop-i : goal.invariant-loop-i
invariant-loop-i l = scan.closing l.quote false l.rest ≡ option_map (λ n. l.i + n) (scan.closing l.quote l.escaped (drop l.i l.rest))

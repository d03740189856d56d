use Rattle.std.proofs.Common.{length, drop, ◌-◌, ◌≡◌, ◌≤◌, ◌+◌, not}
use Rattle.std.specs.List.{prefix_len}
use Rattle.dsl_lexer.specs.Bytes as bytes
use Rattle.dsl_lexer.proofs.scan.comment_len.Given as goal

abbrev pub invariant-loop-n : goal.invariant-loop-n
invariant-loop-n l = (l.n ≤ length l.rest) × (l.n + prefix_len (λ b. not (bytes.is_line_feed b)) (drop l.n l.rest) ≡ prefix_len (λ b. not (bytes.is_line_feed b)) l.rest)

abbrev pub decreases-loop-n : goal.decreases-loop-n
decreases-loop-n l = length l.rest - l.n

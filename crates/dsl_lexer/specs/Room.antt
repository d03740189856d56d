-- What is counted stays small: a file has at most 1,048,576 bytes. This is no part of the meaning of a source.
use Rattle.std.specs.Prelude.{ℕ, ◌+◌, ◌*◌, ◌≤◌, length}
use Rattle.dsl_lexer.specs.declared.layout.Layout.{Layout}

-- there are len more bytes, and what is counted is bounded by the bytes so far
pub record HasRoom (l : Layout) (len : ℕ) : Type 0 where
  pub bytes : l.spot.at + len ≤ 1048576
  pub line : l.spot.line ≤ l.spot.at + 1
  pub column : l.spot.column ≤ l.spot.at + 1
  pub spaces : l.spaces ≤ l.spot.at
  pub brackets : l.brackets ≤ l.spot.at
  pub tokens : length l.tokens + length l.widths ≤ 4 * l.spot.at

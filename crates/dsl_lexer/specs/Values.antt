-- The number that digits stand for, as a walk over them computes it. This is no part of the meaning of a source, which
-- is `value` of Kinds.antt.
use Rattle.std.specs.Prelude.{ℕ, ◌+◌, ◌*◌, ◌^◌, ◌<◌, ◌≤◌, List, length, take, fold}
use Rattle.std.specs.Char.{digit_value}

-- the number that the digits stand for after those of a number
abbrev pub value_from : ℕ → ℕ → List ℕ → ℕ
value_from base start digits = fold (λ n d. n * base + digit_value d) start digits

-- no prefix of the digits stands for a number above 64 bits
abbrev pub Fits : ℕ → ℕ → List ℕ → Type 0
Fits base start digits = (n : ℕ) → n ≤ length digits → value_from base start (take n digits) < 2 ^ 64

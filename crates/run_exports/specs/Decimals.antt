-- Exact decimals of whole numbers of thousandths and millionths.
use Rattle.std.specs.Prelude.{ℕ, ◌-◌, ◌/◌, ◌%◌, ◌^◌, ℤ, List, ◌++◌, codes, length, replicate, unsigned_abs}
use Rattle.std.specs.Fmt.{decimal, sign_text}
use Rattle.std.specs.Int.{is_negative}

-- the decimal of a number, with zeros before it up to this many digits
abbrev pub padded : ℕ → ℕ → List ℕ
padded digits n = replicate (digits - length (decimal n)) 48 ++ decimal n

-- n of which 10 ^ places make one, with all places: 1500 thousandths are `1.500`
unfoldable pub fixed : ℕ → ℕ → List ℕ
fixed places n = decimal (n / 10 ^ places) ++ codes "." ++ padded places (n % 10 ^ places)

-- the same, with `-` before it if it is negative
unfoldable pub signed_fixed : ℕ → ℤ → List ℕ
signed_fixed places z = sign_text (is_negative z) ++ fixed places (unsigned_abs z)

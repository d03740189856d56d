-- Kinds of bytes, and where a byte of a file stands.
use Rattle.std.specs.Prelude.{ℕ, ◌+◌, ◌==◌, Bool, ◌||◌, ◌&&◌, nat_le, nat_lt, List, [], ◌∷◌, length, take, filter}
use Rattle.std.specs.List.{after_last}
use Rattle.osc_base.specs.declared.fault.Place.{Place}

abbrev pub is_digit : ℕ → Bool
is_digit b = nat_le 48 b && nat_le b 57

abbrev pub is_hexadecimal_digit : ℕ → Bool
is_hexadecimal_digit b = is_digit b || (nat_le 97 b && nat_le b 102) || (nat_le 65 b && nat_le b 70)

-- a letter of A to Z or a to z, or an underscore
abbrev pub is_name_start : ℕ → Bool
is_name_start b = (nat_le 97 b && nat_le b 122) || (nat_le 65 b && nat_le b 90) || b == 95

abbrev pub is_name_byte : ℕ → Bool
is_name_byte b = is_name_start b || is_digit b

abbrev pub is_line_feed : ℕ → Bool
is_line_feed b = b == 10

abbrev pub is_backslash : ℕ → Bool
is_backslash b = b == 92

-- " or '
abbrev pub is_quote : ℕ → Bool
is_quote b = b == 34 || b == 39

-- what may stand after a backslash in a string: a quote or a backslash
abbrev pub is_escapable : ℕ → Bool
is_escapable b = is_quote b || is_backslash b

-- Whether a control character begins at b, when this list stands after it. U+0000 to U+001F and U+007F are one byte.
-- U+0080 to U+009F are C2 and the number itself.
abbrev pub begins_control : ℕ → List ℕ → Bool
begins_control b [] = nat_lt b 32 || b == 127
begins_control b (c ∷ more) = nat_lt b 32 || b == 127 || (b == 0xC2 && nat_le 0x80 c && nat_le c 0x9F)

-- the line of the byte at offset n: 1 and the line feeds before it
abbrev pub line_at : List ℕ → ℕ → ℕ
line_at bytes n = 1 + length (filter is_line_feed (take n bytes))

-- its column: 1 and the bytes before it in its line
abbrev pub column_at : List ℕ → ℕ → ℕ
column_at bytes n = 1 + length (after_last is_line_feed (take n bytes))

-- the place of the byte at offset n of the file of this number, when so many tokens stand before it
abbrev pub place_at : ℕ → List ℕ → ℕ → ℕ → Place
place_at file bytes n tokens = record { file = file; line = line_at bytes n; column = column_at bytes n; token = tokens }

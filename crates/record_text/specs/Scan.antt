-- How the functions read a line. This is no part of the meaning of a text: proofs/ tie it to `spelled`.
use Prim.Native.Nat.{zero, suc}
use Rattle.std.specs.Prelude.{ℕ, ◌+◌, Bool, true, false, not, ◌&&◌, ◌||◌, ◌==◌, nat_le, nat_lt, nat_eq, if◌then◌else◌, List, [], ◌∷◌, length, take, drop, codes, Option, Some, None, ℤ, pos, ◌-ℤ◌}
use Rattle.std.specs.List.{starts_with, list_all, prefix_len}
use Rattle.std.specs.Option.{option_map, option_and_then}
use Rattle.std.specs.Str.{bytes_eq}
use Rattle.std.specs.Str.Parse.{digits_value}
use Rattle.box_eval.specs.declared.cut.Side.{Side}
use Rattle.linear_sums.specs.declared.pick.Pick.{Pick}
use Rattle.record_trees.specs.Record.{may_stand}
use Rattle.record_text.specs.declared.line.Form.TheVariants.{One, Two}
use Rattle.record_text.specs.TextLines.{TextLine}
use Rattle.record_text.specs.TextLines.{Head, Slots, Rules, Room, Cut, Close, Sum, Open, End}

abbrev pub is_digit : ℕ → Bool
is_digit byte = nat_le 48 byte && nat_le byte 57

abbrev pub is_short : List ℕ → Bool
is_short text = nat_le 1 (length text) && nat_le (length text) 18

abbrev pub has_no_leading_zero : List ℕ → Bool
has_no_leading_zero text = not (starts_with nat_eq text (codes "0")) || length text == 1

-- 1 to 18 digits, of which the first is no zero, or a zero alone
abbrev pub is_numeral : List ℕ → Bool
is_numeral text = list_all is_digit text && (is_short text && has_no_leading_zero text)

abbrev pub natural_at : List ℕ → Option ℕ
natural_at text = if is_numeral text then Some (digits_value 10 text) else None

-- the number below 0 of a magnitude
abbrev pub below_zero : ℕ → Option ℤ
below_zero magnitude = if magnitude == 0 then None else Some (pos 0 -ℤ pos magnitude)

abbrev pub integer_at : List ℕ → Option ℤ
integer_at text = if starts_with nat_eq text (codes "-") then option_and_then below_zero (natural_at (drop 1 text)) else option_map pos (natural_at text)

-- whether a word has a first byte, and it isn't this one
abbrev pub other_first : List ℕ → ℕ → Bool
other_first [] byte = false
other_first (first ∷ word) byte = not (first == byte)

-- whether a text and a word have a first byte, and these differ
abbrev pub differ_first : List ℕ → List ℕ → Bool
differ_first [] word = false
differ_first (byte ∷ text) word = other_first word byte

abbrev pub is_no_space : ℕ → Bool
is_no_space byte = not (byte == 32)

abbrev pub cut_of : Side → Option ℕ → Option ℤ → Option TextLine
cut_of side (Some slot) (Some v) = Some (Cut side slot v)
cut_of side (Some slot) None = None
cut_of side None value = None

-- a slot and a value, divided at this place
abbrev pub divided_at : Side → List ℕ → ℕ → Option TextLine
divided_at side text space = if nat_lt space (length text) then cut_of side (natural_at (take space text)) (integer_at (drop (space + 1) text)) else None

abbrev pub cut_at : Side → List ℕ → Option TextLine
cut_at side text = divided_at side text (prefix_len is_no_space text)

-- ---- sums

-- the number after the space that a text begins with
abbrev pub number_after : List ℕ → Option ℕ
number_after [] = None
number_after (b ∷ text) = if b == 32 then natural_at (take (prefix_len is_no_space text) text) else None

-- what comes after that number
abbrev pub after_number : List ℕ → List ℕ
after_number [] = []
after_number (b ∷ text) = drop (prefix_len is_no_space text) text

-- the pick of these numbers, of which the first is 1,000,000 at most
abbrev pub pick_with : Option ℕ → Option ℕ → Option Pick
pick_with (Some times) (Some rule) = if nat_le times 1000000 then Some (record { times = times; rule = rule }) else None
pick_with (Some times) None = None
pick_with None rule = None

abbrev pub pick_at : List ℕ → Option Pick
pick_at text = pick_with (number_after text) (number_after (after_number text))

abbrev pub after_pick : List ℕ → List ℕ
after_pick text = after_number (after_number text)

abbrev pub picks_then : Option Pick → Option (List Pick) → Option (List Pick)
picks_then (Some p) (Some ps) = Some (p ∷ ps)
picks_then (Some p) None = None
picks_then None ps = None

-- the picks of a text, if there are no more than these
abbrev pub picks_at : ℕ → List ℕ → Option (List Pick)
picks_at most [] = Some []
picks_at zero (b ∷ text) = None
picks_at (suc most) (b ∷ text) = picks_then (pick_at (b ∷ text)) (picks_at most (after_pick (b ∷ text)))

abbrev pub sum_of : List Pick → Option TextLine
sum_of picks = if may_stand picks then Some (Sum picks) else None

abbrev pub sum_at : List ℕ → Option TextLine
sum_at text = option_and_then sum_of (picks_at 64 text)

-- ---- lines

abbrev pub word_at : List ℕ → Option TextLine
word_at text =
    if bytes_eq text (codes "open") then Some Open
    else if bytes_eq text (codes "end") then Some End
    else if bytes_eq text (codes "osc-refutation 1") then Some (Head false One)
    else if bytes_eq text (codes "osc-refutation 2") then Some (Head false Two)
    else if bytes_eq text (codes "osc-undecided 1") then Some (Head true One)
    else if bytes_eq text (codes "osc-undecided 2") then Some (Head true Two) else None

abbrev pub heading_at : List ℕ → Option TextLine
heading_at text =
    if starts_with nat_eq text (codes "slots ") then option_map Slots (natural_at (drop 6 text))
    else if starts_with nat_eq text (codes "rules ") then option_map Rules (natural_at (drop 6 text))
    else if starts_with nat_eq text (codes "room ") then option_map Room (natural_at (drop 5 text)) else None

abbrev pub line_at : List ℕ → Option TextLine
line_at text =
    if starts_with nat_eq text (codes "low ") then cut_at Side.Low (drop 4 text)
    else if starts_with nat_eq text (codes "high ") then cut_at Side.High (drop 5 text)
    else if starts_with nat_eq text (codes "close ") then option_map Close (natural_at (drop 6 text))
    else if starts_with nat_eq text (codes "sum") then sum_at (drop 3 text)
    else if starts_with nat_eq text (codes "o") || starts_with nat_eq text (codes "e") then word_at text
    else heading_at text

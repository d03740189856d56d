-- Worked sources: their tokens with their places, and their first faults.
use Rattle.std.specs.Prelude.{ℕ, List, [], ◌∷◌, ◌++◌, replicate, codes, refl}
use Rattle.osc_base.specs.declared.fault.FaultCode.{FaultCode}
use Rattle.osc_base.specs.declared.fault.Fault.{Fault}
use Rattle.dsl_tree.specs.declared.token.Token.{Token}
use Rattle.dsl_tree.specs.declared.token.TokenKind.{TokenKind}
use Rattle.dsl_tree.specs.declared.token.TokenKind.TheVariants.{Newline, Indent, Dedent, End, Mark, Word, Name, Number, Physical, Chars}
use Rattle.dsl_tree.specs.declared.token.MarkKind.TheVariants.{OpenRound, CloseRound, OpenSquare, CloseSquare, Colon, Dot, TwoDots}
use Rattle.dsl_tree.specs.declared.token.WordKind.TheVariants.{ScenarioWord, KeepWord, InWord, ImportWord, DoWord, SerialWord, ParallelWord, WithWord}
use Rattle.dsl_lexer.specs.SourceTokens.{TokensCut, IsFirstFault}
use Rattle.dsl_lexer.specs.Scan.{number_len, closing, mark_len, line_end_len, control_at}
use Rattle.std.proofs.Common.{subst, suc, zero, ◌<◌, take, arith}
use Rattle.std.specs.Str.{IsUtf8, IsValidUpTo, is_utf8, chars}
use Rattle.std.proofs.lemmas.Bool.{false≢true}
use Rattle.std.proofs.lemmas.Str.{is_utf8-from_IsUtf8}
use Rattle.std.proofs.lemmas.List.{take_all}
use lib.Utf8.{encode}
use Rattle.dsl_lexer.proofs.Texts.{valid_all, valid_part}
use Rattle.dsl_lexer.proofs.Running.{ran, ran_ascii}

-- a token of file 7
abbrev at : ℕ → ℕ → ℕ → TokenKind → Token
at line column number kind = record { place = record { file = 7; line = line; column = column; token = number }; kind = kind }

abbrev fault : FaultCode → ℕ → ℕ → ℕ → Fault
fault code line column number = record { place = record { file = 7; line = line; column = column; token = number }; code = code }

-- sources and their tokens

-- an empty file
abbrev nothing_source : List ℕ
nothing_source = []

nothing : TokensCut 7 nothing_source
    (at 1 1 0 End ∷ [])
unfolding number_len closing mark_len line_end_len control_at
nothing = ran_ascii 7 nothing_source _ refl refl

-- the smallest scenario
abbrev smallest_source : List ℕ
smallest_source = codes "scenario top:" ++ 10 ∷ (codes "    x: int" ++ 10 ∷ (codes "    keep(x in [3..3])" ++ 10 ∷ []))

smallest : TokensCut 7 smallest_source
    (at 1 1 0 (Word ScenarioWord)
    ∷ at 1 10 1 (Name (codes "top"))
    ∷ at 1 13 2 (Mark Colon)
    ∷ at 1 14 3 Newline
    ∷ at 2 5 4 Indent
    ∷ at 2 5 5 (Name (codes "x"))
    ∷ at 2 6 6 (Mark Colon)
    ∷ at 2 8 7 (Name (codes "int"))
    ∷ at 2 11 8 Newline
    ∷ at 3 5 9 (Word KeepWord)
    ∷ at 3 9 10 (Mark OpenRound)
    ∷ at 3 10 11 (Name (codes "x"))
    ∷ at 3 12 12 (Word InWord)
    ∷ at 3 15 13 (Mark OpenSquare)
    ∷ at 3 16 14 (Number 3 0)
    ∷ at 3 17 15 (Mark TwoDots)
    ∷ at 3 19 16 (Number 3 0)
    ∷ at 3 20 17 (Mark CloseSquare)
    ∷ at 3 21 18 (Mark CloseRound)
    ∷ at 3 22 19 Newline
    ∷ at 4 1 20 Dedent
    ∷ at 4 1 21 End ∷ [])
unfolding number_len closing mark_len line_end_len control_at
smallest = ran_ascii 7 smallest_source _ refl refl

-- an import, a label and physical literals
abbrev cut_in_source : List ℕ
cut_in_source = codes "import osc.standard" ++ 10 ∷ (codes "scenario top:" ++ 10 ∷ (codes "    do serial:" ++ 10 ∷ (codes "        a: parallel:" ++ 10 ∷ (codes "            ego.drive(duration: 3s) with:" ++ 10 ∷ (codes "                lane(1)" ++ 10 ∷ [])))))

cut_in : TokensCut 7 cut_in_source
    (at 1 1 0 (Word ImportWord)
    ∷ at 1 8 1 (Name (codes "osc"))
    ∷ at 1 11 2 (Mark Dot)
    ∷ at 1 12 3 (Name (codes "standard"))
    ∷ at 1 20 4 Newline
    ∷ at 2 1 5 (Word ScenarioWord)
    ∷ at 2 10 6 (Name (codes "top"))
    ∷ at 2 13 7 (Mark Colon)
    ∷ at 2 14 8 Newline
    ∷ at 3 5 9 Indent
    ∷ at 3 5 10 (Word DoWord)
    ∷ at 3 8 11 (Word SerialWord)
    ∷ at 3 14 12 (Mark Colon)
    ∷ at 3 15 13 Newline
    ∷ at 4 9 14 Indent
    ∷ at 4 9 15 (Name (codes "a"))
    ∷ at 4 10 16 (Mark Colon)
    ∷ at 4 12 17 (Word ParallelWord)
    ∷ at 4 20 18 (Mark Colon)
    ∷ at 4 21 19 Newline
    ∷ at 5 13 20 Indent
    ∷ at 5 13 21 (Name (codes "ego"))
    ∷ at 5 16 22 (Mark Dot)
    ∷ at 5 17 23 (Name (codes "drive"))
    ∷ at 5 22 24 (Mark OpenRound)
    ∷ at 5 23 25 (Name (codes "duration"))
    ∷ at 5 31 26 (Mark Colon)
    ∷ at 5 33 27 (Physical 3 0 (codes "s"))
    ∷ at 5 35 28 (Mark CloseRound)
    ∷ at 5 37 29 (Word WithWord)
    ∷ at 5 41 30 (Mark Colon)
    ∷ at 5 42 31 Newline
    ∷ at 6 17 32 Indent
    ∷ at 6 17 33 (Name (codes "lane"))
    ∷ at 6 21 34 (Mark OpenRound)
    ∷ at 6 22 35 (Number 1 0)
    ∷ at 6 23 36 (Mark CloseRound)
    ∷ at 6 24 37 Newline
    ∷ at 7 1 38 Dedent
    ∷ at 7 1 39 Dedent
    ∷ at 7 1 40 Dedent
    ∷ at 7 1 41 Dedent
    ∷ at 7 1 42 End ∷ [])
unfolding number_len closing mark_len line_end_len control_at
cut_in = ran_ascii 7 cut_in_source _ refl refl

-- two blocks end at one line; a joined line, a comment, and no last line end
abbrev two_levels_source : List ℕ
two_levels_source = codes "a:" ++ 13 ∷ 10 ∷ (codes "  b " ++ 92 ∷ 10 ∷ (codes "  c:" ++ 10 ∷ (codes "      d # e" ++ 10 ∷ 10 ∷ (codes "f(" ++ 10 ∷ (codes " g)")))))

two_levels : TokensCut 7 two_levels_source
    (at 1 1 0 (Name (codes "a"))
    ∷ at 1 2 1 (Mark Colon)
    ∷ at 1 3 2 Newline
    ∷ at 2 3 3 Indent
    ∷ at 2 3 4 (Name (codes "b"))
    ∷ at 3 3 5 (Name (codes "c"))
    ∷ at 3 4 6 (Mark Colon)
    ∷ at 3 5 7 Newline
    ∷ at 4 7 8 Indent
    ∷ at 4 7 9 (Name (codes "d"))
    ∷ at 4 8 10 Newline
    ∷ at 6 1 11 Dedent
    ∷ at 6 1 12 Dedent
    ∷ at 6 1 13 (Name (codes "f"))
    ∷ at 6 2 14 (Mark OpenRound)
    ∷ at 7 2 15 (Name (codes "g"))
    ∷ at 7 3 16 (Mark CloseRound)
    ∷ at 7 4 17 Newline
    ∷ at 7 4 18 End ∷ [])
unfolding number_len closing mark_len line_end_len control_at
two_levels = ran_ascii 7 two_levels_source _ refl refl

-- numbers and strings
abbrev literals_source : List ℕ
literals_source = codes "1..2 1.50 0x1F 1.0x5 00x1 '" ++ 34 ∷ (codes "' " ++ 34 ∷ (codes "a" ++ 92 ∷ 34 ∷ 92 ∷ 92 ∷ 34 ∷ []))

literals : TokensCut 7 literals_source
    (at 1 1 0 (Number 1 0)
    ∷ at 1 2 1 (Mark TwoDots)
    ∷ at 1 4 2 (Number 2 0)
    ∷ at 1 6 3 (Number 150 2)
    ∷ at 1 11 4 (Number 31 0)
    ∷ at 1 16 5 (Physical 10 1 (codes "x5"))
    ∷ at 1 22 6 (Physical 0 0 (codes "x1"))
    ∷ at 1 27 7 (Chars (34 ∷ []))
    ∷ at 1 31 8 (Chars (codes "a" ++ 34 ∷ 92 ∷ []))
    ∷ at 1 38 9 Newline
    ∷ at 1 38 10 End ∷ [])
unfolding number_len closing mark_len line_end_len control_at
literals = ran_ascii 7 literals_source _ refl refl

-- a bracket that stays open: no NEWLINE at the end
abbrev open_bracket_source : List ℕ
open_bracket_source = codes "  x (" ++ 10 ∷ (codes " y")

open_bracket : TokensCut 7 open_bracket_source
    (at 1 3 0 Indent
    ∷ at 1 3 1 (Name (codes "x"))
    ∷ at 1 5 2 (Mark OpenRound)
    ∷ at 2 2 3 (Name (codes "y"))
    ∷ at 2 3 4 Dedent
    ∷ at 2 3 5 End ∷ [])
unfolding number_len closing mark_len line_end_len control_at
open_bracket = ran_ascii 7 open_bracket_source _ refl refl

-- a line that begins with joined line ends has the width of all its spaces
abbrev joined_start_source : List ℕ
joined_start_source = codes "  " ++ 92 ∷ 10 ∷ (codes "  x")

joined_start : TokensCut 7 joined_start_source
    (at 2 3 0 Indent
    ∷ at 2 3 1 (Name (codes "x"))
    ∷ at 2 4 2 Newline
    ∷ at 2 4 3 Dedent
    ∷ at 2 4 4 End ∷ [])
unfolding number_len closing mark_len line_end_len control_at
joined_start = ran_ascii 7 joined_start_source _ refl refl

-- sources and their first faults

-- a tab before the content
abbrev early_tab_is_tab_source : List ℕ
early_tab_is_tab_source = codes "scenario top:" ++ 10 ∷ 9 ∷ (codes "x: int" ++ 10 ∷ [])

early_tab_is_tab : IsFirstFault 7 early_tab_is_tab_source (fault FaultCode.Tab 2 1 4)
unfolding number_len closing mark_len line_end_len control_at
early_tab_is_tab = ran_ascii 7 early_tab_is_tab_source _ refl refl

-- a tab before a joined line end
abbrev tab_in_joined_is_tab_source : List ℕ
tab_in_joined_is_tab_source = 9 ∷ 92 ∷ 10 ∷ (codes "x")

tab_in_joined_is_tab : IsFirstFault 7 tab_in_joined_is_tab_source (fault FaultCode.Tab 1 1 0)
unfolding number_len closing mark_len line_end_len control_at
tab_in_joined_is_tab = ran_ascii 7 tab_in_joined_is_tab_source _ refl refl

-- a width that is neither opened nor the greatest
abbrev bad_width_is_indent_source : List ℕ
bad_width_is_indent_source = codes "scenario top:" ++ 10 ∷ (codes "        x: int" ++ 10 ∷ (codes "    y: int" ++ 10 ∷ []))

bad_width_is_indent : IsFirstFault 7 bad_width_is_indent_source (fault FaultCode.Indent 3 5 9)
unfolding number_len closing mark_len line_end_len control_at
bad_width_is_indent = ran_ascii 7 bad_width_is_indent_source _ refl refl

-- `Indent` wins over `Character` at its place
abbrev width_before_character_source : List ℕ
width_before_character_source = codes "  x" ++ 10 ∷ (codes " $")

width_before_character : IsFirstFault 7 width_before_character_source (fault FaultCode.Indent 2 2 3)
unfolding number_len closing mark_len line_end_len control_at
width_before_character = ran_ascii 7 width_before_character_source _ refl refl

-- a carriage return that is no line end
abbrev carriage_return_is_character_source : List ℕ
carriage_return_is_character_source = codes "a" ++ 13 ∷ 13 ∷ 10 ∷ []

carriage_return_is_character : IsFirstFault 7 carriage_return_is_character_source (fault FaultCode.Character 1 2 1)
unfolding number_len closing mark_len line_end_len control_at
carriage_return_is_character = ran_ascii 7 carriage_return_is_character_source _ refl refl

-- a control character in a string
abbrev control_is_character_source : List ℕ
control_is_character_source = 34 ∷ (codes "a" ++ 1 ∷ (codes "b" ++ 34 ∷ []))

control_is_character : IsFirstFault 7 control_is_character_source (fault FaultCode.Character 1 3 0)
unfolding number_len closing mark_len line_end_len control_at
control_is_character = ran_ascii 7 control_is_character_source _ refl refl

-- U+0085 in a string
abbrev next_line_is_character_source : List ℕ
next_line_is_character_source = 34 ∷ 194 ∷ 133 ∷ 34 ∷ []

next_line_utf8 : IsUtf8 next_line_is_character_source
unfolding encode
next_line_utf8 = (34 ∷ 133 ∷ 34 ∷ [], (refl, refl))

next_line_is_character : IsFirstFault 7 next_line_is_character_source (fault FaultCode.Character 1 2 0)
unfolding number_len closing mark_len line_end_len control_at
next_line_is_character = ran 7 4 next_line_is_character_source _ (valid_all next_line_is_character_source next_line_utf8) refl

-- an escape that is none
abbrev escape_is_text_source : List ℕ
escape_is_text_source = codes "import " ++ 34 ∷ (codes "a" ++ 92 ∷ (codes "n" ++ 34 ∷ 10 ∷ []))

escape_is_text : IsFirstFault 7 escape_is_text_source (fault FaultCode.Text 1 8 1)
unfolding number_len closing mark_len line_end_len control_at
escape_is_text = ran_ascii 7 escape_is_text_source _ refl refl

-- no closing quote before the line end
abbrev unclosed_is_text_source : List ℕ
unclosed_is_text_source = codes "x " ++ 34 ∷ (codes "a" ++ 10 ∷ 34 ∷ [])

unclosed_is_text : IsFirstFault 7 unclosed_is_text_source (fault FaultCode.Text 1 3 1)
unfolding number_len closing mark_len line_end_len control_at
unclosed_is_text = ran_ascii 7 unclosed_is_text_source _ refl refl

-- a word after a number
abbrev word_is_number_source : List ℕ
word_is_number_source = codes "keep(3in [3..3])"

word_is_number : IsFirstFault 7 word_is_number_source (fault FaultCode.Number 1 6 2)
unfolding number_len closing mark_len line_end_len control_at
word_is_number = ran_ascii 7 word_is_number_source _ refl refl

-- 19 digits
abbrev digits_are_number_source : List ℕ
digits_are_number_source = codes "0000000000000000.003"

digits_are_number : IsFirstFault 7 digits_are_number_source (fault FaultCode.Number 1 1 0)
unfolding number_len closing mark_len line_end_len control_at
digits_are_number = ran_ascii 7 digits_are_number_source _ refl refl

-- no hexadecimal digit
abbrev hexadecimal_is_number_source : List ℕ
hexadecimal_is_number_source = codes "0xg"

hexadecimal_is_number : IsFirstFault 7 hexadecimal_is_number_source (fault FaultCode.Number 1 1 0)
unfolding number_len closing mark_len line_end_len control_at
hexadecimal_is_number = ran_ascii 7 hexadecimal_is_number_source _ refl refl

-- the 65th bracket
abbrev brackets_are_deep_source : List ℕ
brackets_are_deep_source = replicate 65 40

brackets_are_deep : IsFirstFault 7 brackets_are_deep_source (fault FaultCode.Deep 1 65 64)
unfolding number_len closing mark_len line_end_len control_at
brackets_are_deep = ran_ascii 7 brackets_are_deep_source _ refl refl

-- a block and 64 brackets
abbrev block_and_brackets_are_deep_source : List ℕ
block_and_brackets_are_deep_source = codes "a" ++ 10 ∷ 32 ∷ replicate 64 40

block_and_brackets_are_deep : IsFirstFault 7 block_and_brackets_are_deep_source (fault FaultCode.Deep 2 65 66)
unfolding number_len closing mark_len line_end_len control_at
block_and_brackets_are_deep = ran_ascii 7 block_and_brackets_are_deep_source _ refl refl

-- a byte that begins no character, in a comment
abbrev bad_byte_is_utf8_source : List ℕ
bad_byte_is_utf8_source = 35 ∷ 255 ∷ []

no_text : (m : ℕ) → 1 < m → ¬ (IsUtf8 (take m bad_byte_is_utf8_source))
unfolding is_utf8 chars encode
no_text zero h u = absurd (omega arith)
no_text (suc zero) h u = absurd (omega arith)
no_text (suc (suc m)) h u = absurd (false≢true (is_utf8-from_IsUtf8 (35 ∷ 255 ∷ []) (subst IsUtf8 (take_all (suc (suc m)) bad_byte_is_utf8_source (omega arith)) u)))

bad_byte_bad : IsValidUpTo bad_byte_is_utf8_source 1
unfolding encode
bad_byte_bad = record { short = omega arith; front = (35 ∷ [], (refl, refl)); longest = no_text }

bad_byte_is_utf8 : IsFirstFault 7 bad_byte_is_utf8_source (fault FaultCode.Utf8 1 2 0)
unfolding number_len closing mark_len line_end_len control_at
bad_byte_is_utf8 = ran 7 1 bad_byte_is_utf8_source _ (valid_part bad_byte_is_utf8_source 1 bad_byte_bad) refl

-- `Text` at the quote stands before a byte that begins no character
abbrev text_before_bad_source : List ℕ
text_before_bad_source = 34 ∷ 97 ∷ 255 ∷ 10 ∷ []

no_longer_text : (m : ℕ) → 2 < m → ¬ (IsUtf8 (take m text_before_bad_source))
unfolding is_utf8 chars encode
no_longer_text zero h u = absurd (omega arith)
no_longer_text (suc zero) h u = absurd (omega arith)
no_longer_text (suc (suc zero)) h u = absurd (omega arith)
no_longer_text (suc (suc (suc zero))) h u = absurd (false≢true (is_utf8-from_IsUtf8 (34 ∷ 97 ∷ 255 ∷ []) u))
no_longer_text (suc (suc (suc (suc m)))) h u =
    absurd (false≢true (is_utf8-from_IsUtf8 text_before_bad_source (subst IsUtf8 (take_all (suc (suc (suc (suc m)))) text_before_bad_source (omega arith)) u)))

text_before_bad_bad : IsValidUpTo text_before_bad_source 2
unfolding encode
text_before_bad_bad = record { short = omega arith; front = (34 ∷ 97 ∷ [], (refl, refl)); longest = no_longer_text }

text_before_bad : IsFirstFault 7 text_before_bad_source (fault FaultCode.Text 1 1 0)
unfolding number_len closing mark_len line_end_len control_at
text_before_bad = ran 7 2 text_before_bad_source _ (valid_part text_before_bad_source 2 text_before_bad_bad) refl

-- `Utf8` wins over `Character` at its place
abbrev bad_before_character_source : List ℕ
bad_before_character_source = 255 ∷ []

no_text_at_all : (m : ℕ) → 0 < m → ¬ (IsUtf8 (take m bad_before_character_source))
unfolding is_utf8 chars encode
no_text_at_all zero h u = absurd (omega arith)
no_text_at_all (suc m) h u =
    absurd (false≢true (is_utf8-from_IsUtf8 bad_before_character_source (subst IsUtf8 (take_all (suc m) bad_before_character_source (omega arith)) u)))

bad_before_character_bad : IsValidUpTo bad_before_character_source 0
unfolding encode
bad_before_character_bad = record { short = omega arith; front = ([], (refl, refl)); longest = no_text_at_all }

bad_before_character : IsFirstFault 7 bad_before_character_source (fault FaultCode.Utf8 1 1 0)
unfolding number_len closing mark_len line_end_len control_at
bad_before_character = ran 7 0 bad_before_character_source _ (valid_part bad_before_character_source 0 bad_before_character_bad) refl

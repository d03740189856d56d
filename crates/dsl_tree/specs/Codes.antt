-- Which kinds of token the grammar tells apart: each has a number, its code.
use Rattle.std.specs.Prelude.{ℕ, ◌==◌, nat_le, List, [], ◌∷◌, Bool, false, cond, codes, ◌||◌}
use Rattle.std.specs.Str.{bytes_eq}
use Rattle.dsl_tree.specs.declared.token.TokenKind.{TokenKind}
use Rattle.dsl_tree.specs.declared.token.MarkKind.{MarkKind}
use Rattle.dsl_tree.specs.declared.token.WordKind.{WordKind}

-- the three names that the grammar knows
abbrev pub si_text : List ℕ
si_text = codes "SI"

abbrev pub factor_text : List ℕ
factor_text = codes "factor"

abbrev pub offset_text : List ℕ
offset_text = codes "offset"

-- names: those three, and all others
abbrev pub si_name : ℕ
si_name = 5

abbrev pub factor_name : ℕ
factor_name = 6

abbrev pub offset_name : ℕ
offset_name = 7

abbrev pub other_name : ℕ
other_name = 8

abbrev pub name_code : List ℕ → ℕ
name_code text =
    cond (bytes_eq text si_text) si_name
    (cond (bytes_eq text factor_text) factor_name (cond (bytes_eq text offset_text) offset_name other_name))

-- numbers: whole ones up to 9, other whole ones, and those with a point
abbrev pub small_number : ℕ
small_number = 9

abbrev pub large_number : ℕ
large_number = 10

abbrev pub point_number : ℕ
point_number = 11

abbrev pub number_code : ℕ → ℕ → ℕ
number_code digits places = cond (places == 0) (cond (nat_le digits 9) small_number large_number) point_number

-- physical literals and texts
abbrev pub physical_code : ℕ
physical_code = 12

abbrev pub text_code : ℕ
text_code = 13

abbrev pub mark_code : MarkKind → ℕ
mark_code MarkKind.OpenRound = 20
mark_code MarkKind.CloseRound = 21
mark_code MarkKind.OpenSquare = 22
mark_code MarkKind.CloseSquare = 23
mark_code MarkKind.Colon = 24
mark_code MarkKind.Comma = 25
mark_code MarkKind.Dot = 26
mark_code MarkKind.TwoDots = 27
mark_code MarkKind.Assign = 28
mark_code MarkKind.Equal = 29
mark_code MarkKind.Differ = 30
mark_code MarkKind.Below = 31
mark_code MarkKind.AtMost = 32
mark_code MarkKind.Above = 33
mark_code MarkKind.AtLeast = 34
mark_code MarkKind.Arrow = 35
mark_code MarkKind.Plus = 36
mark_code MarkKind.Dash = 37
mark_code MarkKind.Star = 38
mark_code MarkKind.Slash = 39
mark_code MarkKind.Bang = 40

abbrev pub word_code : WordKind → ℕ
word_code WordKind.ImportWord = 50
word_code WordKind.TypeWord = 51
word_code WordKind.UnitWord = 52
word_code WordKind.IsWord = 53
word_code WordKind.OfWord = 54
word_code WordKind.EnumWord = 55
word_code WordKind.StructWord = 56
word_code WordKind.ActorWord = 57
word_code WordKind.ActionWord = 58
word_code WordKind.ScenarioWord = 59
word_code WordKind.InheritsWord = 60
word_code WordKind.ExtendWord = 61
word_code WordKind.ListWord = 62
word_code WordKind.KeepWord = 63
word_code WordKind.HardWord = 64
word_code WordKind.DefaultWord = 65
word_code WordKind.RemoveDefaultWord = 66
word_code WordKind.DoWord = 67
word_code WordKind.SerialWord = 68
word_code WordKind.ParallelWord = 69
word_code WordKind.OneOfWord = 70
word_code WordKind.WaitWord = 71
word_code WordKind.ElapsedWord = 72
word_code WordKind.WithWord = 73
word_code WordKind.ItWord = 74
word_code WordKind.InWord = 75
word_code WordKind.RangeWord = 76
word_code WordKind.AndWord = 77
word_code WordKind.OrWord = 78
word_code WordKind.NotWord = 79
word_code WordKind.TrueWord = 80
word_code WordKind.FalseWord = 81
word_code WordKind.ModifierWord = 82

abbrev pub code : TokenKind → ℕ
code TokenKind.Newline = 0
code TokenKind.Indent = 1
code TokenKind.Dedent = 2
code TokenKind.End = 3
code (TokenKind.LeftOut word) = 4
code (TokenKind.Name text) = name_code text
code (TokenKind.Number digits places) = number_code digits places
code (TokenKind.Physical digits places unit) = physical_code
code (TokenKind.Chars text) = text_code
code (TokenKind.Mark mark) = mark_code mark
code (TokenKind.Word word) = word_code word

-- whether a code is one of a list
abbrev pub has : List ℕ → ℕ → Bool
has [] k = false
has (c ∷ cs) k = (c == k) || has cs k

-- Which token a text is, by its shape.
use Rattle.std.specs.Prelude.{ℕ, ◌+◌, ◌*◌, ◌==◌, Bool, true, false, ◌-◌, ◌&&◌, not, nat_le, if◌then◌else◌, is_some, List, [], ◌∷◌, ◌++◌, length, take, drop, fold, take_while, Option, Some, None, codes}
use Rattle.std.specs.List.{list_all, prefix_len}
use Rattle.std.specs.Option.{option_map}
use Rattle.std.specs.Str.{bytes_eq}
use Rattle.std.specs.Char.{digit_value}
use Rattle.dsl_tree.specs.declared.token.TokenKind.{TokenKind}
use Rattle.dsl_tree.specs.declared.token.TokenKind.TheVariants.{Mark, Word, Name, Number, Physical, Chars}
use Rattle.dsl_tree.specs.declared.token.WordKind.TheVariants.{ImportWord, TypeWord, UnitWord, IsWord, OfWord, EnumWord, StructWord, ActorWord, ActionWord, ScenarioWord, InheritsWord, ExtendWord, ListWord, KeepWord, HardWord, DefaultWord, RemoveDefaultWord, DoWord, SerialWord, ParallelWord, OneOfWord, WaitWord, ElapsedWord, WithWord, ItWord, InWord, RangeWord, AndWord, OrWord, NotWord, TrueWord, FalseWord}
use Rattle.dsl_tree.specs.declared.token.ExcludedWord.TheVariants.{NamespaceWord, ExportWord, EventWord, OnWord, UntilWord, EmitWord, RiseWord, FallWord, EveryWord, VarWord, SampleWord, GlobalWord, DefWord, ExternalWord, CallWord, CoverWord, RecordWord, ModifierWord}
use Rattle.dsl_lexer.specs.Bytes.{is_digit, is_hexadecimal_digit, is_backslash}
use Rattle.dsl_lexer.specs.declared.shape.Shape.{Shape}
use Rattle.dsl_lexer.specs.declared.words.LanguageWord.{LanguageWord}
use Rattle.dsl_lexer.specs.declared.words.LanguageWord.TheVariants.{LeftOut, Reserved}
use Rattle.dsl_lexer.specs.Shapes.{MarkShape, NameShape, NumberShape, StringShape, entry, marks}

-- Words of the language, the shortest first

abbrev pub words : List (List ℕ × LanguageWord)
words = (codes "is", Reserved IsWord) ∷ (codes "of", Reserved OfWord) ∷ (codes "do", Reserved DoWord) ∷ (codes "it", Reserved ItWord)
    ∷ (codes "in", Reserved InWord) ∷ (codes "or", Reserved OrWord) ∷ (codes "on", LeftOut OnWord) ∷ (codes "and", Reserved AndWord)
    ∷ (codes "not", Reserved NotWord) ∷ (codes "var", LeftOut VarWord) ∷ (codes "def", LeftOut DefWord) ∷ (codes "type", Reserved TypeWord)
    ∷ (codes "unit", Reserved UnitWord) ∷ (codes "enum", Reserved EnumWord) ∷ (codes "list", Reserved ListWord)
    ∷ (codes "keep", Reserved KeepWord) ∷ (codes "hard", Reserved HardWord) ∷ (codes "wait", Reserved WaitWord)
    ∷ (codes "with", Reserved WithWord) ∷ (codes "true", Reserved TrueWord) ∷ (codes "emit", LeftOut EmitWord)
    ∷ (codes "rise", LeftOut RiseWord) ∷ (codes "fall", LeftOut FallWord) ∷ (codes "call", LeftOut CallWord)
    ∷ (codes "actor", Reserved ActorWord) ∷ (codes "range", Reserved RangeWord) ∷ (codes "false", Reserved FalseWord)
    ∷ (codes "event", LeftOut EventWord) ∷ (codes "until", LeftOut UntilWord) ∷ (codes "every", LeftOut EveryWord)
    ∷ (codes "cover", LeftOut CoverWord) ∷ (codes "import", Reserved ImportWord) ∷ (codes "struct", Reserved StructWord)
    ∷ (codes "action", Reserved ActionWord) ∷ (codes "extend", Reserved ExtendWord) ∷ (codes "serial", Reserved SerialWord)
    ∷ (codes "one_of", Reserved OneOfWord) ∷ (codes "export", LeftOut ExportWord) ∷ (codes "sample", LeftOut SampleWord)
    ∷ (codes "global", LeftOut GlobalWord) ∷ (codes "record", LeftOut RecordWord) ∷ (codes "default", Reserved DefaultWord)
    ∷ (codes "elapsed", Reserved ElapsedWord) ∷ (codes "scenario", Reserved ScenarioWord) ∷ (codes "inherits", Reserved InheritsWord)
    ∷ (codes "parallel", Reserved ParallelWord) ∷ (codes "external", LeftOut ExternalWord) ∷ (codes "modifier", LeftOut ModifierWord)
    ∷ (codes "namespace", LeftOut NamespaceWord) ∷ (codes "remove_default", Reserved RemoveDefaultWord) ∷ []

-- Rows of words

-- the words of all rows, the first row first
abbrev pub all_words : {X : Type 0} → List (List X) → List X
all_words [] = []
all_words (row ∷ more) = row ++ all_words more

-- the words of row n have n letters, those of the next row one more, and so on
abbrev pub is_by_length : {K : Type 0} → ℕ → List (List (List ℕ × K)) → Bool
is_by_length n [] = true
is_by_length n (row ∷ more) = list_all (λ e. length e.0 == n) row && is_by_length (n + 1) more

-- a name that is a word of the language is that word, any other is a name of the program's own
abbrev pub word_or_name : Option LanguageWord → List ℕ → TokenKind
word_or_name (Some (Reserved word)) text = Word word
word_or_name (Some (LeftOut word)) text = TokenKind.LeftOut word
word_or_name None text = Name text

abbrev pub name_kind : List ℕ → TokenKind
name_kind text = word_or_name (entry text words) text

abbrev pub is_word : List ℕ → Bool
is_word text = is_some (entry text words)

-- the number that digits stand for
abbrev pub value : ℕ → List ℕ → ℕ
value base digits = fold (λ n d. n * base + digit_value d) 0 digits

-- `0x` and 1 to 14 hexadecimal digits, with no name character after them
abbrev pub hexadecimal_kind : List ℕ → Option TokenKind
hexadecimal_kind digits =
    if list_all is_hexadecimal_digit digits && nat_le 1 (length digits) && nat_le (length digits) 14 then Some (Number (value 16 digits) 0) else None

-- what stands after the first digits: the digits after a point, and the unit's name
abbrev pub fraction : List ℕ → List ℕ
fraction [] = []
fraction (b ∷ more) = if b == 46 then take_while is_digit more else []

abbrev pub unit_name : List ℕ → List ℕ
unit_name [] = []
unit_name (b ∷ more) = if b == 46 then drop (prefix_len is_digit more) more else b ∷ more

-- a number of these digits before and after the point, and the name of its unit, if it has one:
-- at most 18 digits, and the unit is no word
abbrev pub decimal_kind : List ℕ → List ℕ → List ℕ → Option TokenKind
decimal_kind whole part [] = if nat_le (length whole + length part) 18 then Some (Number (value 10 (whole ++ part)) (length part)) else None
decimal_kind whole part (b ∷ unit) =
    if nat_le (length whole + length part) 18 && not (is_word (b ∷ unit)) then Some (Physical (value 10 (whole ++ part)) (length part) (b ∷ unit)) else None

-- the number or physical literal that a text of a number's shape is
abbrev pub number_kind : List ℕ → Option TokenKind
number_kind text = if bytes_eq (take 2 text) (codes "0x") then hexadecimal_kind (drop 2 text)
    else (let behind = drop (prefix_len is_digit text) text in decimal_kind (take_while is_digit text) (fraction behind) (unit_name behind))

-- The text between quotes with its escapes read: a backslash falls away, and the byte after it stands for itself.
-- `CharsLaw` says that this is the text of `IsInside`.
abbrev pub unescaped : Bool → List ℕ → List ℕ
unescaped escaped [] = []
unescaped true (b ∷ more) = b ∷ unescaped false more
unescaped false (b ∷ more) = if is_backslash b then unescaped true more else b ∷ unescaped false more

abbrev pub string_chars : List ℕ → List ℕ
string_chars text = unescaped false (take (length text - 2) (drop 1 text))

-- the token that a text of a shape is; a separator is none, and a text of a number's shape may be none
abbrev pub kind_of : Shape → List ℕ → Option TokenKind
kind_of MarkShape text = option_map Mark (entry text marks)
kind_of NameShape text = Some (name_kind text)
kind_of NumberShape text = number_kind text
kind_of StringShape text = Some (Chars (string_chars text))
kind_of _ text = None

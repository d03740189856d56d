-- What the tokens of each source are like: numbers have at most 18 digits, no name is a word, and strings are few.
use Rattle.std.specs.Prelude.{◌≡◌, ℕ, ◌≤◌, ◌^◌, ◌&&◌, Bool, true, false, not, List, length, filter, nat_lt, nat_le}
use Rattle.std.specs.List.{list_all}
use Rattle.name_scope.specs.dsl_tree.declared.token.Token.{Token}
use Rattle.name_scope.specs.dsl_tree.declared.token.TokenKind.{TokenKind}
use Rattle.dsl_lexer.specs.Kinds.{is_word}
use Rattle.dsl_lexer.specs.SourceTokens.{TokensCut}

-- a number of a token with at most 18 digits, and as many places
abbrev pub has_few_digits : TokenKind → Bool
has_few_digits (TokenKind.Number digits places) = nat_lt digits (10 ^ 18) && nat_le places 18
has_few_digits (TokenKind.Physical digits places unit) = nat_lt digits (10 ^ 18) && nat_le places 18
has_few_digits _ = true

-- a name that is no word
abbrev pub is_no_word : TokenKind → Bool
is_no_word (TokenKind.Name text) = not (is_word text)
is_no_word _ = true

-- a string
abbrev pub is_string : TokenKind → Bool
is_string (TokenKind.Chars text) = true
is_string _ = false

-- each token of these passes the test
abbrev pub all_kinds : (TokenKind → Bool) → List Token → Bool
all_kinds test tokens = list_all (λ (t : Token). test t.kind) tokens

-- the number of strings among tokens
abbrev pub count_strings : List Token → ℕ
count_strings tokens = length (filter (λ (t : Token). is_string t.kind) tokens)

-- ---- laws of the tokens of a source

-- each number has at most 18 digits
abbrev pub NumbersAreShort : Type 0
NumbersAreShort = (file : ℕ) (bytes : List ℕ) (found : List Token) → TokensCut file bytes found → all_kinds has_few_digits found ≡ true

-- no name is a word of the language
abbrev pub NamesAreNoWords : Type 0
NamesAreNoWords = (file : ℕ) (bytes : List ℕ) (found : List Token) → TokensCut file bytes found → all_kinds is_no_word found ≡ true

-- there are no more strings than bytes
abbrev pub StringsAreFew : Type 0
StringsAreFew = (file : ℕ) (bytes : List ℕ) (found : List Token) → TokensCut file bytes found → count_strings found ≤ length bytes

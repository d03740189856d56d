-- What a piece of the source looks like: for each shape the set of byte strings that have it.
-- No text has two shapes, as the first byte tells them apart.
use Rattle.std.specs.Prelude.{ℕ, ◌≡◌, ◌==◌, Bool, true, false, ◌&&◌, not, if◌then◌else◌, List, [], ◌∷◌, ◌++◌, Option, Some, None, IsSome, IsTrue, codes, ◌⊎◌}
use Rattle.std.specs.List.{list_all}
use Rattle.std.specs.Str.{bytes_eq}
use Rattle.dsl_tree.specs.declared.token.MarkKind.TheVariants.{OpenRound, CloseRound, OpenSquare, CloseSquare, Colon, Comma, Dot, TwoDots, Assign, Equal, Differ, Below, AtMost, Above, AtLeast, Arrow, Plus, Dash, Star, Slash, Bang}
use Rattle.dsl_tree.specs.declared.token.MarkKind.{MarkKind}
use Rattle.dsl_lexer.specs.declared.shape.Shape.{Shape}
pub use Rattle.dsl_lexer.specs.declared.shape.Shape.TheVariants.{Space, Tab, Comment, LineEnd, Joint, MarkShape, NameShape, NumberShape, StringShape}
use Rattle.dsl_lexer.specs.Bytes.{is_digit, is_name_start, is_name_byte, is_line_feed, is_backslash, is_quote, is_escapable}

-- whether a piece of the shape is there for a token: the others only separate
abbrev pub is_lexeme : Shape → Bool
is_lexeme MarkShape = true
is_lexeme NameShape = true
is_lexeme NumberShape = true
is_lexeme StringShape = true
is_lexeme _ = false

-- what a table has for a text
abbrev pub entry : {K : Type 0} → List ℕ → List (List ℕ × K) → Option K
entry text [] = None
entry text ((word, kind) ∷ more) = if bytes_eq text word then Some kind else entry text more

abbrev pub marks : List (List ℕ × MarkKind)
marks = (codes "(", OpenRound) ∷ (codes ")", CloseRound) ∷ (codes "[", OpenSquare) ∷ (codes "]", CloseSquare)
    ∷ (codes ":", Colon) ∷ (codes ",", Comma) ∷ (codes ".", Dot) ∷ (codes "..", TwoDots)
    ∷ (codes "=", Assign) ∷ (codes "==", Equal) ∷ (codes "!=", Differ) ∷ (codes "<", Below) ∷ (codes "<=", AtMost)
    ∷ (codes ">", Above) ∷ (codes ">=", AtLeast) ∷ (codes "=>", Arrow)
    ∷ (codes "+", Plus) ∷ (codes "-", Dash) ∷ (codes "*", Star) ∷ (codes "/", Slash) ∷ (codes "!", Bang) ∷ []

-- a line feed, or a carriage return and a line feed
abbrev pub IsLineEnd : List ℕ → Type 0
IsLineEnd text = (text ≡ 10 ∷ []) ⊎ (text ≡ 13 ∷ 10 ∷ [])

-- a name or a word
abbrev pub IsName : List ℕ → Type 0
IsName [] = ⊥
IsName (b ∷ more) = IsTrue (is_name_start b) × IsTrue (list_all is_name_byte more)

-- a digit and the name characters directly after it; a digit is a name character too
abbrev pub IsDigitRun : List ℕ → Type 0
IsDigitRun [] = ⊥
IsDigitRun (b ∷ more) = IsTrue (is_digit b) × IsTrue (list_all is_name_byte more)

abbrev pub IsDigits : List ℕ → Type 0
IsDigits [] = ⊥
IsDigits (b ∷ more) = IsTrue (is_digit b) × IsTrue (list_all is_digit more)

-- a number with what stands directly after it, with a point (46) between digits or without one. Not each such text is
-- a number or a physical literal: `number_kind` says which
abbrev pub IsNumber : List ℕ → Type 0
IsNumber text = IsDigitRun text ⊎ ((whole more : List ℕ) × (text ≡ whole ++ 46 ∷ more) × IsDigits whole × IsDigitRun more)

-- a byte that stands for itself between two such quotes
abbrev pub is_plain : ℕ → ℕ → Bool
is_plain quote b = not (b == quote) && not (is_backslash b) && not (is_line_feed b)

-- What stands between two such quotes, and the text that it stands for: a plain byte for itself, and a backslash with an
-- escapable byte after it for that byte.
abbrev pub IsInside : ℕ → List ℕ → List ℕ → Type 0
IsInside quote inside [] = inside ≡ []
IsInside quote inside (c ∷ chars) = (rest : List ℕ)
    × (((inside ≡ c ∷ rest) × IsTrue (is_plain quote c)) ⊎ ((inside ≡ 92 ∷ c ∷ rest) × IsTrue (is_escapable c))) × IsInside quote rest chars

abbrev pub IsString : List ℕ → Type 0
IsString text = (quote : ℕ) × (inside : List ℕ) × (chars : List ℕ) × (text ≡ quote ∷ inside ++ quote ∷ []) × IsTrue (is_quote quote) × IsInside quote inside chars

-- A comment has no line feed. Of a line end with a carriage return it takes the return: no token and no place tells.
abbrev pub IsShape : Shape → List ℕ → Type 0
IsShape Space text = text ≡ codes " "
IsShape Tab text = text ≡ 9 ∷ []
IsShape Comment text = (more : List ℕ) × (text ≡ codes "#" ++ more) × IsTrue (list_all (λ b. not (is_line_feed b)) more)
IsShape LineEnd text = IsLineEnd text
IsShape Joint text = (end : List ℕ) × (text ≡ 92 ∷ end) × IsLineEnd end
IsShape MarkShape text = IsSome (entry text marks)
IsShape NameShape text = IsName text
IsShape NumberShape text = IsNumber text
IsShape StringShape text = IsString text

-- A source is cut into pieces, each the longest that fits. Lists of pieces have the latest piece first, so that what
-- stands before a piece is the rest of the list.
use Rattle.std.specs.Prelude.{ℕ, ◌+◌, ◌≤◌, ◌≡◌, ◌≢◌, IsTrue, List, [], ◌∷◌, ◌++◌, length}
use Rattle.dsl_lexer.specs.declared.shape.Shape.{Shape}
use Rattle.dsl_lexer.specs.Shapes.{is_lexeme, IsShape}

-- a piece: the offset of its first byte, its shape and its bytes
pub record Piece : Type 0 where
  pub at : ℕ
  pub shape : Shape
  pub text : List ℕ

-- the offset after the pieces
abbrev pub reach : List Piece → ℕ
reach [] = 0
reach (p ∷ before) = reach before + length p.text

-- no piece that fits at a text's place is longer, when rest stands after the text
abbrev pub IsLongest : List ℕ → List ℕ → Type 0
IsLongest text rest = (shape : Shape) (other behind : List ℕ) → IsShape shape other → text ++ rest ≡ other ++ behind → length other ≤ length text

-- the piece p stands between the pieces before it and the bytes of rest
pub record Stands (before : List Piece) (p : Piece) (rest : List ℕ) : Type 0 where
  pub at : p.at ≡ reach before
  pub shape : IsShape p.shape p.text
  pub longest : IsLongest p.text rest

-- the bytes are these pieces (the latest first), one after another, and then rest
abbrev pub Cut : List ℕ → List Piece → List ℕ → Type 0
Cut bytes [] rest = bytes ≡ rest
Cut bytes (p ∷ before) rest = Stands before p rest × Cut bytes before (p.text ++ rest)

-- more bytes follow, and no piece fits at the first of them
pub record IsStuck (rest : List ℕ) : Type 0 where
  pub more : rest ≢ []
  pub none : (shape : Shape) (text behind : List ℕ) → IsShape shape text → rest ≡ text ++ behind → ⊥

-- more bytes follow, and at the first of them is no space, tab, comment, line end or joined line end: a token, or what is none
pub record IsContent (rest : List ℕ) : Type 0 where
  pub more : rest ≢ []
  pub lexeme : (shape : Shape) (text behind : List ℕ) → IsShape shape text → rest ≡ text ++ behind → IsTrue (is_lexeme shape)

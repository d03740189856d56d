-- Which tokens a source has, and which faults.
use Rattle.std.specs.Prelude.{ℕ, ◌+◌, ◌<◌, ◌≤◌, ◌≢◌, ◌≡◌, Bool, true, false, ◌&&◌, not, nat_lt, IsTrue, is_some, List, [], ◌∷◌, ◌++◌, length, drop, Some, None, ◌⊎◌}
use Rattle.std.specs.Str.{IsUtf8, IsValidUpTo}
use Rattle.osc_base.specs.declared.fault.FaultCode.{FaultCode}
use Rattle.osc_base.specs.declared.fault.Fault.{Fault}
use Rattle.osc_base.specs.FaultRows.{IsNoLater}
use Rattle.dsl_tree.specs.declared.token.Token.{Token}
use Rattle.dsl_tree.specs.declared.token.TokenKind.TheVariants.{End}
use Rattle.dsl_lexer.specs.Bytes.{is_quote, begins_control, place_at}
use Rattle.dsl_lexer.specs.declared.shape.Shape.{Shape}
use Rattle.dsl_lexer.specs.Shapes.{StringShape, is_lexeme}
use Rattle.dsl_lexer.specs.Kinds.{kind_of}
use Rattle.dsl_lexer.specs.Pieces.{Piece, reach, Stands, Cut, IsStuck, IsContent}
use Rattle.dsl_lexer.specs.Layout.{line, width, widths, opened, fits, has_lexeme, begins_line, first_tab, depth, tokens, last_tokens, placed}

-- a control character stands at index i of the text
pub record HasControl (text : List ℕ) (i : ℕ) : Type 0 where
  pub byte : ℕ
  pub more : List ℕ
  pub split : drop i text ≡ byte ∷ more
  pub control : IsTrue (begins_control byte more)

-- the first token of a line has no tab before it in the line, and the line's width fits
pub record IsLaidOut (before : List Piece) : Type 0 where
  pub no_tab : first_tab (line before) ≡ None
  pub fitting : IsTrue (fits (width (line before)) (opened (widths before)))

-- what the faults at the start of a token are told by: its shape and text, and the depth before and after it
pub record Lexeme : Type 0 where
  pub shape : Shape
  pub text : List ℕ
  pub depth_before : ℕ
  pub depth_behind : ℕ

abbrev pub lexeme : Piece → List Piece → Lexeme
lexeme p before = record { shape = p.shape; text = p.text; depth_before = depth before; depth_behind = depth (p ∷ before) }

-- No token is of the text: a number with too many digits, or `0x` without a digit. Or a word directly after a decimal
-- number. Or another name character directly after a hexadecimal one.
abbrev pub no_number : Lexeme → Bool
no_number x = not (is_some (kind_of x.shape x.text))

-- an opening bracket or INDENT that makes more than 64 open brackets and opened blocks together
abbrev pub too_deep : Lexeme → Bool
too_deep x = nat_lt x.depth_before x.depth_behind && nat_lt 64 x.depth_behind

-- a fault's code, and the test that tells which tokens have it
abbrev pub TokenFault : Type 0
TokenFault = FaultCode × (Lexeme → Bool)

-- the faults at the start of a token, in the order of their codes
abbrev pub token_faults : List TokenFault
token_faults = (FaultCode.Number, no_number) ∷ (FaultCode.Deep, too_deep) ∷ []

-- x has one of these faults, and it has this code
abbrev pub IsThere : List TokenFault → Lexeme → FaultCode → Type 0
IsThere [] x code = ⊥
IsThere ((own, test) ∷ more) x code = ((code ≡ own) × IsTrue (test x)) ⊎ IsThere more x code

-- the piece p is there for a token, and has a fault of this code at its start
pub record HasTokenFault (p : Piece) (before : List Piece) (code : FaultCode) : Type 0 where
  pub token : IsTrue (is_lexeme p.shape)
  pub there : IsThere token_faults (lexeme p before) code

-- what the rules ask of a piece that stands after those in `before`
pub record IsSound (p : Piece) (before : List Piece) : Type 0 where
  pub laid_out : IsTrue (begins_line p before) → IsLaidOut before
  pub no_control : p.shape ≡ StringShape → (i : ℕ) → HasControl p.text i → ⊥
  pub no_fault : (code : FaultCode) → HasTokenFault p before code → ⊥

abbrev pub AreSound : List Piece → Type 0
AreSound [] = Unit {0}
AreSound (p ∷ before) = IsSound p before × AreSound before

-- The token list cuts the bytes: they are UTF-8 and a sequence of sound pieces, and these are its tokens.
pub record TokensCut (file : ℕ) (bytes : List ℕ) (found : List Token) : Type 0 where
  pub pieces : List Piece
  pub utf8 : IsUtf8 bytes
  pub cut : Cut bytes pieces []
  pub sound : AreSound pieces
  pub tokens : found ≡ placed file bytes 0 (tokens pieces ++ last_tokens pieces)

-- rest begins with the content of a logical line: its first byte that is no space, tab, comment, line end or joined line end
pub record BeginsContent (before : List Piece) (rest : List ℕ) : Type 0 where
  pub first : has_lexeme (line before) ≡ false
  pub content : IsContent rest

-- the piece p stands next after those in `before`
pub record IsNext (before : List Piece) (rest : List ℕ) (p : Piece) : Type 0 where
  pub behind : List ℕ
  pub split : rest ≡ p.text ++ behind
  pub stands : Stands before p behind

abbrev pub begins_with : (ℕ → Bool) → List ℕ → Bool
begins_with test [] = false
begins_with test (b ∷ more) = test b

-- a fault at offset n: the pieces are those before it, and rest is what stands after them
pub data FaultBehind (bytes : List ℕ) (before : List Piece) (rest : List ℕ) (n : ℕ) (code : FaultCode) : Type 0 where
  -- the first byte that begins no whole character
  bad_byte : code ≡ FaultCode.Utf8 → IsValidUpTo bytes n → reach before ≤ n
      → ((p : Piece) → IsNext before rest p → n < reach before + length p.text) → FaultBehind bytes before rest n code
  -- the first tab in the white space before the content of a logical line
  early_tab : code ≡ FaultCode.Tab → BeginsContent before rest → first_tab (line before) ≡ Some n → FaultBehind bytes before rest n code
  -- a width that is neither opened nor greater than all opened ones
  bad_width : code ≡ FaultCode.Indent → n ≡ reach before → BeginsContent before rest → fits (width (line before)) (opened (widths before)) ≡ false → FaultBehind bytes before rest n code
  -- a byte at which no piece begins, and no quote
  no_piece : code ≡ FaultCode.Character → n ≡ reach before → IsStuck rest → begins_with is_quote rest ≡ false → FaultBehind bytes before rest n code
  -- a control character in a string
  bad_control : (p : Piece) (i : ℕ) → code ≡ FaultCode.Character → IsNext before rest p → p.shape ≡ StringShape → HasControl p.text i → n ≡ reach before + i → FaultBehind bytes before rest n code
  -- a quote that no string begins with
  no_string : code ≡ FaultCode.Text → n ≡ reach before → IsStuck rest → begins_with is_quote rest ≡ true → FaultBehind bytes before rest n code
  -- a fault at the start of the next token
  bad_token : (p : Piece) → n ≡ reach before → IsNext before rest p → HasTokenFault p before code → FaultBehind bytes before rest n code

-- A fault at offset n, after so many tokens: those that the pieces before it bring, without the INDENT, DEDENTs and
-- NEWLINE of its own line that are still to come. The faults are those up to the first byte at which no piece begins:
-- what stands after it isn't cut.
pub record FaultAt (bytes : List ℕ) (n : ℕ) (code : FaultCode) (count : ℕ) : Type 0 where
  pub before : List Piece
  pub rest : List ℕ
  pub cut : Cut bytes before rest
  pub fault : FaultBehind bytes before rest n code
  pub counted : count ≡ length (tokens before)

-- the first fault: no other has a lesser place, or an equal place and a lesser code
pub record IsFirstFault (file : ℕ) (bytes : List ℕ) (fault : Fault) : Type 0 where
  pub at : ℕ
  pub count : ℕ
  pub is_fault : FaultAt bytes at fault.code count
  pub place : fault.place ≡ place_at file bytes at count
  pub first : (n : ℕ) (code : FaultCode) (tokens : ℕ) → FaultAt bytes n code tokens → IsNoLater at fault.code n code

-- no token list cuts the bytes
abbrev pub IsUncut : ℕ → List ℕ → Type 0
IsUncut file bytes = (found : List Token) → TokensCut file bytes found → ⊥

-- the last token, and no other, is END
abbrev pub EndsOnce : List Token → Type 0
EndsOnce [] = ⊥
EndsOnce (t ∷ []) = t.kind ≡ End
EndsOnce (t ∷ u ∷ more) = (t.kind ≢ End) × EndsOnce (u ∷ more)

-- What the lexer knows at a place, and what its steps give. This is no part of the meaning: the lemmas of proofs/ tie it
-- to `TokensCut` and `IsFirstFault`.
use Rattle.std.specs.Prelude.{ℕ, ◌+◌, ◌<◌, ◌≤◌, ◌≡◌, List, length, take, Option, Some, None, Result, Ok, Err}
use Rattle.std.specs.Str.{IsUtf8, IsValidUpTo}
use Rattle.osc_base.specs.declared.fault.FaultCode.{FaultCode}
use Rattle.osc_base.specs.declared.fault.Fault.{Fault}
use Rattle.dsl_lexer.specs.declared.spot.Spot.{Spot}
use Rattle.dsl_lexer.specs.declared.layout.Layout.{Layout}
use Rattle.osc_base.specs.declared.stop.Stop.{Stop}
use Rattle.osc_base.specs.declared.stop.Stop.TheVariants.{At, Memory}
use Rattle.dsl_lexer.specs.declared.shape.Shape.{Shape}
use Rattle.dsl_lexer.specs.Shapes.{StringShape, IsShape}
use Rattle.dsl_lexer.specs.Kinds.{string_chars}
use Rattle.dsl_lexer.specs.Scan.{piece_len}
use Rattle.dsl_lexer.specs.Room.{HasRoom}
use Rattle.dsl_lexer.specs.Bytes.{line_at, column_at}
use Rattle.dsl_lexer.specs.Pieces.{Piece, reach, Cut}
use Rattle.dsl_lexer.specs.Layout.{brackets, line, width, first_tab, widths, opened, has_lexeme, behind_last, tokens, placed}
use Rattle.dsl_lexer.specs.SourceTokens.{AreSound, IsFirstFault}
use Rattle.dsl_lexer.specs.Steps.{front_shape, place_of, Outcome, Goes, Stops}

-- the spot of the byte at offset n
pub record IsSpot (bytes : List ℕ) (n : ℕ) (s : Spot) : Type 0 where
  pub at : s.at ≡ n
  pub line : s.line ≡ line_at bytes n
  pub column : s.column ≡ column_at bytes n

-- a tab's spot
abbrev pub IsTab : List ℕ → Option ℕ → Option Spot → Type 0
IsTab bytes None None = Unit {0}
IsTab bytes (Some n) (Some s) = IsSpot bytes n s
IsTab bytes None (Some s) = ⊥
IsTab bytes (Some n) None = ⊥

pub record Matches (file : ℕ) (bytes : List ℕ) (before : List Piece) (l : Layout) : Type 0 where
  pub spot : IsSpot bytes (reach before) l.spot
  pub started : l.started ≡ has_lexeme (line before)
  pub spaces : l.spaces ≡ width (line before)
  pub tab : IsTab bytes (first_tab (line before)) l.tab
  pub brackets : l.brackets ≡ brackets before
  pub widths : l.widths ≡ opened (widths before)
  pub behind : IsSpot bytes (behind_last before) l.behind
  pub tokens : l.tokens ≡ placed file bytes 0 (tokens before)

-- the length of the longest prefix that is UTF-8
pub record Valid (bytes : List ℕ) (valid : ℕ) : Type 0 where
  pub within : valid ≤ length bytes
  pub bad : valid < length bytes → IsValidUpTo bytes valid
  pub only : (n : ℕ) → IsValidUpTo bytes n → n ≡ valid
  pub utf8 : valid ≡ length bytes → IsUtf8 bytes

-- what is known at a place

pub record Reached (file : ℕ) (bytes : List ℕ) (valid : ℕ) (l : Layout) : Type 0 where
  pub before : List Piece
  pub rest : List ℕ
  pub cut : Cut bytes before rest
  pub sound : AreSound before
  pub matches : Matches file bytes before l
  pub within : reach before ≤ valid

-- what a stop says
pub record IsStop (file : ℕ) (bytes : List ℕ) (l : Layout) (s : Spot) (code : FaultCode) : Type 0 where
  pub first : (fault : Fault) → fault.place ≡ place_of file s (length l.tokens) → fault.code ≡ code → IsFirstFault file bytes fault

abbrev pub Follows : ℕ → List ℕ → ℕ → Layout → Outcome → Type 0
Follows file bytes valid l (Goes next) = Reached file bytes valid next × (l.spot.at < next.spot.at)
Follows file bytes valid l (Stops s code) = IsStop file bytes l s code

-- what a step of the code gave: how it went on, or where it stopped
abbrev pub GivesStop : ℕ → Layout → Outcome → Stop Fault → Type 0
GivesStop file old outcome Memory = Unit {0}
GivesStop file old outcome (At fault) = (s : Spot) × (outcome ≡ Stops s fault.code) × (fault.place ≡ place_of file s (length old.tokens))

abbrev pub Gives : ℕ → Layout → Outcome → Result (Unit {0}) (Stop Fault) → Layout → Type 0
Gives file old outcome (Ok done) next = outcome ≡ Goes next
Gives file old outcome (Err stop) next = GivesStop file old outcome stop

-- the piece of the first n bytes of rest can be taken
pub record CanTake (l : Layout) (valid : ℕ) (shape : Shape) (rest : List ℕ) (n : ℕ) : Type 0 where
  pub room : HasRoom l n
  pub some : 1 ≤ n
  pub within : n ≤ length rest
  pub is_shape : IsShape shape (take n rest)
  pub utf8 : shape ≡ StringShape → l.spot.at + n ≤ valid → IsUtf8 (string_chars (take n rest))

-- whatever piece is found at the start can be taken
abbrev pub CanTakeFront : Layout → ℕ → List ℕ → Type 0
CanTakeFront l valid rest = (n : ℕ) → piece_len (front_shape rest) rest ≡ Some n → CanTake l valid (front_shape rest) rest n

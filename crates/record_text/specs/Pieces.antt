-- What is added to a page at once.
use Rattle.std.specs.Prelude.{◌≡◌, ℕ, Bool, List, [], ◌∷◌, ◌++◌, codes, decimal, Option, Some, None, unsigned_abs, ℤ, ⊤}
use Rattle.box_eval.specs.declared.cut.Side.TheVariants as Side
use Rattle.linear_sums.specs.declared.pick.Pick.{Pick}
use Rattle.record_trees.specs.declared.record.Line.{Line}
use Rattle.record_trees.specs.declared.record.Line.TheVariants as L
use Rattle.record_text.specs.declared.page.Piece.{Piece}
use Rattle.record_text.specs.declared.page.Piece.TheVariants as P
use Rattle.record_text.specs.Lines.{heading_of, word_of, slot_and_value, IsFewDigits}

abbrev pub piece_bytes : Piece → List ℕ
piece_bytes (P.Head undecided form) = heading_of undecided form ++ 10 ∷ []
piece_bytes (P.Slots n) = (codes "slots " ++ decimal n) ++ 10 ∷ []
piece_bytes (P.Rules n) = (codes "rules " ++ decimal n) ++ 10 ∷ []
piece_bytes (P.Room n) = (codes "room " ++ decimal n) ++ 10 ∷ []
piece_bytes (P.Cut side slot v) = (word_of side ++ slot_and_value slot v) ++ 10 ∷ []
piece_bytes (P.Close rule) = (codes "close " ++ decimal rule) ++ 10 ∷ []
piece_bytes P.Open = codes "open" ++ 10 ∷ []
piece_bytes P.End = codes "end" ++ 10 ∷ []
piece_bytes P.Word = codes "sum"
piece_bytes (P.Pick times rule) = 32 ∷ (decimal times ++ 32 ∷ decimal rule)
piece_bytes P.Feed = 10 ∷ []

-- each number of the piece has at most 18 digits
abbrev pub IsShortPiece : Piece → Type 0
IsShortPiece (P.Head undecided form) = ⊤
IsShortPiece (P.Slots n) = IsFewDigits n
IsShortPiece (P.Rules n) = IsFewDigits n
IsShortPiece (P.Room n) = IsFewDigits n
IsShortPiece (P.Cut side slot v) = IsFewDigits slot × IsFewDigits (unsigned_abs v)
IsShortPiece (P.Close rule) = IsFewDigits rule
IsShortPiece P.Open = ⊤
IsShortPiece P.End = ⊤
IsShortPiece P.Word = ⊤
IsShortPiece (P.Pick times rule) = IsFewDigits times × IsFewDigits rule
IsShortPiece P.Feed = ⊤

-- the piece of a line that is no sum
abbrev pub piece_of : Line → Option Piece
piece_of (L.Low slot value) = Some (P.Cut Side.Low slot value)
piece_of (L.High slot value) = Some (P.Cut Side.High slot value)
piece_of (L.Close rule) = Some (P.Close rule)
piece_of (L.Sum count) = None
piece_of L.Unknown = Some P.Open

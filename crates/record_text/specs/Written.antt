-- What is written of a record.
use Rattle.std.specs.Prelude.{◌≡◌, ℕ, true, List, [], ◌∷◌, ◌++◌, length, take, drop, Option, unsigned_abs, ⊤}
use Rattle.std.specs.Io.KnownBytes.{append_known}
use Rattle.record_trees.specs.declared.record.Line.{Line}
use Rattle.record_trees.specs.declared.record.Line.TheVariants as L
use Rattle.linear_sums.specs.declared.pick.Pick.{Pick}
use Rattle.record_trees.specs.declared.record.Record.{Record}
use Rattle.record_trees.specs.Record.{may_stand}
use Rattle.record_text.specs.Lines.{IsFewDigits}
use Rattle.record_text.specs.TextLines.{TextLine}
use Rattle.record_text.specs.TextLines.{Head, Slots, Rules, Room}
use Rattle.record_text.specs.Text.{taken, form_of}

-- a cut's value has at most 18 digits
abbrev pub HasShortValue : Line → Type 0
HasShortValue (L.Low slot value) = IsFewDigits (unsigned_abs value)
HasShortValue (L.High slot value) = IsFewDigits (unsigned_abs value)
HasShortValue (L.Close rule) = ⊤
HasShortValue (L.Sum count) = ⊤
HasShortValue L.Unknown = ⊤

abbrev pub HaveShortValues : List Line → Type 0
HaveShortValues [] = ⊤
HaveShortValues (l ∷ ls) = HasShortValue l × HaveShortValues ls

-- a sum has as many rules as it says, and they may stand in a line
abbrev pub HasSum : Line → List Pick → Type 0
HasSum (L.Low slot value) picks = ⊤
HasSum (L.High slot value) picks = ⊤
HasSum (L.Close rule) picks = ⊤
HasSum (L.Sum count) picks = (length picks ≡ count) × (may_stand picks ≡ true)
HasSum L.Unknown picks = ⊤

-- the sums of lines take these rules in turn, and none is left
abbrev pub HaveSums : List Line → List Pick → Type 0
HaveSums [] picks = picks ≡ []
HaveSums (l ∷ ls) picks = HasSum l (take (taken l) picks) × HaveSums ls (drop (taken l) picks)

-- the first four lines of a record
abbrev pub header_lines : Record → List TextLine
header_lines claim = Head claim.undecided (form_of claim) ∷ Slots claim.slots ∷ Rules claim.rules ∷ Room claim.room ∷ []

-- bytes were added to those that wait, of which some were written
pub record Puts (bytes : List ℕ) (contents : Option (List ℕ)) (waiting : List ℕ) (contents_after : Option (List ℕ)) (waiting_after : List ℕ) : Type 0 where
  pub done : List ℕ
  pub written : contents_after ≡ append_known contents done
  pub kept : waiting ++ bytes ≡ done ++ waiting_after

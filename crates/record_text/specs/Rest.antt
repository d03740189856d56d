-- The cuts and leaves of a record, line by line, and its end.
use Rattle.std.specs.Prelude.{◌≡◌, ℕ, ◌≤◌, true, List, [], ◌∷◌, ◌++◌, length, map, Option, Some}
use Rattle.outside_io.specs.Files.{NothingLeft}
use Rattle.record_trees.specs.declared.record.Line.TheVariants as L
use Rattle.record_trees.specs.Record.{FullLine, full, line_at}
use Rattle.record_text.specs.TextLines.{TextLine}
use Rattle.record_text.specs.TextLines as T
use Rattle.record_text.specs.declared.found.Wanted.TheVariants as W
use Rattle.record_text.specs.declared.stop.VerifyStop.{VerifyStop}
use Rattle.record_text.specs.declared.nodes.Nodes.{Nodes}
use Rattle.record_text.specs.declared.header.Header.{Header}
use Rattle.record_text.specs.Lines.{text_of}
use Rattle.record_text.specs.Source.{limit}
use Rattle.record_text.specs.Reader.{wants, Reading, GivesLine}
use Rattle.record_text.specs.Text.{text_line}
use Rattle.record_text.specs.Nodes.{wanted_after, counted, AreRead, IsHeadOf, lines_so_far}
use Rattle.record_text.specs.Progress.{fresh, HasRead, Stopped}

-- the cut or leaf of a line of a text
abbrev pub node_line : TextLine → FullLine
node_line (T.Cut side slot value) = full (line_at side slot value) []
node_line (T.Close rule) = full (L.Close rule) []
node_line (T.Sum picks) = full (L.Sum (length picks)) picks
node_line (T.Head undecided form) = full L.Unknown []
node_line (T.Slots number) = full L.Unknown []
node_line (T.Rules number) = full L.Unknown []
node_line (T.Room number) = full L.Unknown []
node_line T.Open = full L.Unknown []
node_line T.End = full L.Unknown []

-- there are no more trees to come, and no more cuts, than lines that were read
pub record AreFew (n : Nodes) (r : Reading) : Type 0 where
  pub left : n.left ≤ r.lines
  pub cuts : n.cuts ≤ r.lines

-- a cut or a leaf was read
pub record GivesNode (line : TextLine) (n n_after : Nodes) (r r_after : Reading) (left left_after : Option (List ℕ)) : Type 0 where
  pub gives : GivesLine line (W.Node n.undecided n.form) r r_after left left_after
  pub counts : n_after ≡ counted n line
  pub few : AreFew n_after r_after
  pub few_lines : r_after.lines ≤ limit

-- these cuts and leaves were read
pub record HasNodes (lines : List FullLine) (n n_after : Nodes) (r r_after : Reading) (left left_after : Option (List ℕ)) : Type 0 where
  pub read : HasRead (map text_line lines) r r_after left left_after
  pub nodes : (before : List FullLine) → AreRead before n → AreRead (before ++ lines) n_after
  pub undecided : n_after.undecided ≡ n.undecided
  pub form : n_after.form ≡ n.form
  pub few : AreFew n_after r_after

-- what is known when reading stops after a header and some cuts and leaves
abbrev pub StoppedFrom : VerifyStop → Nodes → Reading → Option (List ℕ) → Option (List ℕ) → Type 0
StoppedFrom stop n r left left_after =
    (h : Header) → (lines : List FullLine) → (first : Option (List ℕ)) → HasRead (lines_so_far h lines) fresh r first left → AreRead lines n → IsHeadOf h n → Stopped stop first left_after

-- the rest of a record was read, and nothing comes after it
pub record HasRest (n n_after : Nodes) (r : Reading) (left left_after : Option (List ℕ)) : Type 0 where
  pub lines : List FullLine
  pub end : Reading
  pub left_end : Option (List ℕ)
  pub nodes : HasNodes lines n n_after r end left left_end
  pub none_left : n_after.left ≡ 0
  pub is_end : wants (wanted_after n_after) T.End ≡ true
  pub ends : (before : List TextLine) → (first : Option (List ℕ)) → HasRead before fresh r first left
      → (text : List ℕ) → first ≡ Some text → (text ≡ text_of (before ++ (map text_line lines ++ T.End ∷ []))) × (length text ≤ limit)
  pub fits : (before : List TextLine) → (first : Option (List ℕ)) → HasRead before fresh r first left → length (text_of (before ++ (map text_line lines ++ T.End ∷ []))) ≤ limit
  pub nothing : NothingLeft left_after

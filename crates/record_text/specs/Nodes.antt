-- How far the cuts and leaves of a record were read.
use Rattle.std.specs.Prelude.{◌≡◌, ◌+◌, ◌-◌, ◌≤◌, Bool, true, false, not, ◌&&◌, ◌||◌, ◌==◌, if◌then◌else◌, List, ◌∷◌, ◌++◌, length, map}
use Rattle.record_trees.specs.Record.{Tree, FullLine, full_lines, has_open, has_sum, cuts_of}
use Rattle.record_trees.specs.Trees.{full_lines_all, cuts_all, any_open, any_sum}
use Rattle.record_text.specs.declared.line.Form.{Form}
use Rattle.record_text.specs.declared.line.Form.TheVariants.{Two}
use Rattle.record_text.specs.TextLines.{TextLine}
use Rattle.record_text.specs.TextLines as T
use Rattle.record_text.specs.declared.found.Wanted.{Wanted}
use Rattle.record_text.specs.declared.found.Wanted.TheVariants as W
use Rattle.record_text.specs.declared.nodes.Nodes.{Nodes}
use Rattle.record_text.specs.declared.header.Header.{Header}
use Rattle.record_text.specs.Lines.{is_two}
use Rattle.record_text.specs.Text.{text_line}

abbrev pub no_nodes : Bool → Form → Nodes
no_nodes undecided form = record { undecided = undecided; form = form; left = 1; some_open = false; some_sum = false; cuts = 0 }

-- what the heading asks for is missing: an open leaf of an undecided record, or a sum of one in form 2
abbrev pub lacks_leaf : Nodes → Bool
lacks_leaf n = (n.undecided && not n.some_open) || (is_two n.form && not n.some_sum)

abbrev pub wanted_after : Nodes → Wanted
wanted_after n = if n.left == 0 then (if lacks_leaf n then W.Nothing else W.End) else W.Node n.undecided n.form

abbrev pub counted : Nodes → TextLine → Nodes
counted n (T.Cut side slot value) = record n { left = n.left + 1; cuts = n.cuts + 1 }
counted n (T.Close rule) = record n { left = n.left - 1 }
counted n (T.Sum picks) = record n { left = n.left - 1; some_sum = true }
counted n T.Open = record n { left = n.left - 1; some_open = true }
counted n (T.Head undecided form) = n
counted n (T.Slots number) = n
counted n (T.Rules number) = n
counted n (T.Room number) = n
counted n T.End = n

-- one tree has the lines that were read and then those of these trees
pub record IsTreeWith (lines : List FullLine) (n : Nodes) (ts : List Tree) : Type 0 where
  pub tree : Tree
  pub lines_are : full_lines tree ≡ lines ++ full_lines_all ts
  pub open_is : has_open tree ≡ (n.some_open || any_open ts)
  pub sum_is : has_sum tree ≡ (n.some_sum || any_sum ts)
  pub cuts_are : cuts_of tree ≡ n.cuts + cuts_all ts

-- these lines were read, which any trees for those that are still to come make one tree's lines
pub record AreRead (lines : List FullLine) (n : Nodes) : Type 0 where
  pub grown : (ts : List Tree) → length ts ≡ n.left → IsTreeWith lines n ts
  pub few_left : n.left ≤ length lines + 1
  pub few_cuts : n.cuts ≤ length lines
  pub open_in_undecided : n.some_open ≡ true → n.undecided ≡ true
  pub sum_in_two : n.some_sum ≡ true → n.form ≡ Two

-- what these cuts and leaves may be goes by this header
pub record IsHeadOf (h : Header) (n : Nodes) : Type 0 where
  pub undecided : n.undecided ≡ h.undecided
  pub form : n.form ≡ h.form

-- the lines of a record so far: its header, and then these
abbrev pub lines_so_far : Header → List FullLine → List TextLine
lines_so_far h lines = T.Head h.undecided h.form ∷ T.Slots h.slots ∷ T.Rules h.rules ∷ T.Room h.room ∷ map text_line lines

-- What each answer of `verify` means.
use Rattle.std.specs.Prelude.{◌≡◌, ℕ, ◌+◌, ◌≤◌, Bool, true, false, not, nat_eq, nat_le, if◌then◌else◌, List, ◌∷◌, length, Option, Some, None}
use Rattle.box_eval.specs.declared.flat.Flat.{Flat}
use Rattle.record_trees.specs.declared.record.Record.{Record}
use Rattle.record_trees.specs.Record.{FullLine, Tree, has_open, cuts_of, AllTrue, IsFirstFalse, marks, IsAcceptedAs}
use Rattle.box_eval.specs.Rules.{IsEmpty}
use Rattle.record_text.specs.declared.nodes.Nodes.{Nodes}
use Rattle.record_text.specs.declared.header.Header.{Header}
use Rattle.record_text.specs.Reader.{Reading}
use Rattle.record_text.specs.Rest.{HasNodes}
use Rattle.record_text.specs.Source.{limit}
use Rattle.record_text.specs.Text.{IsTextOf}
use Rattle.refute_check.specs.declared.check.Verified.{Verified}
use Rattle.refute_check.specs.declared.check.Verified.TheVariants as V
use Rattle.refute_check.specs.Walk.{marks_at}
use Rattle.refute_check.specs.Judged.{whole}

-- the text of a record every line of which is accepted, with no open leaf
pub record IsRefutationText (flat : Flat) (text : List ℕ) : Type 0 where
  pub claim : Record
  pub tree : Tree
  pub text_of : IsTextOf text claim tree
  pub accepted : IsAcceptedAs flat claim tree
  pub closed : has_open tree ≡ false

-- the text of a record every line of which is accepted, with an open leaf and so many cuts
pub record IsOpenText (flat : Flat) (text : List ℕ) (cuts : ℕ) : Type 0 where
  pub claim : Record
  pub tree : Tree
  pub text_of : IsTextOf text claim tree
  pub accepted : IsAcceptedAs flat claim tree
  pub some_open : has_open tree ≡ true
  pub cuts_are : cuts_of tree ≡ cuts

-- the text of a record of which this line, counted from 1, is the first that isn't accepted
pub record IsRefusedAt (flat : Flat) (text : List ℕ) (line : ℕ) : Type 0 where
  pub claim : Record
  pub tree : Tree
  pub text_of : IsTextOf text claim tree
  pub before : ℕ
  pub number : line ≡ before + 1
  pub first : IsFirstFalse (marks flat claim tree) before

-- the text has this answer
abbrev pub IsAnswerTo : Flat → List ℕ → Verified → Type 0
IsAnswerTo flat text V.Refuted = IsRefutationText flat text
IsAnswerTo flat text (V.Open cuts) = IsOpenText flat text cuts
IsAnswerTo flat text (V.No line) = IsRefusedAt flat text line

-- Some text that isn't too long has this answer. It is known of a shelf that tells nothing too.
pub record SomeVerified (flat : Flat) (verified : Verified) : Type 0 where
  pub text : List ℕ
  pub answer : IsAnswerTo flat text verified
  pub within : length text ≤ limit

-- what an answer says of the text, where it is told, and of the flat form
abbrev pub Answers : Flat → Verified → Option (List ℕ) → Type 0
Answers flat V.Refuted left = IsEmpty flat.rules flat.bounds.pairs × ((text : List ℕ) → left ≡ Some text → IsRefutationText flat text × (length text ≤ limit))
Answers flat (V.Open cuts) left = (text : List ℕ) → left ≡ Some text → IsOpenText flat text cuts × (length text ≤ limit)
Answers flat (V.No line) left = (text : List ℕ) → left ≡ Some text → IsRefusedAt flat text line × (length text ≤ limit)

-- ---- the steps of the check

-- the marks of a record's lines so far
abbrev pub marks_so_far : Flat → Header → List FullLine → List Bool
marks_so_far flat h lines =
    true ∷ nat_eq h.slots (length flat.bounds.pairs) ∷ nat_eq h.rules (length flat.rules) ∷ nat_le h.room 1000000 ∷ marks_at flat h.room (whole flat) lines

-- the number of the first of lines 2 to 4 that isn't accepted
abbrev pub first_refused : Bool → Bool → Bool → Option ℕ
first_refused slots rules room = if not slots then Some 2 else if not rules then Some 3 else if not room then Some 4 else None

abbrev pub refused_header : Flat → Header → Option ℕ
refused_header flat h = first_refused (nat_eq h.slots (length flat.bounds.pairs)) (nat_eq h.rules (length flat.rules)) (nat_le h.room 1000000)

-- all lines so far are accepted, up to the last leaf, or this one is the first that isn't
abbrev pub JudgesAll : Flat → Header → List FullLine → Nodes → Option ℕ → Type 0
JudgesAll flat h lines n None = AllTrue (marks_so_far flat h lines) × (n.left ≡ 0)
JudgesAll flat h lines n (Some line) = (k : ℕ) × IsFirstFalse (marks_so_far flat h lines) k × (line ≡ k + 1)

-- cuts and leaves were read and judged
pub record HasJudged (flat : Flat) (h : Header) (refused : Option ℕ) (n n_after : Nodes) (r r_after : Reading) (left left_after : Option (List ℕ)) : Type 0 where
  pub lines : List FullLine
  pub nodes : HasNodes lines n n_after r r_after left left_after
  pub judged : JudgesAll flat h lines n_after refused

abbrev pub verdict_of : Option ℕ → Nodes → Verified
verdict_of (Some line) n = V.No line
verdict_of None n = if n.some_open then V.Open n.cuts else V.Refuted

-- What a walk over the lines of a record answers.
use Rattle.std.specs.Prelude.{◌≡◌, ℕ, ◌+◌, List, [], ◌∷◌, Option, Some, None}
use Rattle.box_eval.specs.declared.flat.Flat.{Flat}
use Rattle.record_trees.specs.Record.{FullLine, AllTrue, IsFirstFalse}
use Rattle.record_text.specs.declared.nodes.Nodes.{Nodes}
use Rattle.record_text.specs.Reader.{Reading}
use Rattle.record_text.specs.Rest.{HasNodes}
use Rattle.refute_check.specs.Walk.{Place, place, marks_at}

-- the place of a whole record
abbrev pub whole : Flat → List Place
whole flat = place flat.bounds.pairs 0 ∷ []

-- all lines are accepted, up to the last leaf; or the last of them is the first that isn't, and this is its number
abbrev pub Judges : Flat → ℕ → List FullLine → ℕ → Nodes → Reading → Option ℕ → Type 0
Judges flat room lines before nodes reading None = AllTrue (marks_at flat room (whole flat) lines) × (nodes.left ≡ 0)
Judges flat room lines before nodes reading (Some number) = (k : ℕ) × IsFirstFalse (marks_at flat room (whole flat) lines) k × (number ≡ before + k + 1)

-- cuts and leaves were read and judged
pub record HasWalked (flat : Flat) (room : ℕ) (refused : Option ℕ) (n n_after : Nodes) (r r_after : Reading) (left left_after : Option (List ℕ)) : Type 0 where
  pub lines : List FullLine
  pub nodes : HasNodes lines n n_after r r_after left left_after
  pub judged : Judges flat room lines r.lines n_after r_after refused

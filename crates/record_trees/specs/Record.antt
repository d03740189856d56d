-- Records: trees of cuts over a box, whose lines are accepted one by one.
use Rattle.std.specs.Prelude.{◌≡◌, ℕ, ◌+◌, ◌<◌, max, Bool, true, false, ◌&&◌, ◌||◌, List, [], ◌∷◌, ◌++◌, length, slice_get, Some, nat_eq, nat_lt, nat_le, int_lt, int_le, ⊤, ℤ, pos, ◌+ℤ◌}
use Rattle.std.specs.Option.{option_map_or}
use Rattle.box_eval.specs.declared.rule.Rule.{Rule}
use Rattle.box_eval.specs.declared.bounds.Pair.{Pair}
use Rattle.box_eval.specs.declared.cut.Cut.{Cut}
use Rattle.box_eval.specs.declared.cut.Side.{Side}
use Rattle.box_eval.specs.declared.cut.Side.TheVariants.{Low, High}
use Rattle.box_eval.specs.declared.flat.Flat.{Flat}
use Rattle.linear_sums.specs.declared.pick.Pick.{Pick}
use Rattle.linear_sums.specs.Linear.{is_false_sum}
use Rattle.record_trees.specs.declared.record.Record.{Record}
use Rattle.record_trees.specs.declared.record.Line.{Line}
use Rattle.record_trees.specs.declared.record.Line.TheVariants as L
use Rattle.box_eval.specs.declared.verdict.Verdict.{Verdict}
use Rattle.box_eval.specs.declared.verdict.Verdict.TheVariants.{True, False, Open}
use Rattle.box_eval.specs.Box.{low_at, high_at, first_part, second_part}
use Rattle.box_eval.specs.Verdict.{verdict_of}

-- a leaf closes its box by a rule or by a sum of rules, or leaves it unknown
pub data Leaf : Type 0 where
  close : ℕ → Leaf
  added : List Pick → Leaf
  unknown : Leaf

-- a tree over a box: a cut with a tree over its first and one over its second part, or a leaf
pub data Tree : Type 0 where
  branch : Cut → Tree → Tree → Tree
  leaf : Leaf → Tree

-- ---- lines

-- the line of a cut
abbrev pub line_at : Side → ℕ → ℤ → Line
line_at Low slot value = L.Low slot value
line_at High slot value = L.High slot value

abbrev pub cut_line : Cut → Line
cut_line cut = line_at cut.side cut.slot cut.value

-- the line of a leaf
abbrev pub leaf_line : Leaf → Line
leaf_line (close rule) = L.Close rule
leaf_line (added picks) = L.Sum (length picks)
leaf_line unknown = L.Unknown

-- the rules of a leaf's sum
abbrev pub leaf_picks : Leaf → List Pick
leaf_picks (close rule) = []
leaf_picks (added picks) = picks
leaf_picks unknown = []

-- a tree's lines: a cut, then the lines of its first part, then those of its second
abbrev pub lines_of : Tree → List Line
lines_of (branch cut first second) = cut_line cut ∷ (lines_of first ++ lines_of second)
lines_of (leaf l) = leaf_line l ∷ []

-- the rules of a tree's sums, line by line
abbrev pub picks_of : Tree → List Pick
picks_of (branch cut first second) = picks_of first ++ picks_of second
picks_of (leaf l) = leaf_picks l

-- a line with the rules of its sum
pub record FullLine : Type 0 where
  pub line : Line
  pub picks : List Pick

abbrev pub full : Line → List Pick → FullLine
full line picks = record { line = line; picks = picks }

-- a tree's lines, each with the rules of its sum
abbrev pub full_lines : Tree → List FullLine
full_lines (branch cut first second) = full (cut_line cut) [] ∷ (full_lines first ++ full_lines second)
full_lines (leaf l) = full (leaf_line l) (leaf_picks l) ∷ []

-- ---- what is counted of a tree

abbrev pub is_open : Leaf → Bool
is_open (close rule) = false
is_open (added picks) = false
is_open unknown = true

-- whether some leaf is open
abbrev pub has_open : Tree → Bool
has_open (branch cut first second) = has_open first || has_open second
has_open (leaf l) = is_open l

abbrev pub is_sum : Leaf → Bool
is_sum (close rule) = false
is_sum (added picks) = true
is_sum unknown = false

-- whether some leaf closes its box by a sum
abbrev pub has_sum : Tree → Bool
has_sum (branch cut first second) = has_sum first || has_sum second
has_sum (leaf l) = is_sum l

-- the number of cuts
abbrev pub cuts_of : Tree → ℕ
cuts_of (branch cut first second) = 1 + (cuts_of first + cuts_of second)
cuts_of (leaf l) = 0

-- the greatest number of cuts above a leaf
abbrev pub depth_of : Tree → ℕ
depth_of (branch cut first second) = 1 + max (depth_of first) (depth_of second)
depth_of (leaf l) = 0

-- ---- acceptance

abbrev pub is_false : Verdict → Bool
is_false True = false
is_false False = true
is_false Open = false

-- a cut needs a slot of the box, a value that leaves both parts one, and fewer than `room` cuts above it
abbrev pub may_cut : ℕ → List Pair → ℕ → Cut → Bool
may_cut room ends above cut = nat_lt above room && nat_lt cut.slot (length ends) && int_le (low_at ends cut.slot) cut.value && int_lt cut.value (high_at ends cut.slot)

-- a close needs a rule that is false on the box
abbrev pub may_close : List Rule → List Pair → ℕ → Bool
may_close rules ends rule = option_map_or (λ r. is_false (verdict_of ends r)) (slice_get rules rule) false

-- picks that name rules in ascending order from a number on, each of them 1 to 1,000,000 times
abbrev pub are_in_order : ℕ → List Pick → Bool
are_in_order from [] = true
are_in_order from (p ∷ ps) = nat_le from p.rule && nat_le 1 p.times && nat_le p.times 1000000 && are_in_order (p.rule + 1) ps

-- picks that may stand in a line: 1 to 64 of them, in order
abbrev pub may_stand : List Pick → Bool
may_stand picks = nat_le 1 (length picks) && nat_le (length picks) 64 && are_in_order 0 picks

-- a sum needs picks that may stand in a line, and to be false on the box
abbrev pub may_add : Flat → List Pair → List Pick → Bool
may_add flat ends picks = may_stand picks && is_false_sum flat picks ends

-- an open leaf needs nothing
abbrev pub may_leave : Flat → List Pair → Leaf → Bool
may_leave flat ends (close rule) = may_close flat.rules ends rule
may_leave flat ends (added picks) = may_add flat ends picks
may_leave flat ends unknown = true

-- for each line of a tree over a box, in order, whether it is accepted, if `above` cuts are above the tree
abbrev pub accepts : Flat → ℕ → List Pair → ℕ → Tree → List Bool
accepts flat room ends above (branch cut first second) =
    may_cut room ends above cut
    ∷ (accepts flat room (first_part cut ends) (above + 1) first ++ accepts flat room (second_part cut ends) (above + 1) second)
accepts flat room ends above (leaf l) = may_leave flat ends l ∷ []

-- every one is true
abbrev pub AllTrue : List Bool → Type 0
AllTrue [] = ⊤
AllTrue (b ∷ bs) = (b ≡ true) × AllTrue bs

-- number k is the first that is false
pub record IsFirstFalse (bs : List Bool) (k : ℕ) : Type 0 where
  pub there : slice_get bs k ≡ Some false
  pub before : (j : ℕ) → j < k → slice_get bs j ≡ Some true

-- a tree over a box all of whose lines are accepted
abbrev pub Accepted : Flat → ℕ → List Pair → ℕ → Tree → Type 0
Accepted flat room ends above tree = AllTrue (accepts flat room ends above tree)

-- ---- whole records

-- a record's lines and picks are those of the tree, and it is undecided exactly when some leaf is open
pub record IsRecordOf (claim : Record) (tree : Tree) : Type 0 where
  pub lines : claim.lines ≡ lines_of tree
  pub picks : claim.picks ≡ picks_of tree
  pub undecided : claim.undecided ≡ has_open tree

-- for each line of a record as it is written, from its heading on and without its last, whether it is accepted:
-- the heading always is; the numbers of slots and rules if they are the flat form's; the room if it is at most 1,000,000; then the tree's lines
abbrev pub marks : Flat → Record → Tree → List Bool
marks flat claim tree =
    true
    ∷ nat_eq claim.slots (length flat.bounds.pairs)
    ∷ nat_eq claim.rules (length flat.rules)
    ∷ nat_le claim.room 1000000
    ∷ accepts flat claim.room flat.bounds.pairs 0 tree

-- the record of a tree, every line of which is accepted
pub record IsAcceptedAs (flat : Flat) (claim : Record) (tree : Tree) : Type 0 where
  pub record_of : IsRecordOf claim tree
  pub accepted : AllTrue (marks flat claim tree)

-- an accepted record none of whose leaves is open
pub record IsRefutation (flat : Flat) (claim : Record) : Type 0 where
  pub tree : Tree
  pub accepted : IsAcceptedAs flat claim tree
  pub closed : has_open tree ≡ false

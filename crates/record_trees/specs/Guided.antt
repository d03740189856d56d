-- Which boxes are settled, which cuts of a record are decisions and how those are chosen, and where a record ends.
-- Decision k in a box is the cut `choose k box`. How it is chosen isn't said here.
use Rattle.std.specs.Prelude.{◌≡◌, ◌≢◌, ◌⊎◌, ℕ, ◌+◌, ◌<◌, ◌≤◌, Bool, true, false, not, ◌||◌, if◌then◌else◌, MatchBool, List, [], ◌∷◌, Option, Some, None, int_le, ⊤, ℤ, pos, ◌+ℤ◌, ◌<ℤ◌}
use Rattle.std.specs.Option.{option_map_or}
use Rattle.box_eval.specs.declared.rule.Rule.{Rule}
use Rattle.box_eval.specs.declared.bounds.Pair.{Pair}
use Rattle.box_eval.specs.declared.cut.Cut.{Cut}
use Rattle.box_eval.specs.declared.cut.Side.{Side}
use Rattle.box_eval.specs.declared.cut.Side.TheVariants.{Low, High}
use Rattle.box_eval.specs.declared.flat.Flat.{Flat}
use Rattle.record_trees.specs.declared.record.Record.{Record}
use Rattle.box_eval.specs.declared.verdict.Verdict.TheVariants.{False}
use Rattle.box_eval.specs.Box.{low_at, high_at, up_to, from, fixed, box_of, first_part, second_part, end_at}
use Rattle.box_eval.specs.Verdict.{verdict_of}
use Rattle.linear_sums.specs.FacingPairs.{NoneFacing}
use Rattle.record_trees.specs.Record.{Leaf, close, added, unknown, Tree, branch, leaf, is_open, has_open, cuts_of, may_close, IsAcceptedAs}

-- ---- settled boxes

-- no rule is false on the box
abbrev pub NoneFalse : List Pair → List Rule → Type 0
NoneFalse ends [] = ⊤
NoneFalse ends (rule ∷ rules) = (verdict_of ends rule ≢ False) × NoneFalse ends rules

-- a dead end of a rule: an end of a slot with two values or more, such that the rule is false on the box once the slot is fixed there
pub record IsDeadEnd (ends : List Pair) (rule : Rule) (side : Side) (slot : ℕ) : Type 0 where
  pub wide : low_at ends slot <ℤ high_at ends slot
  pub dead : verdict_of (fixed ends slot (end_at side ends slot)) rule ≡ False

-- a rule is settled on a box if it is not false and has no dead end
pub record IsSettledFor (ends : List Pair) (rule : Rule) : Type 0 where
  pub not_false : verdict_of ends rule ≢ False
  pub no_dead_end : (side : Side) (slot : ℕ) → ¬ IsDeadEnd ends rule side slot

-- a box is settled if every rule is
abbrev pub IsSettled : List Rule → List Pair → Type 0
IsSettled [] ends = ⊤
IsSettled (rule ∷ rules) ends = IsSettledFor ends rule × IsSettled rules ends

-- ---- narrowings and decisions

-- the rule by which a tree closes its whole box
abbrev pub closing_leaf : Leaf → Option ℕ
closing_leaf (close rule) = Some rule
closing_leaf (added picks) = None
closing_leaf unknown = None

abbrev pub closing_rule : Tree → Option ℕ
closing_rule (branch cut first second) = None
closing_rule (leaf l) = closing_leaf l

-- the first part of a cut at the next value on, which is longer
abbrev pub longer_at : Side → List Pair → ℕ → ℤ → List Pair
longer_at Low ends slot v = up_to ends slot (v +ℤ pos 1)
longer_at High ends slot v = from ends slot v

-- that part leaves the second no value
abbrev pub is_whole_at : Side → List Pair → ℕ → ℤ → Bool
is_whole_at Low ends slot v = int_le (high_at ends slot) (v +ℤ pos 1)
is_whole_at High ends slot v = int_le v (low_at ends slot)

-- the first part is the longest on which the rule is false: with one value more the rule isn't false, or the second part has
-- no value left (one value more is enough to ask: a rule that is false on a box is false on each smaller box)
abbrev pub is_longest : List Rule → List Pair → Cut → ℕ → Bool
is_longest rules ends cut rule = is_whole_at cut.side ends cut.slot cut.value || not (may_close rules (longer_at cut.side ends cut.slot cut.value) rule)

-- a narrowing closes its first part by a rule that is false on no longer one
abbrev pub narrows : List Rule → List Pair → Cut → Tree → Bool
narrows rules ends cut first = option_map_or (is_longest rules ends cut) (closing_rule first) false

-- the number of decisions: of cuts that are no narrowings
abbrev pub decisions : List Rule → List Pair → Tree → ℕ
decisions rules ends (branch cut first second) =
    (if narrows rules ends cut first then 0 else 1)
    + (decisions rules (first_part cut ends) first + decisions rules (second_part cut ends) second)
decisions rules ends (leaf l) = 0

-- ---- how a decision is chosen

-- a decision stands in a settled box of a flat form without false facing pairs, and is the one chosen for its number and its box
pub record IsChosen (choose : ℕ → List Pair → Cut) (k : ℕ) (flat : Flat) (ends : List Pair) (cut : Cut) : Type 0 where
  pub settled : IsSettled flat.rules ends
  pub none_facing : NoneFacing flat
  pub cut_chosen : cut ≡ choose k ends

-- every decision of a tree over a box is chosen; they are numbered from k in the order of their lines
abbrev pub Guided : (ℕ → List Pair → Cut) → Flat → List Pair → ℕ → Tree → Type 0
Guided choose flat ends k (branch cut first second) =
    MatchBool (narrows flat.rules ends cut first)
    (Guided choose flat (second_part cut ends) k second)
    (IsChosen choose k flat ends cut
    × Guided choose flat (first_part cut ends) (k + 1) first
    × Guided choose flat (second_part cut ends) (k + 1 + decisions flat.rules (first_part cut ends) first) second)
Guided choose flat ends k (leaf l) = ⊤

-- ---- where a record ends

-- the first leaf that is open stands on this box, and every leaf after it is unknown
abbrev pub EndsAt : List Pair → List Pair → Tree → Type 0
EndsAt box ends (branch cut first second) =
    ((has_open first ≡ false) × EndsAt box (second_part cut ends) second) ⊎ (EndsAt box (first_part cut ends) first × (second ≡ leaf unknown))
EndsAt box ends (leaf l) = (is_open l ≡ true) × (box ≡ ends)

-- the boxes on the way down to the first leaf that is open, from the tree's own to that leaf's
abbrev pub way_down : List Pair → Tree → List (List Pair)
way_down ends (branch cut first second) =
    ends ∷ (if has_open first then way_down (first_part cut ends) first else way_down (second_part cut ends) second)
way_down ends (leaf l) = ends ∷ []

-- a box with two points or more
abbrev pub HasTwoPoints : List Pair → Type 0
HasTwoPoints ends = (slot : ℕ) × (low_at ends slot <ℤ high_at ends slot)

-- ---- whole records

-- an accepted record each of whose decisions is chosen
pub record IsGuided (choose : ℕ → List Pair → Cut) (flat : Flat) (claim : Record) (tree : Tree) : Type 0 where
  pub accepted : IsAcceptedAs flat claim tree
  pub guided : Guided choose flat flat.bounds.pairs 0 tree

-- a guided record none of whose leaves is open
pub record IsGuidedRefutation (choose : ℕ → List Pair → Cut) (flat : Flat) (claim : Record) (tree : Tree) : Type 0 where
  pub guided : IsGuided choose flat claim tree
  pub closed : has_open tree ≡ false

-- a guided record with so many cuts that ends at a box with two points or more on which no rule is false
pub record IsSpent (choose : ℕ → List Pair → Cut) (cuts : ℕ) (flat : Flat) (claim : Record) (tree : Tree) (box : List Pair) : Type 0 where
  pub guided : IsGuided choose flat claim tree
  pub cuts_are : cuts_of tree ≡ cuts
  pub ends_at : EndsAt box flat.bounds.pairs tree
  pub two_points : HasTwoPoints box
  pub none_false : NoneFalse box flat.rules

-- a point at whose box alone a guided record with at most so many cuts ends
pub record IsReached (choose : ℕ → List Pair → Cut) (cuts : ℕ) (flat : Flat) (point : List ℤ) (claim : Record) (tree : Tree) : Type 0 where
  pub guided : IsGuided choose flat claim tree
  pub cuts_are : cuts_of tree ≤ cuts
  pub ends_at : EndsAt (box_of point) flat.bounds.pairs tree

-- No point of the box of an accepted tree with no open leaf meets all rules.
use Rattle.std.proofs.Common.{◌≡◌, refl, sym, ◌∙◌, ⊎_elim, ℕ, ◌+◌, ◌<◌, Bool, true, false, ◌&&◌, nat_lt, int_le, int_lt, List, [], ◌∷◌, ◌++◌, length, slice_get, Option, Some, None, ℤ, pos, ◌+ℤ◌, ◌≤ℤ◌, ◌<ℤ◌, arith}
use Rattle.std.proofs.lemmas.Int.{ints}
use Rattle.std.proofs.lemmas.Bool.{false≢true, and_parts, or_parts}
use Rattle.std.specs.Option.{option_map_or}
use Rattle.box_eval.specs.declared.rule.Rule.{Rule}
use Rattle.box_eval.specs.declared.bounds.Pair.{Pair}
use Rattle.box_eval.specs.declared.cut.Cut.{Cut}
use Rattle.box_eval.specs.declared.flat.Flat.{Flat}
use Rattle.record_trees.specs.declared.record.Record.{Record}
use Rattle.box_eval.specs.declared.verdict.Verdict.{Verdict}
use Rattle.box_eval.specs.declared.verdict.Verdict.TheVariants.{True, False, Open}
use Rattle.box_eval.specs.Box.{low_at, high_at, first_part, second_part, IsCutOf}
use Rattle.box_eval.specs.Verdict.{verdict_of}
use Rattle.box_eval.specs.Rules.{IsEmpty}
use Rattle.linear_sums.specs.declared.pick.Pick.{Pick}
use Rattle.linear_sums.specs.Linear.{is_false_sum}
use Rattle.linear_sums.proofs.Empty.{sum_empty}
use Rattle.record_trees.specs.Record.{Leaf, close, added, unknown, Tree, branch, leaf, is_open, has_open, is_false, may_cut, may_close, may_stand, may_add, may_leave, accepts, AllTrue, Accepted, IsRefutation}
use Rattle.box_eval.proofs.Points.{false_everywhere}
use Rattle.box_eval.proofs.Parts.{cut_parts_point}
use Rattle.box_eval.proofs.Fits.{meets_at}

pub AllTrue-front : (bs cs : List Bool) → AllTrue (bs ++ cs) → AllTrue bs
AllTrue-front [] cs h = tt
AllTrue-front (b ∷ bs) cs h = (h.0, AllTrue-front bs cs h.1)

pub AllTrue-back : (bs cs : List Bool) → AllTrue (bs ++ cs) → AllTrue cs
AllTrue-back [] cs h = h
AllTrue-back (b ∷ bs) cs h = AllTrue-back bs cs h.1

-- what an accepted cut says: it is one of its box, and few cuts are above it
pub record IsCut (room : ℕ) (ends : List Pair) (above : ℕ) (cut : Cut) : Type 0 where
  pub few : above < room
  pub parts : IsCutOf ends cut

may_cut-says : (room : ℕ) (ends : List Pair) (above slot : ℕ) (low v high : ℤ)
    → nat_lt above room && nat_lt slot (length ends) && int_le low v && int_lt v high ≡ true → (above < room) × (slot < length ends) × (low ≤ℤ v) × (v <ℤ high)
may_cut-says room ends above slot low v high h = (grind (arith, ints), grind (arith, ints), grind (arith, ints), grind (arith, ints))

may_cut-told : (room : ℕ) (ends : List Pair) (above slot : ℕ) (low v high : ℤ)
    → above < room → slot < length ends → low ≤ℤ v → v <ℤ high → nat_lt above room && nat_lt slot (length ends) && int_le low v && int_lt v high ≡ true
may_cut-told room ends above slot low v high few there least most = grind (arith, ints)

pub cut_facts : (room : ℕ) (ends : List Pair) (above : ℕ) (cut : Cut) → may_cut room ends above cut ≡ true → IsCut room ends above cut
cut_facts room ends above cut h =
    let f = may_cut-says room ends above cut.slot (low_at ends cut.slot) cut.value (high_at ends cut.slot) h in
    record { few = f.0; parts = record { slot_there = f.1; low = f.2; high = f.3 } }

pub cut_from_facts : (room : ℕ) (ends : List Pair) (above : ℕ) (cut : Cut) → above < room → IsCutOf ends cut → may_cut room ends above cut ≡ true
cut_from_facts room ends above cut few is = may_cut-told room ends above cut.slot (low_at ends cut.slot) cut.value (high_at ends cut.slot) few is.slot_there is.low is.high

-- what an accepted close says
pub record IsClosing (rules : List Rule) (ends : List Pair) (k : ℕ) : Type 0 where
  pub rule : Rule
  pub there : slice_get rules k ≡ Some rule
  pub says : verdict_of ends rule ≡ False

is_false-true : (v : Verdict) → is_false v ≡ true → v ≡ False
is_false-true True h = cc
is_false-true False h = refl
is_false-true Open h = cc

some_closes : (rules : List Rule) (ends : List Pair) (k : ℕ) (o : Option Rule) → slice_get rules k ≡ o → option_map_or (λ r. is_false (verdict_of ends r)) o false ≡ true → IsClosing rules ends k
some_closes rules ends k None is h = absurd (false≢true h)
some_closes rules ends k (Some r) is h = record { rule = r; there = is; says = is_false-true (verdict_of ends r) h }

pub close_facts : (rules : List Rule) (ends : List Pair) (k : ℕ) → may_close rules ends k ≡ true → IsClosing rules ends k
close_facts rules ends k h = some_closes rules ends k (slice_get rules k) refl h

close_empty : (rules : List Rule) (ends : List Pair) (k : ℕ) → IsClosing rules ends k → IsEmpty rules ends
close_empty rules ends k c point p meets =
    false≢true (sym (false_everywhere ends c.rule c.says point p) ∙ meets_at point rules k c.rule meets c.there)

cut_empty : (rules : List Rule) (ends : List Pair) (cut : Cut) → IsCutOf ends cut
    → IsEmpty rules (first_part cut ends) → IsEmpty rules (second_part cut ends) → IsEmpty rules ends
cut_empty rules ends cut is first second point p meets =
    ⊎_elim (λ q. first point q meets) (λ q. second point q meets) (cut_parts_point ends cut is point p)

-- what an accepted sum says
pub record IsAdding (flat : Flat) (ends : List Pair) (picks : List Pick) : Type 0 where
  pub stand : may_stand picks ≡ true
  pub no : is_false_sum flat picks ends ≡ true

pub sum_facts : (flat : Flat) (ends : List Pair) (picks : List Pick) → may_add flat ends picks ≡ true → IsAdding flat ends picks
sum_facts flat ends picks h = let both = and_parts (may_stand picks) (is_false_sum flat picks ends) h in record { stand = both.0; no = both.1 }

leaf_empty : (flat : Flat) (ends : List Pair) (l : Leaf) → may_leave flat ends l ≡ true → is_open l ≡ false → IsEmpty flat.rules ends
leaf_empty flat ends (close k) accepted closed = close_empty flat.rules ends k (close_facts flat.rules ends k accepted)
leaf_empty flat ends (added picks) accepted closed = sum_empty flat picks ends (sum_facts flat ends picks accepted).no
leaf_empty flat ends unknown accepted closed = absurd (false≢true (sym closed))

pub tree_empty : (flat : Flat) (room : ℕ) (ends : List Pair) (above : ℕ) (tree : Tree) → Accepted flat room ends above tree → has_open tree ≡ false → IsEmpty flat.rules ends
tree_empty flat room ends above (branch cut first second) accepted closed =
    let firsts = accepts flat room (first_part cut ends) (above + 1) first in
    let seconds = accepts flat room (second_part cut ends) (above + 1) second in
    let parts = or_parts (has_open first) (has_open second) closed in
    cut_empty flat.rules ends cut (cut_facts room ends above cut accepted.0).parts
    (tree_empty flat room (first_part cut ends) (above + 1) first (AllTrue-front firsts seconds accepted.1) parts.0)
    (tree_empty flat room (second_part cut ends) (above + 1) second (AllTrue-back firsts seconds accepted.1) parts.1)
tree_empty flat room ends above (leaf l) accepted closed = leaf_empty flat ends l accepted.0 closed

pub refutation_empty : (flat : Flat) (claim : Record) → IsRefutation flat claim → IsEmpty flat.rules flat.bounds.pairs
refutation_empty flat claim r = tree_empty flat claim.room flat.bounds.pairs 0 r.tree r.accepted.accepted.1.1.1.1 r.closed

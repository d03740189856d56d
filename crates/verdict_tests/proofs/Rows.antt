-- Worked rows: a flat form with one slot and three rules, and its refutation.
use Rattle.std.proofs.Common.{◌≡◌, ◌≤◌, ◌^◌, refl, ap, ◌<◌, ℕ, zero, suc, slice_get, Some, List, [], ◌∷◌, Bool, true, false, ℤ, pos, negsuc, ◌≤ℤ◌, arith}
use Rattle.box_eval.specs.declared.rule.Rule.{Rule}
use Rattle.box_eval.specs.declared.rule.Term.{Term}
use Rattle.box_eval.specs.declared.rule.Rule.TheVariants.{Below, AtMost, Equal, Both, Not}
use Rattle.box_eval.specs.declared.rule.Term.TheVariants.{Whole, Slot, Times, Less, Truth}
use Rattle.box_eval.specs.declared.rule.Rule.TheFolds.{fold-Rule}
use Rattle.box_eval.specs.declared.bounds.Pair.{Pair}
use Rattle.box_eval.specs.declared.flat.Flat.{Flat}
use Rattle.seeded_search.specs.record_trees.declared.record.Record.{Record}
use Rattle.seeded_search.specs.record_trees.declared.record.Line.TheVariants as L
use Rattle.box_eval.specs.declared.cut.Cut.{Cut}
use Rattle.box_eval.specs.declared.cut.Side.TheVariants.{Low, High}
use Rattle.box_eval.specs.declared.verdict.Verdict.{Verdict}
use Rattle.box_eval.specs.declared.verdict.Verdict.TheVariants.{False, Open}
use Rattle.box_eval.specs.Box.{pair, low_at, high_at, IsBox, IsInside, cut_at}
use Rattle.box_eval.specs.Rules.{CanJudge}
use Rattle.box_eval.specs.Truth.{true_at}
use Rattle.box_eval.specs.Verdict.{verdict_of, span_of}
use Rattle.box_eval.specs.Reach.{slot_bound, Judged, Seen, rule_judged, term_seen}
use Rattle.seeded_search.specs.record_trees.Guided.{decisions, Guided}
use Rattle.seeded_search.specs.search_plans.Drawn.{drawn}
use Rattle.seeded_search.specs.record_trees.Record.{Tree, branch, leaf, close, lines_of, depth_of, accepts, IsFirstFalse, marks, IsRefutation}
use Rattle.box_eval.proofs.Equations.{folds}
use Rattle.box_eval.proofs.Parts.{inside_self, inside_both}
use Rattle.box_eval.proofs.Fits.{can_judge_inside}
use Rattle.std.proofs.lemmas.Int.{ints}

abbrev pub box : ℤ → ℤ → List Pair
box low high = pair low high ∷ []

-- the whole numbers from -1,000,000,000 to 1,000,000,000
abbrev pub wide : List Pair
wide = box (negsuc 999999999) (pos 1000000000)

abbrev pub x : Term
x = Slot 0

-- from 0 to 5, above 3, and below 3
abbrev pub within : Rule
within = Both (AtMost (Whole (pos 0)) x) (AtMost x (Whole (pos 5)))

abbrev pub above : Rule
above = Below (Whole (pos 3)) x

abbrev pub below : Rule
below = Below x (Whole (pos 3))

abbrev pub flat : Flat
flat = record { bounds = record { pairs = wide }; rules = within ∷ above ∷ below ∷ [] }

abbrev tree : Tree
tree = branch (cut_at Low 0 (negsuc 0)) (leaf (close 0)) (branch (cut_at High 0 (pos 5)) (leaf (close 0)) (branch (cut_at Low 0 (pos 3)) (leaf (close 1)) (leaf (close 2))))

abbrev claim : Record
claim = record { undecided = false; slots = 1; rules = 3; room = 3; lines = lines_of tree; picks = [] }

-- ---- rules

abbrev judged_wide : Rule → Judged
judged_wide = fold-Rule Judged Seen rule_judged (term_seen wide)

of_row : (rule : Rule) (n m : ℕ) (verdict : Verdict) → slot_bound rule ≡ n → judged_wide rule ≡ record { verdict = verdict; reach = m } → n ≤ 1 → m ≤ 2 ^ 120 → CanJudge wide rule
of_row rule n m verdict slots reach few small = record { slots = omega (arith, slots); reach = omega (arith, ap (λ j. j.reach) reach) }

pub row_within : CanJudge wide within
row_within = of_row within 1 1000000000 Open (simp folds) (simp folds) (omega arith) (omega arith)

pub row_above : CanJudge wide above
row_above = of_row above 1 1000000000 Open (simp folds) (simp folds) (omega arith) (omega arith)

pub row_below : CanJudge wide below
row_below = of_row below 1 1000000000 Open (simp folds) (simp folds) (omega arith) (omega arith)

-- each of them may be judged on every box and point within the whole numbers
pub inside_wide : (low high : ℤ) → negsuc 999999999 ≤ℤ low → high ≤ℤ pos 1000000000 → IsInside (box low high) wide
inside_wide low high p q = inside_both wide wide 0 (pair low high) (pair (negsuc 999999999) (pos 1000000000)) (omega arith) (inside_self wide) p q

pub box_wide : (low high : ℤ) → low ≤ℤ high → IsBox (box low high)
box_wide low high p = record { ordered = slots }
  where
    slots : (slot : ℕ) → low_at (box low high) slot ≤ℤ high_at (box low high) slot
    slots zero = p
    slots (suc slot) = omega (arith, ints)

pub judges : (rule : Rule) (low high : ℤ) → CanJudge wide rule → low ≤ℤ high → negsuc 999999999 ≤ℤ low → high ≤ℤ pos 1000000000 → CanJudge (box low high) rule
judges rule low high can p q r = can_judge_inside (box low high) wide rule (box_wide low high p) (inside_wide low high q r) can

row_true : true_at (pos 5 ∷ []) within ≡ true
row_true = simp folds

row_false : true_at (pos 3 ∷ []) above ≡ false
row_false = simp folds

row_open : verdict_of flat.bounds.pairs within ≡ Open
row_open = simp folds

-- each close is false in its box
row_below_0 : verdict_of (box (negsuc 999999999) (negsuc 0)) within ≡ False
row_below_0 = simp folds

row_above_5 : verdict_of (box (pos 6) (pos 1000000000)) within ≡ False
row_above_5 = simp folds

row_to_3 : verdict_of (box (pos 0) (pos 3)) above ≡ False
row_to_3 = simp folds

row_from_4 : verdict_of (box (pos 4) (pos 5)) below ≡ False
row_from_4 = simp folds

-- a product of ranges that reach below 0, a difference, ranges that only meet, and a truth that is open
row_times : span_of (box (negsuc 1) (pos 3)) (Times x x) ≡ record { least = negsuc 5; greatest = pos 9 }
row_times = simp folds

row_less : span_of (box (negsuc 1) (pos 3)) (Less x x) ≡ record { least = negsuc 4; greatest = pos 5 }
row_less = simp folds

row_meet : verdict_of (box (pos 0) (pos 3)) (Equal x (Whole (pos 3))) ≡ Open
row_meet = simp folds

row_truth : span_of (box (pos 0) (pos 3)) (Truth (Not (Equal x (Whole (pos 3))))) ≡ record { least = pos 0; greatest = pos 1 }
row_truth = simp folds

-- ---- the record

row_lines : lines_of tree ≡ L.Low 0 (negsuc 0) ∷ L.Close 0 ∷ L.High 0 (pos 5) ∷ L.Close 0 ∷ L.Low 0 (pos 3) ∷ L.Close 1 ∷ L.Close 2 ∷ []
row_lines = refl

row_marks : marks flat claim tree ≡ true ∷ true ∷ true ∷ true ∷ true ∷ true ∷ true ∷ true ∷ true ∷ true ∷ true ∷ []
row_marks = simp folds

row_refutation : IsRefutation flat claim
row_refutation = record {
  tree = tree;
  accepted = record { record_of = record { lines = refl; picks = refl; undecided = refl }; accepted = simp folds (refl, (refl, (refl, (refl, (refl, (refl, (refl, (refl, (refl, (refl, (refl, tt))))))))))) };
  closed = refl;
}

-- the fifth of five lines or more is the first that isn't accepted, if four are before it
fifth : (bs cs : List Bool) → bs ≡ true ∷ true ∷ true ∷ true ∷ false ∷ cs → IsFirstFalse bs 4
fifth bs cs is = rw is (record { there = refl; before = earlier })
  where
    earlier : (j : ℕ) → j < 4 → slice_get (true ∷ true ∷ true ∷ true ∷ false ∷ cs) j ≡ Some true
    earlier zero h = refl
    earlier (suc zero) h = refl
    earlier (suc (suc zero)) h = refl
    earlier (suc (suc (suc zero))) h = refl
    earlier (suc (suc (suc (suc j)))) h = absurd (omega arith)

-- with room for two cuts alone, the third isn't accepted
row_room : IsFirstFalse (accepts flat 2 flat.bounds.pairs 0 tree) 4
row_room = fifth (accepts flat 2 flat.bounds.pairs 0 tree) (true ∷ true ∷ []) (simp folds)

-- nor is a cut at the greatest value of a slot, which is the fifth line of the record as it is written
row_upper : IsFirstFalse (marks flat claim (branch (cut_at Low 0 (pos 1000000000)) (leaf (close 0)) (leaf (close 0)))) 4
row_upper = fifth (marks flat claim (branch (cut_at Low 0 (pos 1000000000)) (leaf (close 0)) (leaf (close 0)))) (false ∷ true ∷ []) (simp folds)

-- ---- how it is guided

-- each of its cuts takes away as much as its rule allows, so none of them is a decision
row_decisions : decisions flat.rules flat.bounds.pairs tree ≡ 0
row_decisions = simp folds

row_guided : (choose : ℕ → List Pair → Cut) → Guided choose flat flat.bounds.pairs 0 tree
row_guided choose = simp folds tt

-- cuts that numbers pick of a slot from 0 to 9
row_drawn_low : drawn 4 0 (pos 0) (pos 9) ≡ cut_at Low 0 (pos 0)
row_drawn_low = refl

row_drawn_high : drawn 5 0 (pos 0) (pos 9) ≡ cut_at High 0 (pos 8)
row_drawn_high = refl

row_drawn_up_to : drawn 46 0 (pos 0) (pos 9) ≡ cut_at Low 0 (pos 2)
row_drawn_up_to = refl

row_drawn_from : drawn 47 0 (pos 0) (pos 9) ≡ cut_at High 0 (pos 2)
row_drawn_from = refl

-- Rules that are judged on the first part of a cut.
use Rattle.std.proofs.Common.{◌≡◌, sym, ap, ◌∙◌, subst, ℕ, ◌<◌, ◌≤◌, List, slice_set, ℤ, ◌-ℤ◌, ◌≤ℤ◌, arith}
use Rattle.std.proofs.lemmas.Int.{ints}
use Rattle.std.specs.Prelude.{unsigned_abs}
use Rattle.box_eval.specs.declared.rule.Rule.{Rule}
use Rattle.box_eval.specs.declared.bounds.Pair.{Pair}
use Rattle.box_eval.specs.declared.cut.Side.{Side}
use Rattle.box_eval.specs.declared.cut.Side.TheVariants.{Low, High}
use Rattle.box_eval.specs.Box.{pair, low_at, high_at}
use Rattle.box_eval.specs.Verdict.{verdict_of}
use Rattle.box_eval.specs.Rules.{CanJudge}
use Rattle.search_laws.specs.record_trees.Record.{is_false}
use Rattle.box_eval.proofs.Parts.{box_set, inside_set}
use Rattle.box_eval.proofs.Fits.{can_judge_inside}
use Rattle.search_laws.specs.Halves.{value_at, first_pair, part_of}
use Rattle.search_laws.proofs.Halves.{part_set}
use Rattle.seeded_search.specs.Probe.{IsProbe, IsPartOf}

pair_between : (side : Side) (low high : ℤ) (count : ℕ) → low ≤ℤ high → 0 < count → count ≤ unsigned_abs (high -ℤ low)
    → let p = first_pair side (pair low high) (value_at side low high count) in (low ≤ℤ p.low) × (p.low ≤ℤ p.high) × (p.high ≤ℤ high)
pair_between Low low high count ordered some most = (omega (arith, ints), omega (arith, ints), omega (arith, ints))
pair_between High low high count ordered some most = (omega (arith, ints), omega (arith, ints), omega (arith, ints))

module _ (ends : List Pair) (rule : Rule) (slot : ℕ) (side : Side) (count : ℕ) (probe : IsProbe ends rule slot) (part : IsPartOf (pair (low_at ends slot) (high_at ends slot)) count) where
  abbrev here : Pair
  here = first_pair side (pair (low_at ends slot) (high_at ends slot)) (value_at side (low_at ends slot) (high_at ends slot) count)

  can_judge_part : CanJudge (slice_set ends slot here) rule
  can_judge_part =
      let b = pair_between side (low_at ends slot) (high_at ends slot) count part.ordered part.some part.most in
      can_judge_inside (slice_set ends slot here) ends rule (box_set ends slot here probe.there probe.box b.1) (inside_set ends slot here probe.there b.0 b.2) probe.can

  pub can_judge_pair : (e p : Pair) → e ≡ pair (low_at ends slot) (high_at ends slot) → p ≡ first_pair side e (value_at side e.low e.high count) → CanJudge (slice_set ends slot p) rule
  can_judge_pair e p at is = subst (λ (q : Pair). CanJudge (slice_set ends slot q) rule) (sym (is ∙ ap (λ (f : Pair). first_pair side f (value_at side f.low f.high count)) at)) can_judge_part

  pub part_verdict : (e p : Pair) → e ≡ pair (low_at ends slot) (high_at ends slot) → p ≡ first_pair side e (value_at side e.low e.high count)
      → is_false (verdict_of (slice_set ends slot p) rule) ≡ is_false (verdict_of (part_of side ends slot count) rule)
  part_verdict e p at is = ap (λ (b : List Pair). is_false (verdict_of b rule))
      (ap (slice_set ends slot) (is ∙ ap (λ (f : Pair). first_pair side f (value_at side f.low f.high count)) at) ∙ part_set side ends slot (value_at side (low_at ends slot) (high_at ends slot) count))

-- A false facing pair closes the flat form's box: the record of its sum alone is a refutation.
use Rattle.std.proofs.Common.{◌≡◌, refl, ℕ, ◌<◌, ◌≤◌, Bool, true, false, ◌&&◌, List, [], ◌∷◌, length, arith}
use Rattle.std.proofs.lemmas.Bool.{eq-eqb}
use Rattle.std.proofs.lemmas.Bool.Decides.{nat_tests}
use Rattle.box_eval.specs.declared.bounds.Pair.{Pair}
use Rattle.box_eval.specs.declared.cut.Cut.{Cut}
use Rattle.box_eval.specs.declared.flat.Flat.{Flat}
use Rattle.linear_sums.specs.FacingPairs.{pick_of, IsFalseFacing}
use Rattle.linear_sums.specs.declared.pick.Pick.{Pick}
use Rattle.record_trees.specs.Record.{leaf, added, may_stand, may_add}
use Rattle.search_laws.specs.Answers.{IsRefutedAnswer, claim_of, sum_of_two}

-- two picks in order may stand in a line
two_stand : (k c l d : ℕ) → c < d → 1 ≤ k → k ≤ 1000000 → 1 ≤ l → l ≤ 1000000 → may_stand (pick_of k c ∷ pick_of l d ∷ []) ≡ true
two_stand k c l d before some few some' few' = grind (arith, nat_tests)

both : (a b : Bool) → a ≡ true → b ≡ true → a && b ≡ true
both true b e f = f
both false b e f = e

module _ (choose : ℕ → List Pair → Cut) (cuts : ℕ) (flat : Flat) (k c l d : ℕ) (f : IsFalseFacing flat k c l d) where
  abbrev picks : List Pick
  picks = pick_of k c ∷ pick_of l d ∷ []

  may : may_add flat flat.bounds.pairs picks ≡ true
  may =
      let n = f.faces.facing.cancel in
      both (may_stand picks) _ (two_stand k c l d f.faces.before n.some_first n.few_first n.some_second n.few_second) f.false_sum

  pub faced : IsRefutedAnswer choose cuts flat (claim_of flat false 0 sum_of_two picks) (flat.bounds.pairs ∷ [])
  faced = record {
    tree = leaf (added picks);
    refutation = record {
      guided = record {
        accepted = record {
          record_of = record { lines = refl; picks = refl; undecided = refl };
          accepted = (refl, (eq-eqb (length flat.bounds.pairs) (length flat.bounds.pairs) refl, (eq-eqb (length flat.rules) (length flat.rules) refl, (refl, (may, tt)))));
        };
        guided = tt;
      };
      closed = refl;
    };
    cuts_are = omega arith;
    room = refl;
    few_picks = omega arith;
    trail = refl;
  }

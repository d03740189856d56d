-- Whether a close is accepted.
use Rattle.std.proofs.Common.{◌≡◌, ◌≢◌, refl, sym, ap, subst, ◌∙◌, ℕ, zero, suc, ◌<◌, true, false, List, [], ◌∷◌, length, get_or, slice_get, Option, Some, arith}
use Rattle.std.specs.Option.{option_map_or}
use Rattle.box_eval.specs.declared.rule.Rule.{Rule}
use Rattle.box_eval.specs.declared.bounds.Pair.{Pair}
use Rattle.box_eval.specs.declared.flat.Flat.{Flat}
use Rattle.box_eval.specs.declared.verdict.Verdict.{Verdict}
use Rattle.box_eval.specs.declared.verdict.Verdict.TheVariants.{True, False, Open}
use Rattle.box_eval.specs.Box.{IsBox, IsInside}
use Rattle.box_eval.specs.Verdict.{verdict_of}
use Rattle.box_eval.specs.Rules.{IsFlat, CanJudge}
use Rattle.record_trees.specs.Record.{is_false, may_close}
use Rattle.box_eval.proofs.Fits.{fits_at, can_judge_inside}

pub there : {A : Type 0} (xs : List A) (k : ℕ) (x : A) → k < length xs → x ≡ get_or xs k x → slice_get xs k ≡ Some x
there [] k x less is = absurd (let never : ⊥ = omega (arith, less) in never)
there (y ∷ ys) zero x less is = ap Some (sym is)
there (y ∷ ys) (suc k) x less is = there ys k x (omega (arith, less)) is

module _ (flat : Flat) (ends : List Pair) (k : ℕ) (rules : List Rule) (rule : Rule) (is_flat : IsFlat flat) (box : IsBox ends) (inside : IsInside ends flat.bounds.pairs)
    (same : rules ≡ flat.rules) (less : k < length rules) (is : rule ≡ get_or rules k rule) where
  found : slice_get flat.rules k ≡ Some rule
  found = subst (λ (rs : List Rule). slice_get rs k ≡ Some rule) same (there rules k rule less is)

  pub can_judge : CanJudge ends rule
  can_judge = can_judge_inside ends flat.bounds.pairs rule box inside (fits_at flat.bounds.pairs flat.rules k rule is_flat.fit found)

  close_is : may_close flat.rules ends k ≡ is_false (verdict_of ends rule)
  close_is = ap (λ (o : Option Rule). option_map_or (λ r. is_false (verdict_of ends r)) o false) found

  pub closes : (v : Verdict) → v ≡ verdict_of ends rule → v ≡ False → true ≡ may_close flat.rules ends k
  closes v e f = sym (close_is ∙ ap is_false (sym e ∙ f))

  not_false : (v : Verdict) → v ≢ False → is_false v ≡ false
  not_false True f = refl
  not_false False f = absurd (f refl)
  not_false Open f = refl

  pub does_not_close : (v : Verdict) → v ≡ verdict_of ends rule → v ≢ False → false ≡ may_close flat.rules ends k
  does_not_close v e f = sym (close_is ∙ (ap is_false (sym e) ∙ not_false v f))

-- A run of which the lists, the end and the bounds don't fail.
use Rattle.std.proofs.Common.{◌≡◌, ◌∙◌, refl, sym, ap, Bool, true, false, ◌&&◌, [], ◌∷◌, Option, Some, None, Result, Ok, Err}
use Rattle.std.specs.Prelude.{IfOk, not, find, option_map}
use Rattle.run_check.specs.composition.declared.clause.Clause.{Clause}
use Rattle.run_check.specs.composition.declared.spot.PhaseSpot.{PhaseSpot}
use Rattle.std.specs.Option.{option_or}
use Rattle.std.specs.List.{list_all}
use Rattle.run_check.specs.composition.declared.run.Run.{Run}
use Rattle.run_check.specs.composition.Scenes.{Scene, phases}
use Rattle.run_check.specs.composition.Claims.{Claim, claim, end_claim, bounds_claims}
use Rattle.run_check.specs.composition.Items.{arranged_holds}
use Rattle.run_check.specs.declared.wrong.Wrong.{Wrong}
use Rattle.run_check.specs.Answers.{first_wrong, wrong_of}
use Rattle.instance_check.specs.FirstWrong.{listed_wrong, end_wrong, bounds_wrong, inner_wrong, phase_wrong}
use Rattle.instance_check.proofs.FirstClaims.{all_hold, bounds_wrongs, outer_wrongs, all_wrongs}

first_none : (a b : Option Wrong) → None ≡ option_or a b → a ≡ None
first_none None b h = refl
first_none (Some x) b h = sym h

second_none : (a b : Option Wrong) → None ≡ option_or a b → b ≡ None
second_none None b h = sym h
second_none (Some x) b h = cc

holds_alone : (b : Bool) → (b && true) ≡ true → b ≡ true
holds_alone true h = refl
holds_alone false h = h

module _ (scene : Scene) (run : Run) where
  abbrev outer : Option Wrong
  outer = option_or (listed_wrong scene run) (option_or (end_wrong scene run) (bounds_wrong scene run))

  pub ended : None ≡ outer → (end_claim scene run).holds ≡ true
  ended h =
      holds_alone (end_claim scene run).holds
      (all_hold (end_claim scene run ∷ []) (first_none (end_wrong scene run) (bounds_wrong scene run) (sym (second_none (listed_wrong scene run) (option_or (end_wrong scene run) (bounds_wrong scene run)) h))))

  pub bounded : None ≡ outer → list_all (λ (c : Claim). c.holds) (bounds_claims scene run) ≡ true
  bounded h =
      all_hold (bounds_claims scene run)
      (bounds_wrongs scene run ∙ second_none (end_wrong scene run) (bounds_wrong scene run) (sym (second_none (listed_wrong scene run) (option_or (end_wrong scene run) (bounds_wrong scene run)) h)))

  whole : first_wrong scene run ≡ option_or outer (inner_wrong scene run)
  whole =
      all_wrongs scene run
      ∙ ap (λ o. option_or o (inner_wrong scene run)) (outer_wrongs scene run ∙ together (listed_wrong scene run) (end_wrong scene run) (bounds_wrong scene run))
    where
      together : (a b c : Option Wrong) → option_or (option_or a b) c ≡ option_or a (option_or b c)
      together None b c = refl
      together (Some x) b c = refl

  pub found : (w : Wrong) → Some w ≡ outer → Some w ≡ first_wrong scene run
  found w h = ap (λ o. option_or o (inner_wrong scene run)) h ∙ sym whole

  pub passed : (x : Option Wrong) → None ≡ outer → x ≡ inner_wrong scene run → x ≡ first_wrong scene run
  passed x h e = e ∙ ap (λ o. option_or o (inner_wrong scene run)) h ∙ sym whole

  pub passed_ok : {E : Type 0} (r : Result (Option Wrong) E) → None ≡ outer → IfOk r (λ w. w ≡ inner_wrong scene run) → IfOk r (λ w. w ≡ first_wrong scene run)
  passed_ok (Ok x) h e = passed x h e
  passed_ok (Err f) h e = tt

-- an answer is another that is equal
pub told : {E : Type 0} (r : Result (Option Wrong) E) (x y : Option Wrong) → IfOk r (λ w. w ≡ x) → x ≡ y → IfOk r (λ w. w ≡ y)
told (Ok w) x y h e = h ∙ e
told (Err f) x y h e = tt

-- the first phase that isn't arranged, in an equal scene and run
pub phase_told : (scene other : Scene) (run another : Run) (o : Option PhaseSpot) → other ≡ scene → another ≡ run
    → o ≡ find (λ (p : PhaseSpot). not (arranged_holds other another p)) (phases other)
    → option_map (λ (p : PhaseSpot). wrong_of (claim Clause.Arranged p.path false)) o ≡ phase_wrong scene run
phase_told scene other run another o a b h =
    ap (option_map (λ (p : PhaseSpot). wrong_of (claim Clause.Arranged p.path false))) h ∙ (λ i. phase_wrong (a i) (b i))

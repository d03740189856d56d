-- The points of a form are the instances that it asks for.
use Rattle.std.proofs.Common.{◌≡◌, ◌∙◌, ℕ, refl, sym, ap, ap₂, subst, List, ◌++◌, Bool, true, false, not, ◌&&◌, ◌||◌}
use Rattle.std.specs.Prelude.{ℤ}
use Rattle.std.specs.List.{list_all}
use Rattle.box_eval.specs.Box.{IsPointOf}
use Rattle.box_eval.specs.declared.flat.Flat.{Flat}
use Rattle.box_eval.specs.Rules.{Meets}
use Rattle.box_eval.specs.FlatRules.{FlatRule, holds_at}
use Rattle.field_flatten.specs.composition.declared.run.Run.{Run}
use Rattle.field_flatten.specs.composition.declared.spot.PhaseSpot.{PhaseSpot}
use Rattle.field_flatten.specs.composition.Scenes.{Scene, phases}
use Rattle.field_flatten.specs.composition.Items.{Item, OfPhase, items, item_holds, is_hard}
use Rattle.field_flatten.specs.composition.Claims.{is_instance}
use Rattle.field_flatten.specs.Ends.{bounds}
use Rattle.field_flatten.specs.Points.{run_of, point_of}
use Rattle.field_flatten.specs.Rules.{layout, arranged_rule, item_rule}
use Rattle.field_flatten.specs.Exactness.{IsExpanded, IsReached, meets_soft, meets_phases, is_framed}
use Rattle.field_flatten.proofs.Tests.{left_of, right_of, both, same_truth, all_at, all_from, all_append}
use Rattle.field_flatten.proofs.FlatTruth.{meets_all, all_meets}
use Rattle.field_flatten.proofs.ItemLaw.{phase_item}
use Rattle.field_flatten.proofs.Exact.{exact}
use Rattle.field_flatten.proofs.ClaimLists.{framed_of, framed_is, instance_parts, instance_is}
use Rattle.asked_forms.specs.AskedForms.{kept_from, all_kept, IsFormFor, keeps_hold, is_instance_for, Say, IsExactFor}
use Rattle.asked_forms.specs.AskedLaws.{FormsAreExactFor, AllKeptIsInstance, FewerKeptStay, BothAreSaid, NothingIsSaid}
use Rattle.asked_forms.proofs.Kept.{soft_of_kept, kept_says, all_held, fewer_hold}

module _ (scene : Scene) (keeps : ℕ → Bool) (more : List FlatRule) (is_so : Run → Bool) (flat : Flat) (expanded : IsExpanded scene) (say : Say scene more is_so) (form : IsFormFor scene keeps more flat) where
  abbrev holds : List ℤ → Item → Bool
  holds point i = holds_at point (item_rule scene (layout scene) i)

  abbrev kept : List FlatRule
  kept = kept_from scene keeps 0 (items scene)

  phases_of : (point : List ℤ) → meets_soft scene point ≡ true → meets_phases scene point ≡ true
  phases_of point h = all_from (λ (q : PhaseSpot). holds_at point (arranged_rule scene (layout scene) q)) (phases scene)
      (λ q i. all_at (λ j. is_hard j || holds point j) (items scene) h (OfPhase q) (phase_item scene q i))

  -- at a point of the box at which the soft rules hold, the kept rules say what they are to say
  says : (point : List ℤ) → IsPointOf (bounds scene) point → meets_soft scene point ≡ true
      → list_all (holds_at point) kept ≡ keeps_hold scene keeps (run_of scene point) 0 (items scene)
  says point p soft =
      kept_says scene keeps point (run_of scene point) 0 (items scene) ((exact scene expanded).items_agree point p (phases_of point soft))
      ∙ ap (λ b. b && keeps_hold scene keeps (run_of scene point) 0 (items scene)) soft

  -- ---- a point

  in_scene : (point : List ℤ) → IsPointOf flat.bounds.pairs point → IsPointOf (bounds scene) point
  in_scene point p = subst (λ ends. IsPointOf ends point) form.same_ends p

  all_hold : (point : List ℤ) → Meets point flat.rules → list_all (holds_at point) (kept ++ more) ≡ true
  all_hold point m = sym (ap (list_all (holds_at point)) form.same_rules) ∙ meets_all point flat.rules m

  kept_hold : (point : List ℤ) → Meets point flat.rules → list_all (holds_at point) kept ≡ true
  kept_hold point m = left_of (list_all (holds_at point) kept) (list_all (holds_at point) more) (sym (all_append (holds_at point) kept more) ∙ all_hold point m)

  more_hold : (point : List ℤ) → Meets point flat.rules → list_all (holds_at point) more ≡ true
  more_hold point m = right_of (list_all (holds_at point) kept) (list_all (holds_at point) more) (sym (all_append (holds_at point) kept more) ∙ all_hold point m)

  soft_hold : (point : List ℤ) → Meets point flat.rules → meets_soft scene point ≡ true
  soft_hold point m = soft_of_kept scene keeps point 0 (items scene) (kept_hold point m)

  is_run : (point : List ℤ) → IsPointOf flat.bounds.pairs point → Meets point flat.rules → is_instance_for scene keeps (run_of scene point) ≡ true
  is_run point p m =
      let soft = soft_hold point m in
      both (is_framed scene (run_of scene point)) (keeps_hold scene keeps (run_of scene point) 0 (items scene))
      ((exact scene expanded).forth point (in_scene point p) soft)
      (sym (says point (in_scene point p) soft) ∙ kept_hold point m)

  is_said : (point : List ℤ) → IsPointOf flat.bounds.pairs point → Meets point flat.rules → is_so (run_of scene point) ≡ true
  is_said point p m = sym (say point (in_scene point p) (soft_hold point m)) ∙ more_hold point m

  -- ---- a run

  module _ (run : Run) (is : is_instance_for scene keeps run ≡ true) where
    abbrev point : List ℤ
    point = point_of scene run

    reached : IsReached scene run
    reached = (exact scene expanded).back run (left_of (is_framed scene run) (keeps_hold scene keeps run 0 (items scene)) is)

    inside_flat : IsPointOf flat.bounds.pairs point
    inside_flat = subst (λ ends. IsPointOf ends point) (sym form.same_ends) reached.inside

    kept_met : list_all (holds_at point) kept ≡ true
    kept_met =
        says point reached.inside reached.met
        ∙ ap (λ r. keeps_hold scene keeps r 0 (items scene)) reached.gives
        ∙ right_of (is_framed scene run) (keeps_hold scene keeps run 0 (items scene)) is

    rules_met : is_so run ≡ true → Meets point flat.rules
    rules_met so =
        all_meets point flat.rules
        (ap (list_all (holds_at point)) form.same_rules ∙ all_append (holds_at point) kept more
        ∙ both (list_all (holds_at point) kept) (list_all (holds_at point) more) kept_met (say point reached.inside reached.met ∙ ap is_so reached.gives ∙ so))

  exact_for : IsExactFor scene keeps is_so flat
  exact_for = record {
    instance_of = is_run;
    so = is_said;
    inside = inside_flat;
    met = rules_met;
    gives = λ run is. (reached run is).gives;
    none = λ empty run is so. empty (point_of scene run) (inside_flat run is) (rules_met run is so);
  }

pub forms : FormsAreExactFor
forms scene keeps more is_so flat expanded say form = exact_for scene keeps more is_so flat expanded say form

-- ---- all constraints kept, and fewer

pub all_kept_is : AllKeptIsInstance
all_kept_is scene run = same_truth (is_instance_for scene all_kept run) (is_instance scene run) forth back
  where
    hard : (h item : Bool) → not h || item ≡ true → h ≡ true → item ≡ true
    hard true item e f = e
    hard false item e f = cc

    free : (h item : Bool) → (h ≡ true → item ≡ true) → not h || item ≡ true
    free true item f = f refl
    free false item f = refl

    forth : is_instance_for scene all_kept run ≡ true → is_instance scene run ≡ true
    forth h =
        let framed = framed_of scene run (left_of (is_framed scene run) (keeps_hold scene all_kept run 0 (items scene)) h) in
        let held = sym (all_held scene run 0 (items scene)) ∙ right_of (is_framed scene run) (keeps_hold scene all_kept run 0 (items scene)) h in
        instance_is scene run framed (λ i j e. hard (is_hard i) (item_holds scene run i) (all_at (λ k. not (is_hard k) || item_holds scene run k) (items scene) held i j) e)

    back : is_instance scene run ≡ true → is_instance_for scene all_kept run ≡ true
    back h =
        let parts = instance_parts scene run h in
        both (is_framed scene run) (keeps_hold scene all_kept run 0 (items scene)) (framed_is scene run parts.0)
        (all_held scene run 0 (items scene) ∙ all_from (λ k. not (is_hard k) || item_holds scene run k) (items scene) (λ i j. free (is_hard i) (item_holds scene run i) (parts.1 i j)))

pub fewer_stay : FewerKeptStay
fewer_stay scene fewer more run f h =
    both (is_framed scene run) (keeps_hold scene fewer run 0 (items scene)) (left_of (is_framed scene run) (keeps_hold scene more run 0 (items scene)) h)
    (fewer_hold scene fewer more run f 0 (items scene) (right_of (is_framed scene run) (keeps_hold scene more run 0 (items scene)) h))

-- ---- further rules

pub said_both : BothAreSaid
said_both scene first second is_first is_second f g point p soft = all_append (holds_at point) first second ∙ ap₂ (◌&&◌) (f point p soft) (g point p soft)

pub said_nothing : NothingIsSaid
said_nothing scene _ p soft = refl

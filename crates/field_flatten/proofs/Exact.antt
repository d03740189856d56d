-- The flat form of a scene says exactly what the scene says.
use Rattle.std.proofs.Common.{◌≡◌, ℕ, refl, sym, ap, ◌∙◌, subst, List, Bool, true, false, ◌||◌, true≢false}
use Rattle.std.specs.Prelude.{ℤ}
use Rattle.std.specs.List.{list_all}
use Rattle.osc_base.specs.declared.listing.SlotName.{SlotName}
use Rattle.box_eval.specs.Box.{IsPointOf}
use Rattle.box_eval.specs.declared.flat.Flat.{Flat}
use Rattle.box_eval.specs.Rules.{Meets}
use Rattle.box_eval.specs.FlatRules.{holds_at}
use Rattle.composition.specs.declared.spot.PhaseSpot.{PhaseSpot}
use Rattle.composition.specs.declared.run.Run.{Run}
use Rattle.composition.specs.Scenes.{Scene, phases}
use Rattle.composition.specs.Items.{Item, OfTyped, OfPhase, items, item_holds, is_hard}
use Rattle.composition.specs.Claims.{IsInstance}
use Rattle.composition.specs.Slots.{slot_names}
use Rattle.field_flatten.specs.Ends.{slot_in, bounds}
use Rattle.field_flatten.specs.Points.{slot_value, run_of, point_of}
use Rattle.field_flatten.specs.Rules.{layout, arranged_rule, item_rule}
use Rattle.field_flatten.specs.Exactness.{IsExpanded, meets, meets_soft, meets_phases, IsFound, IsExact, IsFlatOf, IsExactFlat}
use Rattle.field_flatten.proofs.Tests.{two_ways, In, all_at, all_from, all_map, map_same}
use Rattle.field_flatten.proofs.FlatTruth.{meets_all, all_meets}
use Rattle.field_flatten.proofs.SlotLaw.{Inside, point_inside}
use Rattle.field_flatten.proofs.PhaseLaw.{arranged_law}
use Rattle.field_flatten.proofs.Nesting.{AllArranged}
use Rattle.field_flatten.proofs.ItemLaw.{IsItem, item_is, phase_item, item_law, arranged_all}
use Rattle.field_flatten.proofs.Frame.{listed_hold, end_holds, bounds_hold}
use Rattle.field_flatten.proofs.ListedRun.{Framed}
use Rattle.field_flatten.proofs.PointOfRun.{point_is_in}
use Rattle.field_flatten.proofs.RunBack.{run_back, typed_back}
use Rattle.field_flatten.proofs.ClaimLists.{AllHard, framed_of, framed_is, instance_parts, instance_is, item_true, true_item}

either : (a b : Bool) → a || b ≡ true → a ≡ false → b ≡ true
either true b h e = absurd (true≢false e)
either false b h e = h

soft_or : (a b : Bool) → (a ≡ false → b ≡ true) → a || b ≡ true
soft_or true b f = refl
soft_or false b f = f refl

module _ (scene : Scene) (expanded : IsExpanded scene) where
  abbrev slot : SlotName → ℕ
  slot = slot_in (slot_names scene)

  abbrev holds : List ℤ → Item → Bool
  holds point i = holds_at point (item_rule scene (layout scene) i)

  -- ---- a point

  module _ (point : List ℤ) (p : IsPointOf (bounds scene) point) where
    inside : Inside scene (slot_value scene point)
    inside = point_inside scene point p

    arranged_of : ((q : PhaseSpot) → In q (phases scene) → holds point (OfPhase q) ≡ true) → AllArranged scene (slot_value scene point) expanded
    arranged_of f = arranged_all scene point slot expanded inside f

    phases_met : meets_phases scene point ≡ true → (q : PhaseSpot) → In q (phases scene) → holds point (OfPhase q) ≡ true
    phases_met h q i = all_at (λ (r : PhaseSpot). holds_at point (arranged_rule scene (layout scene) r)) (phases scene) h q i

    soft_met : meets_soft scene point ≡ true → (i : Item) → In i (items scene) → is_hard i ≡ false → holds point i ≡ true
    soft_met h i j e = either (is_hard i) (holds point i) (all_at (λ k. is_hard k || holds point k) (items scene) h i j) e

    phases_of : meets_soft scene point ≡ true → (q : PhaseSpot) → In q (phases scene) → holds point (OfPhase q) ≡ true
    phases_of h q i = soft_met h (OfPhase q) (phase_item scene q i) refl

    agrees : AllArranged scene (slot_value scene point) expanded → (i : Item) → In i (items scene) → holds point i ≡ item_holds scene (run_of scene point) i
    agrees all i j = item_law scene point slot expanded inside all i (item_is scene i j)

    framed_run : meets_soft scene point ≡ true → Framed scene (run_of scene point)
    framed_run h =
        let all = arranged_of (phases_of h) in
        record {
          listed = listed_hold scene point slot expanded inside;
          ended = end_holds scene point slot expanded inside;
          bounded = bounds_hold scene point slot expanded inside all (λ path numbers j. sym (agrees all (OfTyped path numbers) j) ∙ soft_met h (OfTyped path numbers) j refl);
          soft = λ i j e. item_true scene (run_of scene point) i (item_holds scene (run_of scene point) i) (sym (agrees all i j) ∙ soft_met h i j e);
        }

    -- the rules of all items hold
    each_met : meets scene point ≡ true → (i : Item) → In i (items scene) → holds point i ≡ true
    each_met h i j = all_at (holds point) (items scene) (sym (all_map (holds_at point) (item_rule scene (layout scene)) (items scene)) ∙ h) i j

    soft_of : meets scene point ≡ true → meets_soft scene point ≡ true
    soft_of h = all_from (λ i. is_hard i || holds point i) (items scene) (λ i j. soft_or (is_hard i) (holds point i) (λ e. each_met h i j))

  -- ---- a run

  module _ (run : Run) (framed : Framed scene run) where
    abbrev point : List ℤ
    point = point_of scene run

    within : IsPointOf (bounds scene) point
    within = point_is_in scene expanded run framed

    back : run_of scene point ≡ run
    back = run_back scene expanded run framed

    item_held : (i : Item) → In i (items scene) → is_hard i ≡ false → item_holds scene run i ≡ true
    item_held i j e = true_item scene run i (item_holds scene run i) (λ path numbers is.
        let typed : IsItem scene (OfTyped path numbers) = subst (IsItem scene) is (item_is scene i j) in
        ap (item_holds scene run) is ∙ typed_back scene expanded run framed path numbers typed.0 typed.1 typed.2 typed.3)
        (framed.soft i j e)

    arranged_back : AllArranged scene (slot_value scene point) expanded
    arranged_back = arranged_of point within (λ q i. arranged_law scene point slot expanded (inside point within) q i
        ∙ ap (λ r. item_holds scene r (OfPhase q)) back ∙ item_held (OfPhase q) (phase_item scene q i) refl)

    agrees_back : (i : Item) → In i (items scene) → holds point i ≡ item_holds scene run i
    agrees_back i j = agrees point within arranged_back i j ∙ ap (λ r. item_holds scene r i) back

    soft_back : meets_soft scene point ≡ true
    soft_back = all_from (λ i. is_hard i || holds point i) (items scene) (λ i j. soft_or (is_hard i) (holds point i) (λ e. agrees_back i j ∙ item_held i j e))

    all_back : AllHard scene run → meets scene point ≡ true
    all_back hard = all_map (holds_at point) (item_rule scene (layout scene)) (items scene)
        ∙ all_from (holds point) (items scene) (λ i j. agrees_back i j ∙ two_ways (is_hard i) (hard i j) (item_held i j))

  -- ---- the statements

  found : (run : Run) → IsInstance scene run → IsFound scene run
  found run h =
      let parts = instance_parts scene run h in
      record { inside = within run parts.0; met = all_back run parts.0 parts.1; gives = back run parts.0 }

  pub exact : IsExact scene
  exact = record {
    items_agree = λ point p h. map_same (holds point) (item_holds scene (run_of scene point)) (items scene) (agrees point p (arranged_of point p (phases_met point p h)));
    forth = λ point p h. framed_is scene (run_of scene point) (framed_run point p h);
    back = λ run h. let f = framed_of scene run h in record { inside = within run f; met = soft_back run f; gives = back run f };
    instance_of = λ point p h. let s = soft_of point p h in instance_is scene (run_of scene point) (framed_run point p s)
        (λ i j e. sym (agrees point p (arranged_of point p (phases_of point p s)) i j) ∙ each_met point p h i j);
    point_of_instance = found;
    none = λ empty run h. let f = found run h in true≢false (sym f.met ∙ empty (point_of scene run) f.inside);
  }

-- ---- flat forms as the program holds them

pub exact_flat : (scene : Scene) (flat : Flat) → IsExpanded scene → IsFlatOf scene flat → IsExactFlat scene flat
exact_flat scene flat expanded is = record {
  instance_of = λ point p m. (exact scene expanded).instance_of point (in_scene point p)
      (sym (ap (list_all (holds_at point)) is.same_rules) ∙ meets_all point flat.rules m);
  inside = λ run h. in_flat run h;
  met = meets_in;
  gives = λ run h. (found scene expanded run h).gives;
  none = λ empty run h. empty (point_of scene run) (in_flat run h) (meets_in run h);
}
  where
    in_scene : (point : List ℤ) → IsPointOf flat.bounds.pairs point → IsPointOf (bounds scene) point
    in_scene point p = subst (λ ends. IsPointOf ends point) is.same_ends p

    in_flat : (run : Run) → IsInstance scene run → IsPointOf flat.bounds.pairs (point_of scene run)
    in_flat run h = subst (λ ends. IsPointOf ends (point_of scene run)) (sym is.same_ends) (found scene expanded run h).inside

    meets_in : (run : Run) → IsInstance scene run → Meets (point_of scene run) flat.rules
    meets_in run h = all_meets (point_of scene run) flat.rules (ap (list_all (holds_at (point_of scene run))) is.same_rules ∙ (found scene expanded run h).met)

-- The object of the named scenario, and the actor that it has by itself, have steps left for what they hold.
use Rattle.std.proofs.Common.{◌≡◌, ℕ, zero, suc, ◌<◌, refl, sym, subst, inl, inr, List, [], ◌++◌, Bool, true, false, cond, Option, Some, None, length, arith, true≢false}
use Rattle.std.specs.Prelude.{flat_map, option_to_list, option_and_then, codes}
use Rattle.osc_base.specs.Paths.{root, then_name}
use Rattle.expr_eval.specs.dsl_tree.declared.compounds.CompoundKind.{CompoundKind}
use Rattle.expr_eval.specs.type_heads.Form.{Form}
use Rattle.expr_eval.specs.type_heads.Table.{head, form, named, owner, is_object, is_actor, is_scenario}
use Rattle.expr_eval.specs.type_heads.Types.{Types}
use Rattle.expr_eval.specs.type_heads.Members.{fields, the_do}
use Rattle.run_values.specs.composition.Scenes.{Spot}
use Rattle.run_values.specs.composition.Expansion.{Expansion, field_parts, do_parts, expand_within, own_actor, expansion}
use Rattle.run_values.specs.composition.Expanded.{spots_of}
use Rattle.run_values.specs.composition.SceneFaults.{named_scenario}
use Rattle.run_values.proofs.of_field_flatten.Tests.{In, in_left, in_map}
use Rattle.scene_laws.proofs.OwnedHeads.{HaveActors}
use Rattle.scene_laws.proofs.HeldTypes.{named_below}
use Rattle.scene_laws.proofs.PlacedObjects.{IsAcyclic, Placed, placed_from, first_fuel, spots_row, scenario_behaves}
use Rattle.checkable_scenes.proofs.Inherited.{option_in}

-- what is named is a scenario, and a type
pub named_is : (ts : Types) (owner : Option (List ℕ)) (name : List ℕ) (t : ℕ) → named_scenario ts owner name ≡ Some t → (is_scenario (form ts.table.heads t) ≡ true) × (t < length ts.table.heads)
named_is ts owner name t h = by (named ts.table.heads owner name) refl h
  where
    test : (u : ℕ) (b : Bool) → is_scenario (form ts.table.heads u) ≡ b → u < length ts.table.heads → cond b (Some u) None ≡ Some t → (is_scenario (form ts.table.heads t) ≡ true) × (t < length ts.table.heads)
    test u true e l is = let same : u ≡ t = cc in subst (λ k. (is_scenario (form ts.table.heads k) ≡ true) × (k < length ts.table.heads)) same (e, l)
    test u false e l is = cc

    by : (o : Option ℕ) → named ts.table.heads owner name ≡ o → option_and_then (λ u. cond (is_scenario (form ts.table.heads u)) (Some u) None) o ≡ Some t → (is_scenario (form ts.table.heads t) ≡ true) × (t < length ts.table.heads)
    by None e is = cc
    by (Some u) e is = test u (is_scenario (form ts.table.heads u)) refl (named_below ts.table.heads owner name u e) is

actor_object : (f : Form) → is_actor f ≡ true → is_object f ≡ true
actor_object (Form.Compound CompoundKind.Struct) h = refl
actor_object (Form.Compound CompoundKind.Actor) h = refl
actor_object (Form.Compound CompoundKind.Action) h = absurd (true≢false (sym h))
actor_object (Form.Compound CompoundKind.Scenario) h = absurd (true≢false (sym h))
actor_object Form.Int h = absurd (true≢false (sym h))
actor_object Form.Uint h = absurd (true≢false (sym h))
actor_object Form.Float h = absurd (true≢false (sym h))
actor_object Form.Truth h = absurd (true≢false (sym h))
actor_object Form.Chars h = absurd (true≢false (sym h))
actor_object (Form.Physical x) h = absurd (true≢false (sym h))
actor_object (Form.Enum x) h = absurd (true≢false (sym h))

module _ (ts : Types) (a : IsAcyclic ts) (whole : ℕ) (below : whole < length ts.table.heads) (scenario : is_scenario (form ts.table.heads whole) ≡ true) where
  -- the scenario's own object
  pub whole_placed : Placed ts a (spots_of ts (expansion ts whole)) root whole [] []
  whole_placed = placed_from ts a (spots_of ts (expansion ts whole)) root whole [] [] (length ts.table.heads) (first_fuel ts a whole below (inr (scenario_behaves (form ts.table.heads whole) scenario))) (own_actor ts whole) (λ s i. i)

  actor_inside : (n : ℕ) → 0 < n → (actor : List Expansion) (part : Expansion) → In part actor → (s : Spot) → In s (spots_of ts part) → In s (spots_of ts (expand_within n ts root whole [] [] actor))
  actor_inside zero l actor part i s j = absurd (never l)
    where
      never : 0 < 0 → ⊥
      never e = absurd (omega (arith, e))
  actor_inside (suc n) l actor part i s j =
      let all_fields = flat_map (field_parts (λ q of conditions bound. expand_within n ts q of conditions bound []) ts [] root whole []) (fields ts whole) in
      let dos = flat_map (do_parts (λ q of conditions bound. expand_within n ts q of conditions bound []) ts [] root []) (option_to_list (the_do ts whole)) in
      inr (spots_row ts a (actor ++ all_fields ++ dos) part s (in_left part (actor ++ all_fields) dos (in_left part actor all_fields i)) j)

  -- its own actor
  pub actor_placed : HaveActors ts.table.heads → (x : ℕ) → owner ts.table.heads whole ≡ Some x → Placed ts a (spots_of ts (expansion ts whole)) (then_name root (codes "actor")) x [] []
  actor_placed actors x e =
      placed_from ts a (spots_of ts (expansion ts whole)) (then_name root (codes "actor")) x [] [] (length ts.table.heads)
      (first_fuel ts a x (owner_below (head ts.table.heads whole).owner e) (inl (actor_object (form ts.table.heads x) (actors whole x e)))) []
      (λ s i. actor_inside (length ts.table.heads) (some whole (length ts.table.heads) below) (own_actor ts whole) (expand_within (length ts.table.heads) ts (then_name root (codes "actor")) x [] [] [])
      (in_map (λ a. expand_within (length ts.table.heads) ts (then_name root (codes "actor")) a [] [] []) (option_to_list (owner ts.table.heads whole)) x (option_in (owner ts.table.heads whole) x e)) s i)
    where
      some : (k n : ℕ) → k < n → 0 < n
      some k n l = omega (arith, l)

      owner_below : (o : Option (List ℕ)) → option_and_then (named ts.table.heads None) o ≡ Some x → x < length ts.table.heads
      owner_below None f = cc
      owner_below (Some name) f = named_below ts.table.heads None name x f

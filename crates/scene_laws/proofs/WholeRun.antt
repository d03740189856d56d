-- The `do` of the named scenario is there in every run, and without it there are no phases.
use Rattle.std.proofs.Common.{◌≡◌, ℕ, zero, suc, ◌+◌, refl, sym, ap, ◌∙◌, subst, ◌⊎◌, inl, inr, List, [], ◌∷◌, ◌++◌, Bool, true, false, ◌||◌, cond, Option, Some, None, map, length}
use Rattle.std.specs.Prelude.{flat_map, filter_map, option_to_list, is_some, nat_eq}
use Rattle.std.specs.List.{cons_option}
use Rattle.field_flatten.specs.osc_base.declared.path.Path.{Path}
use Rattle.field_flatten.specs.osc_base.Paths.{root, same_path, then_do}
use Rattle.expansion_laws.specs.dsl_tree.PhaseTree.{PhaseTree, Comp, Invoke, Wait}
use Rattle.expansion_laws.specs.type_heads.Table.{form, is_scenario}
use Rattle.expansion_laws.specs.type_heads.Types.{Types, Field, Do}
use Rattle.expansion_laws.specs.type_heads.Members.{fields, the_do}
use Rattle.expansion_laws.specs.composition.declared.setting.Setting.{Setting}
use Rattle.expansion_laws.specs.composition.declared.spot.PhaseKind.{PhaseKind}
use Rattle.expansion_laws.specs.composition.declared.spot.PhaseSpot.{PhaseSpot}
use Rattle.expansion_laws.specs.composition.Calls.{PhaseHere, phases_in, invoked}
use Rattle.expansion_laws.specs.composition.Scenes.{Content, Spot, phase_spot, phases, has_root_do, root_do, guards}
use Rattle.expansion_laws.specs.composition.Expansion.{in_row, Maker, field_parts, calling, invocation, phase_part, do_parts, expand_within, own_actor, expansion}
use Rattle.expansion_laws.specs.composition.Expanded.{is_vehicle, spot, spots_of, spots_in, scene}
use Rattle.expansion_laws.specs.composition.Invariants.{has_whole}
use Rattle.field_flatten.proofs.Tests.{both, In, in_left, in_right, in_either, flat_map_in, any_from, path_self}
use Rattle.scene_laws.specs.Premises.{is_free}
use Rattle.scene_laws.proofs.EachSpot.{invoked_kind, invoked_members}
use Rattle.scene_laws.proofs.FieldNames.{Pairs, NamesDiffer}
use Rattle.scene_laws.proofs.OwnedHeads.{HaveActors}
use Rattle.scene_laws.proofs.DistinctPaths.{spot_guards}
use Rattle.scene_laws.proofs.NestedPhases.{NoPhases, Made, none_within, nested_within, field_none, own_actor_none, row_append, row_flat, row_none, object_phase}

pub filter_in : {A B : Type 0} (f : A → Option B) (xs : List A) (x : A) (y : B) → In x xs → f x ≡ Some y → In y (filter_map f xs)
filter_in f [] x y i e = absurd i
filter_in {A} {B} f (z ∷ zs) x y (inl same) e = by (f z) (ap f (sym same) ∙ e)
  where
    by : (o : Option B) → o ≡ Some y → In y (cons_option o (filter_map f zs))
    by None g = cc
    by (Some w) g = let is : w ≡ y = cc in inl (sym is)
filter_in {A} {B} f (z ∷ zs) x y (inr i) e = by (f z) (filter_in f zs x y i e)
  where
    by : (o : Option B) → In y (filter_map f zs) → In y (cons_option o (filter_map f zs))
    by None j = j
    by (Some w) j = inr j

module _ (ts : Types) (scenarios : (t : ℕ) (d : Do) → the_do ts t ≡ Some d → is_scenario (form ts.table.heads t) ≡ true) where
  -- no phases, or the `do` of the named scenario
  abbrev HasWhole : List Spot → Type 0
  HasWhole ss = NoPhases ss ⊎ ((k : PhaseKind) × (ms : List Path) × In (spot root_do [] (Content.Phase k ms)) ss)

  module _ (make : Maker) (made : Made ts scenarios make) (t : ℕ) where
    abbrev spots_at : PhaseHere → Do → List Spot
    spots_at p d = spots_in ts (in_row (phase_part make ts (calling [] root [] d p) p.phase))

    whole_phase : (d : Do) (phase : PhaseTree) → HasWhole (flat_map (λ p. spots_at p d) (phases_in phase))
    whole_phase d (Comp label place kind arguments members) = inr (_, _, inl refl)
    whole_phase d (Wait label place elapsed) = inr (_, _, inl refl)
    whole_phase d (Invoke label head names arguments parts) = by (invoked ts d.holder head names)
      where
        by : (o : Option ℕ) → HasWhole (spots_in ts (in_row (map (invocation make ts (calling [] root [] d (record { path = then_do root; way = []; phase = Invoke label head names arguments parts })) head names arguments parts) (option_to_list o))) ++ [])
        by None = inl (λ s i k ms e. i)
        by (Some of) = inr (invoked_kind ts (is_some (the_do ts of)), invoked_members ts (then_do root) (is_some (the_do ts of)), inl refl)

    whole_dos : (o : Option Do) → HasWhole (spots_in ts (in_row (flat_map (do_parts make ts [] root []) (option_to_list o))))
    whole_dos None = inl (λ s i k ms e. i)
    whole_dos (Some d) =
        let parts = do_parts make ts [] root [] d in
        subst HasWhole (sym (row_append ts parts [] ∙ ap (λ l. l ++ []) (row_flat ts (λ (p : PhaseHere). phase_part make ts (calling [] root [] d p) p.phase) (phases_in d.phase))))
        (extended (whole_phase d d.phase))
      where
        extended : HasWhole (flat_map (λ p. spots_at p d) (phases_in d.phase)) → HasWhole (flat_map (λ p. spots_at p d) (phases_in d.phase) ++ [])
        extended (inl f) = inl (λ s i k ms e. elim (in_either s (flat_map (λ p. spots_at p d) (phases_in d.phase)) [] i) as (λ _. ⊥) [ inl j ↦ f s j k ms e | inr j ↦ j ])
        extended (inr h) = inr (h.0, h.1, in_left (spot root_do [] (Content.Phase h.0 h.1)) (flat_map (λ p. spots_at p d) (phases_in d.phase)) [] h.2)

  module _ (actors : HaveActors ts.table.heads) (t : ℕ) where
    whole_object : (n : ℕ) → HasWhole (spots_of ts (expand_within n ts root t [] [] (own_actor ts t)))
    whole_object zero = inl (λ s i k ms e. by s i k ms e)
      where
        by : (s : Spot) → In s (spot root [] (Content.Object (is_vehicle ts t)) ∷ []) → (k : PhaseKind) (ms : List Path) → s.content ≡ Content.Phase k ms → ⊥
        by s (inl same) k ms e = object_phase ts scenarios k ms (sym (ap (λ (z : Spot). z.content) same) ∙ e)
        by s (inr j) k ms e = j
    whole_object (suc n) = by (λ q of conditions bound. expand_within n ts q of conditions bound [])
        (λ q of c b. (λ e. none_within ts scenarios n q of c b [] e (λ part j. absurd j), nested_within ts scenarios n q of c b [] (λ part j. absurd j)))
      where
        by : (make : Maker) → Made ts scenarios make
            → HasWhole (spot root [] (Content.Object (is_vehicle ts t)) ∷ spots_in ts (in_row (own_actor ts t ++ flat_map (field_parts make ts [] root t []) (fields ts t) ++ flat_map (do_parts make ts [] root []) (option_to_list (the_do ts t)))))
        by make made =
            let all_fields = flat_map (field_parts make ts [] root t []) (fields ts t) in
            let dos = flat_map (do_parts make ts [] root []) (option_to_list (the_do ts t)) in
            let before = row_none ts scenarios (own_actor ts t ++ all_fields) (λ part i. elim (in_either part (own_actor ts t) all_fields i) as (λ _. NoPhases (spots_of ts part)) [
              | inl j ↦ own_actor_none ts scenarios actors t (record { ticks = 0; lanes = 0; road = 0; tick = 0 }) part j
              | inr j ↦ let m = flat_map_in (field_parts make ts [] root t []) (fields ts t) part j in field_none ts scenarios make made [] root t [] m.0 part m.2
            ]) in
            subst (λ l. HasWhole (spot root [] (Content.Object (is_vehicle ts t)) ∷ l)) (sym (row_append ts (own_actor ts t ++ all_fields) dos))
            (joined (spots_in ts (in_row (own_actor ts t ++ all_fields))) (spots_in ts (in_row dos)) before (whole_dos make made t (the_do ts t)))
          where
            joined : (xs ys : List Spot) → NoPhases xs → HasWhole ys → HasWhole (spot root [] (Content.Object (is_vehicle ts t)) ∷ xs ++ ys)
            joined xs ys f (inl g) = inl (λ s i k ms e. all s i k ms e)
              where
                all : (s : Spot) → In s (spot root [] (Content.Object (is_vehicle ts t)) ∷ xs ++ ys) → (k : PhaseKind) (ms : List Path) → s.content ≡ Content.Phase k ms → ⊥
                all s (inl same) k ms e = object_phase ts scenarios k ms (sym (ap (λ (z : Spot). z.content) same) ∙ e)
                all s (inr j) k ms e = elim (in_either s xs ys j) as (λ _. ⊥) [ inl l ↦ f s l k ms e | inr l ↦ g s l k ms e ]
            joined xs ys f (inr h) = inr (h.0, h.1, inr (in_right (spot root_do [] (Content.Phase h.0 h.1)) xs ys h.2))

    module _ (names : (t : ℕ) → Pairs NamesDiffer (fields ts t)) (free : (t : ℕ) (f : Field) → In f (fields ts t) → is_free f.name.text ≡ true) (setting : Setting) where
      no_phases : (ss : List Spot) → NoPhases ss → filter_map (λ (s : Spot). phase_spot s.path s.content) ss ≡ []
      no_phases [] f = refl
      no_phases (s ∷ ss) f = by s.content refl (no_phases ss (λ u i. f u (inr i)))
        where
          by : (c : Content) → s.content ≡ c → filter_map (λ (u : Spot). phase_spot u.path u.content) ss ≡ [] → cons_option (phase_spot s.path c) (filter_map (λ (u : Spot). phase_spot u.path u.content) ss) ≡ []
          by (Content.Object v) e rest = rest
          by (Content.Value r) e rest = rest
          by (Content.Phase k ms) e rest = absurd (f s (inl refl) k ms e)

      pub whole_is : has_whole (scene ts t setting) ≡ true
      whole_is = by (whole_object (length ts.table.heads))
        where
          by : HasWhole (spots_of ts (expansion ts t)) → has_whole (scene ts t setting) ≡ true
          by (inl f) = let none : phases (scene ts t setting) ≡ [] = no_phases (spots_of ts (expansion ts t)) f in rw none refl
          by (inr h) =
              let there : has_root_do (scene ts t setting) ≡ true = any_from (λ (p : PhaseSpot). same_path p.path root_do) (phases (scene ts t setting)) (record { path = root_do; kind = h.0; members = h.1 })
              (filter_in (λ (s : Spot). phase_spot s.path s.content) (spots_of ts (expansion ts t)) (spot root_do [] (Content.Phase h.0 h.1)) (record { path = root_do; kind = h.0; members = h.1 }) h.2 refl) (path_self root_do) in
              let free_of : guards (scene ts t setting) root_do ≡ [] = spot_guards ts names free t setting (spot root_do [] (Content.Phase h.0 h.1)) h.2 in
              or_right (nat_eq (length (phases (scene ts t setting))) 0) _ (both (has_root_do (scene ts t setting)) (nat_eq (length (guards (scene ts t setting) root_do)) 0) there (subst (λ l. nat_eq (length l) 0 ≡ true) (sym free_of) refl))
            where
              or_right : (a b : Bool) → b ≡ true → (a || b) ≡ true
              or_right true b e = refl
              or_right false b e = e

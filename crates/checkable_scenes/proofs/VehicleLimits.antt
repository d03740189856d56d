-- Each vehicle has the limits that the library declares.
use Rattle.std.proofs.Common.{◌≡◌, ℕ, zero, suc, ◌<◌, refl, sym, ap, ◌∙◌, subst, inl, inr, List, [], ◌∷◌, ◌++◌, Bool, true, false, ◌&&◌, ◌||◌, not, cond, Option, Some, None, map, length, true≢false}
use Rattle.std.specs.Prelude.{filter, is_none, is_some, bytes_eq, codes, option_map}
use Rattle.std.specs.Option.{option_map_or}
use Rattle.std.specs.List.{list_any, list_all}
use Rattle.std.proofs.lemmas.Slice.Eq.{bytes_eq-Decides}
use Rattle.osc_base.specs.declared.fault.Place.{Place}
use Rattle.osc_base.specs.declared.path.Path.{Path}
use Rattle.osc_base.specs.Paths.{root, then_name, path_of}
use Rattle.expr_eval.specs.dsl_tree.declared.parts.Ident.{Ident}
use Rattle.expr_eval.specs.dsl_tree.FileTree.{FieldTree, MemberTree}
use Rattle.expr_eval.specs.type_heads.Table.{form, named, owner, bases, is_kind_of}
use Rattle.expr_eval.specs.type_heads.Types.{Types, Field, Member, Written}
use Rattle.expr_eval.specs.type_heads.Members.{has, body, list_length, items_in, members, fields_declared, fields, field_type}
use Rattle.run_values.specs.cond_inherit.Conditions.{conditions_within, conditions, once_after}
use Rattle.run_values.specs.composition.declared.guard.Guard.{Guard}
use Rattle.run_values.specs.composition.declared.setting.Setting.{Setting}
use Rattle.run_values.specs.composition.declared.spot.ValueRange.{ValueRange}
use Rattle.run_values.specs.composition.Scenes.{Content, Spot, Scene, Binding, vehicle_spot, vehicles, OfValue, source, source_timed, max_speed, max_acceleration}
use Rattle.run_values.specs.composition.Ranges.{range_of}
use Rattle.run_values.specs.composition.Givens.{guards_under}
use Rattle.run_values.specs.composition.Expansion.{expansion}
use Rattle.run_values.specs.composition.Expanded.{is_vehicle, spot, spots_of, scene}
use Rattle.run_values.specs.composition.Invariants.{is_numeric, is_limit, is_limited, same_guards}
use Rattle.run_values.proofs.of_field_flatten.Tests.{left_of, right_of, both, In, in_map, in_flat_map, all_from, any_at}
use Rattle.scene_laws.specs.Premises.{is_free}
use Rattle.scene_laws.proofs.Picked.{filter_map_in}
use Rattle.scene_laws.proofs.EachSpot.{value_paths, each_spot}
use Rattle.scene_laws.proofs.FieldNames.{Pairs, NamesDiffer}
use Rattle.scene_laws.proofs.DistinctPaths.{spot_guards}
use Rattle.scene_laws.proofs.NoDurations.{untimed_name}
use Rattle.scene_laws.proofs.Acyclic.{has_in, in_has}
use Rattle.scene_laws.proofs.PlacedObjects.{IsAcyclic, Placed, value_in, field_placed, call_placed}
use Rattle.checkable_scenes.specs.Premises.{holds_number, is_number_field, has_number, has_limits}
use Rattle.checkable_scenes.proofs.Inherited.{Up, up_trans, chain_in, chain_member, member_comes}
use Rattle.checkable_scenes.proofs.ConditionFields.{IsInherited}
use Rattle.checkable_scenes.proofs.ConditionLists.{asks}
use Rattle.checkable_scenes.proofs.GroundedSpots.{value_found, guard_same}

none_kept : {A : Type 0} (test : A → Bool) (xs : List A) → ((x : A) → In x xs → test x ≡ false) → filter test xs ≡ []
none_kept test [] f = refl
none_kept test (x ∷ xs) f = ap (λ b. cond b (x ∷ filter test xs) (filter test xs)) (f x (inl refl)) ∙ none_kept test xs (λ y i. f y (inr i))

guards_same : (gs : List Guard) → same_guards gs gs ≡ true
guards_same [] = refl
guards_same (g ∷ gs) = both _ (same_guards gs gs) (guard_same g) (guards_same gs)

nil_after : {A : Type 0} (xs : List A) → xs ++ [] ≡ xs
nil_after [] = refl
nil_after (x ∷ xs) = ap (λ l. x ∷ l) (nil_after xs)

-- a member without conditional subtypes has no conditions
pub no_conditions : (ts : Types) (t : ℕ) → conditions ts t [] ≡ []
no_conditions ts t = by (length ts.table.heads)
  where
    by : (n : ℕ) → once_after [] (conditions_within n ts t []) ≡ []
    by zero = refl
    by (suc n) = refl

-- a field that holds one number, in an object of a type, under no condition
pub record NumberField (ts : Types) (t : ℕ) (name : List ℕ) : Type 0 where
  pub f : Field
  pub inside : In f (fields ts t)
  pub named : f.name.text ≡ name
  pub free : f.under ≡ []
  pub alone : list_length f.tree ≡ None
  pub of : ℕ
  pub typed : field_type ts f ≡ Some of
  pub range : ValueRange
  pub ranged : range_of (form ts.table.heads of) ≡ Some range
  pub numeric : is_numeric range ≡ true

module _ (ts : Types) (k : IsInherited ts) where
  -- what a type declares is a field of each type below it
  number_field : (t v : ℕ) → t < length ts.table.heads → Up ts.table.heads k.based k.unlooped v t → (name : List ℕ) → has_number ts v name ≡ true → NumberField ts t name
  number_field t v below up name h =
      let w = any_at (λ (w : Written). is_number_field ts.table.heads name w.member) (body ts.bodies v).own h in
      let m = chain_member ts.table.heads k.based k.unlooped ts.bodies t v [] v w.0 below up refl (inl w.1) in
      let c = member_comes ts.table.heads k.based k.unlooped ts.bodies t m.0 m.1 in
      let free : m.0.under ≡ [] = c.under ∙ none_kept (λ x. not (has x (t ∷ bases ts.table.heads t))) c.chain (λ x i.
      let g = chain_in ts.table.heads k.based k.unlooped ts.bodies c.chain c.top m.0.holder x c.down i in
      ap not (in_has x (t ∷ bases ts.table.heads t) (up_trans ts.table.heads k.based k.unlooped t v x up (subst (λ z. Up ts.table.heads k.based k.unlooped x z) m.3 g.0)))) in
      by m.0 (subst (In m.0) (sym (k.listed t below)) m.1) free m.0.written.member refl (subst (λ z. is_number_field ts.table.heads name z ≡ true) (sym (ap (λ (z : Written). z.member) m.2)) w.2)
    where
      no_list : (x : FieldTree) → is_none x.list ≡ true → list_length x ≡ None
      no_list x h = by_list x.list refl h
        where
          by_list : (o : Option Place) → x.list ≡ o → is_none o ≡ true → list_length x ≡ None
          by_list None e g = ap (λ (o : Option Place). option_map (λ (place : Place). items_in x.initial) o) e
          by_list (Some p) e g = absurd (true≢false (sym g))

      some_type : (o : Option ℕ) → option_map_or (λ u. holds_number (form ts.table.heads u)) o false ≡ true → (u : ℕ) × (o ≡ Some u) × (holds_number (form ts.table.heads u) ≡ true)
      some_type None g = absurd (true≢false (sym g))
      some_type (Some u) g = (u, refl, g)

      some_range : (o : Option ValueRange) → option_map_or is_numeric o false ≡ true → (r : ValueRange) × (o ≡ Some r) × (is_numeric r ≡ true)
      some_range None g = absurd (true≢false (sym g))
      some_range (Some r) g = (r, refl, g)

      by : (m : Member) → In m (members ts t) → m.under ≡ [] → (tree : MemberTree) → m.written.member ≡ tree → is_number_field ts.table.heads name tree ≡ true → NumberField ts t name
      by m i free (MemberTree.Field x) e g =
          let names = any_at (λ (i : Ident). bytes_eq i.text name) x.names (left_of (list_any (λ (i : Ident). bytes_eq i.text name) x.names) _ g) in
          let rest = right_of (list_any (λ (i : Ident). bytes_eq i.text name) x.names) _ g in
          let of = some_type (named ts.table.heads None x.of.text) (right_of (is_none x.list) _ rest) in
          let r = some_range (range_of (form ts.table.heads of.0)) of.2 in
          record {
            f = record { name = names.0; tree = x; holder = m.holder; under = m.under };
            inside = in_flat_map (λ (m : Member). fields_declared m m.written.member) (members ts t) m (record { name = names.0; tree = x; holder = m.holder; under = m.under }) i
                (subst (λ z. In (record { name = names.0; tree = x; holder = m.holder; under = m.under }) (fields_declared m z)) (sym e)
                (in_map (λ (i : Ident). record { name = i; tree = x; holder = m.holder; under = m.under }) x.names names.0 names.1));
            named = (bytes_eq-Decides names.0.text name).0 names.2;
            free = free;
            alone = no_list x (left_of (is_none x.list) _ rest);
            of = of.0;
            typed = of.1;
            range = r.0;
            ranged = r.1;
            numeric = r.2;
          }
      by m i free (MemberTree.Rule r) e g = absurd (true≢false (sym g))
      by m i free (MemberTree.Do place phase) e g = absurd (true≢false (sym g))

  -- a vehicle has both
  pub vehicle_fields : has_limits ts ≡ true → (t : ℕ) → t < length ts.table.heads → is_vehicle ts t ≡ true → NumberField ts t (codes "max_speed") × NumberField ts t (codes "max_acceleration")
  vehicle_fields limits t below h =
      by (is_some ts.library) (named ts.table.heads None (codes "vehicle")) (left_of (is_some ts.library) _ h) (right_of (is_some ts.library) _ h) limits
    where
      by : (b : Bool) (o : Option ℕ) → b ≡ true → option_map_or (λ v. is_kind_of ts.table.heads v t) o false ≡ true
          → not b || option_map_or (λ v. has_number ts v (codes "max_speed") && has_number ts v (codes "max_acceleration")) o false ≡ true
          → NumberField ts t (codes "max_speed") × NumberField ts t (codes "max_acceleration")
      by false o e g l = absurd (true≢false (sym e))
      by true None e g l = absurd (true≢false (sym g))
      by true (Some v) e g l =
          let up = has_in v (t ∷ bases ts.table.heads t) g in
          (number_field t v below up (codes "max_speed") (left_of (has_number ts v (codes "max_speed")) _ l), number_field t v below up (codes "max_acceleration") (right_of (has_number ts v (codes "max_speed")) _ l))

module _ (ts : Types) (a : IsAcyclic ts) (k : IsInherited ts) (names : (t : ℕ) → Pairs NamesDiffer (fields ts t)) (free : (t : ℕ) (f : Field) → In f (fields ts t) → is_free f.name.text ≡ true) (whole : ℕ) (setting : Setting)
    (limits : has_limits ts ≡ true) where
  abbrev spots : List Spot
  spots = spots_of ts (expansion ts whole)

  abbrev here : Scene
  here = scene ts whole setting

  untimed : (path : Path) (name : List ℕ) → bytes_eq name (codes "duration") ≡ false → source here (then_name path name) ≡ OfValue
  untimed path name h = ap (λ o. option_map_or (λ steps. source_timed here (path_of steps)) o OfValue) (untimed_name path.steps name h)

  limit_is : (path : Path) (t : ℕ) (gs : List Guard) (bindings : List Binding) → Placed ts a spots path t gs bindings → (name : List ℕ) → bytes_eq name (codes "duration") ≡ false → NumberField ts t name
      → is_limit here path (then_name path name) ≡ true
  limit_is path t gs bindings placed name apart n =
      let at = then_name path name in
      let unguarded : gs ++ guards_under ts path t n.f.under ≡ gs = ap (λ u. gs ++ guards_under ts path t u) n.free ∙ ap (λ l. gs ++ map (asks ts k t path) l) (no_conditions ts t) ∙ nil_after gs in
      let listed : In (then_name path n.f.name.text) (value_paths ts (then_name path n.f.name.text) (list_length n.f.tree)) = subst (λ o. In (then_name path n.f.name.text) (value_paths ts (then_name path n.f.name.text) o)) (sym n.alone) (inl refl) in
      let there : In (spot at gs (Content.Value n.range)) spots =
      subst (λ l. In (spot at l (Content.Value n.range)) spots) unguarded
      (subst (λ z. In (spot (then_name path z) (gs ++ guards_under ts path t n.f.under) (Content.Value n.range)) spots) n.named
      (value_in ts a spots path t gs bindings placed n.f n.inside n.of n.typed n.range n.ranged (then_name path n.f.name.text) listed)) in
      let object = placed.inside (spot path gs (Content.Object (is_vehicle ts t))) (inl refl) in
      rw (untimed path name apart, value_found ts a k names free whole setting at gs n.range there, n.numeric, spot_guards ts names free whole setting (spot at gs (Content.Value n.range)) there, spot_guards ts names free whole setting (spot path gs (Content.Object (is_vehicle ts t))) object) (guards_same gs)

  -- both limits of each vehicle
  abbrev HasLimits : Spot → Type 0
  HasLimits s = (v : Path) → vehicle_spot s.path s.content ≡ Some v → is_limited here v ≡ true

  module _ (first : Placed ts a spots root whole [] []) (actor : (x : ℕ) → owner ts.table.heads whole ≡ Some x → Placed ts a spots (then_name root (codes "actor")) x [] []) where
    object_limits : (path : Path) (t : ℕ) (gs : List Guard) (bindings : List Binding) → Placed ts a spots path t gs bindings → HasLimits (spot path gs (Content.Object (is_vehicle ts t)))
    object_limits path t gs bindings placed v e = by (is_vehicle ts t) refl e
      where
        by : (b : Bool) → is_vehicle ts t ≡ b → cond b (Some path) None ≡ Some v → is_limited here v ≡ true
        by false h f = cc
        by true h f =
            let same : path ≡ v = cc in
            let n = vehicle_fields ts k limits t placed.fuel.below h in
            subst (λ z. is_limited here z ≡ true) same
            (both (is_limit here path (max_speed path)) (is_limit here path (max_acceleration path))
            (limit_is path t gs bindings placed (codes "max_speed") refl n.0) (limit_is path t gs bindings placed (codes "max_acceleration") refl n.1))

    pub all_limited : list_all (is_limited here) (vehicles here) ≡ true
    all_limited = all_from (is_limited here) (vehicles here) (λ v i.
        let g = filter_map_in (λ (s : Spot). vehicle_spot s.path s.content) spots v i in
        each_spot ts (λ path t gs bindings. Placed ts a spots path t gs bindings) HasLimits
        (λ path t gs bindings q. object_limits path t gs bindings q)
        (λ path t gs bindings q f j of typed range is p l v e. cc)
        (λ path t gs bindings q d is p j label place kind arguments members e v f. cc)
        (λ path t gs bindings q d is p j label head ns arguments parts e of to v f. cc)
        (λ path t gs bindings q d is p j v f. cc)
        (λ path t gs bindings q f j of typed test. field_placed ts a spots path t gs bindings q f j of typed test)
        (λ path t gs bindings q d is p j label head ns arguments parts e of to. call_placed ts a spots path t gs bindings q d is p j label head ns arguments parts e of to)
        whole first actor g.0 g.1 v g.2)

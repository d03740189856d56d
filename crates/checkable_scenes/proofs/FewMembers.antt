-- A phase of a scene that isn't too large has few members.
use Rattle.std.proofs.Common.{◌≡◌, ℕ, suc, ◌+◌, ◌≤◌, refl, sym, ap, ◌∙◌, subst, ◌⊎◌, inl, inr, List, [], ◌∷◌, ◌++◌, Bool, true, false, cond, Some, map, length, arith, true≢false}
use Rattle.std.specs.Prelude.{flat_map, is_some, nat_eq, nat_le, nat_lt, codes}
use Rattle.std.specs.List.{list_all, range_with_len}
use Rattle.osc_base.specs.declared.path.Path.{Path}
use Rattle.osc_base.specs.declared.path.Step.{Step}
use Rattle.osc_base.specs.declared.path.Step.TheVariants.{Member}
use Rattle.osc_base.specs.Paths.{root, same_path, then_name, then_member, then_do}
use Rattle.expr_eval.specs.type_heads.Table.{owner}
use Rattle.expr_eval.specs.type_heads.Types.{Types, Field}
use Rattle.expr_eval.specs.type_heads.Members.{fields, the_do}
use Rattle.expr_eval.specs.expr_nodes.Sizes.{field_reach}
use Rattle.run_values.specs.composition.declared.guard.Guard.{Guard}
use Rattle.run_values.specs.composition.declared.setting.Setting.{Setting}
use Rattle.osc_base.specs.declared.listing.SlotName.{SlotName}
use Rattle.run_values.specs.composition.declared.spot.ChoiceSpot.{ChoiceSpot}
use Rattle.run_values.specs.composition.declared.spot.ValueSpot.{ValueSpot}
use Rattle.run_values.specs.composition.declared.spot.PhaseKind.{PhaseKind}
use Rattle.run_values.specs.composition.declared.spot.PhaseSpot.{PhaseSpot}
use Rattle.run_values.specs.composition.declared.spot.ValueRange.{ValueRange}
use Rattle.run_values.specs.composition.Scenes.{Content, Spot, Scene, phase_spot, phases, has_phase, guards, choices, values, vehicles}
use Rattle.run_values.specs.composition.Slots.{ticks_of, sample_names, slot_names}
use Rattle.run_values.specs.composition.Expansion.{calling, expansion}
use Rattle.run_values.specs.composition.Expanded.{scene, scene_from, spots_of}
use Rattle.run_values.specs.composition.SceneFaults.{is_too_large, object_count, most_slots}
use Rattle.run_values.specs.composition.Invariants.{is_member, are_choices, are_members}
use Rattle.run_values.proofs.of_field_flatten.Tests.{left_of, right_of, In, in_map, all_at, all_from, any_at, path_is}
use Rattle.scene_laws.specs.Premises.{is_free}
use Rattle.scene_laws.proofs.FaultRows.{no_left, no_right}
use Rattle.scene_laws.proofs.LowestTerms.{below}
use Rattle.scene_laws.proofs.Picked.{filter_map_in}
use Rattle.scene_laws.proofs.EachSpot.{each_spot}
use Rattle.scene_laws.proofs.FieldNames.{Pairs, NamesDiffer}
use Rattle.scene_laws.proofs.Steps.{cancelled, pairs_map, range_apart}
use Rattle.scene_laws.proofs.PlacedObjects.{IsAcyclic, Placed}
use Rattle.scene_laws.proofs.MemberPhases.{Resolves, all_members_of}

-- ---- distinct items of a list

abbrev Apart : {A : Type 0} → A → A → Type 0
Apart a b = a ≡ b → ⊥

module _ {A : Type 0} where
  -- a list without one of its items
  taken : (x : A) (ys : List A) → In x ys → (zs : List A) × (length ys ≡ suc (length zs)) × ((y : A) → In y ys → (y ≡ x) ⊎ In y zs)
  taken x [] i = absurd i
  taken x (z ∷ ys) (inl e) = (ys, refl, λ y j. by y j)
    where
      by : (y : A) → In y (z ∷ ys) → (y ≡ x) ⊎ In y ys
      by y (inl f) = inl (f ∙ sym e)
      by y (inr j) = inr j
  taken x (z ∷ ys) (inr i) =
      let g = taken x ys i in
      (z ∷ g.0, ap suc g.1, λ y j. by g.0 g.2 y j)
    where
      by : (zs : List A) → ((y : A) → In y ys → (y ≡ x) ⊎ In y zs) → (y : A) → In y (z ∷ ys) → (y ≡ x) ⊎ In y (z ∷ zs)
      by zs f y (inl e) = inr (inl e)
      by zs f y (inr j) = elim (f y j) as (λ _. (y ≡ x) ⊎ In y (z ∷ zs)) [ inl e ↦ inl e | inr l ↦ inr (inr l) ]

  pub no_more : (xs ys : List A) → Pairs Apart xs → ((x : A) → In x xs → In x ys) → length xs ≤ length ys
  no_more [] ys p f = none (length ys)
    where
      none : (n : ℕ) → 0 ≤ n
      none n = omega arith
  no_more (x ∷ xs) ys p f =
      let t = taken x ys (f x (inl refl)) in
      step (length xs) (length t.0) (length ys) t.1 (no_more xs t.0 p.1 (λ y i. by t.0 t.2 y i))
    where
      step : (a b c : ℕ) → c ≡ suc b → a ≤ b → suc a ≤ c
      step a b c e l = omega (arith, e, l)

      by : (zs : List A) → ((y : A) → In y ys → (y ≡ x) ⊎ In y zs) → (y : A) → In y xs → In y zs
      by zs g y i = elim (g y (f y (inr i))) as (λ _. In y zs) [ inl e ↦ absurd (p.0 y i (sym e)) | inr j ↦ j ]

not_none : (n : ℕ) → nat_eq (suc n) 0 ≡ true → ⊥
not_none n h = true≢false (sym h ∙ no n)
  where
    no : (n : ℕ) → nat_eq (suc n) 0 ≡ false
    no n = grind arith

-- ---- lengths

length_map : {A B : Type 0} (f : A → B) (xs : List A) → length (map f xs) ≡ length xs
length_map f [] = refl
length_map f (x ∷ xs) = ap suc (length_map f xs)

length_append : {A : Type 0} (xs ys : List A) → length (xs ++ ys) ≡ length xs + length ys
length_append [] ys = zero_more (length ys)
  where
    zero_more : (n : ℕ) → n ≡ 0 + n
    zero_more n = omega arith
length_append (x ∷ xs) ys = ap suc (length_append xs ys) ∙ next (length xs) (length ys)
  where
    next : (a b : ℕ) → suc (a + b) ≡ suc a + b
    next a b = omega arith

length_pairs : {A B : Type 0} (f g : A → B) (xs : List A) → length xs ≤ length (flat_map (λ x. f x ∷ g x ∷ []) xs)
length_pairs f g [] = zero_least 0
  where
    zero_least : (n : ℕ) → 0 ≤ n
    zero_least n = omega arith
length_pairs f g (x ∷ xs) = step (length xs) (length (flat_map (λ x. f x ∷ g x ∷ []) xs)) (length_pairs f g xs)
  where
    step : (a b : ℕ) → a ≤ b → suc a ≤ suc (suc b)
    step a b h = omega (arith, h)

-- a scene has more slots than phases
phases_slots : (s : Scene) → length (phases s) ≤ length (slot_names s)
phases_slots s = by (map (λ (c : ChoiceSpot). SlotName.Choice c.path) (choices s)) (flat_map (λ (p : PhaseSpot). SlotName.Start p.path ∷ SlotName.End p.path ∷ []) (phases s)) (map (λ (v : ValueSpot). SlotName.Value v.path) (values s)) (flat_map (λ (v : Path). flat_map (sample_names v) (ticks_of s.setting)) (vehicles s)) (length_pairs (λ (p : PhaseSpot). SlotName.Start p.path) (λ (p : PhaseSpot). SlotName.End p.path) (phases s))
  where
    sum : (a b c d n m : ℕ) → n ≤ b → m ≡ ((a + b) + c) + d → n ≤ m
    sum a b c d n m h e = omega (arith, h, e)

    by : {B : Type 0} (ws bs cs ds : List B) → length (phases s) ≤ length bs → length (phases s) ≤ length (ws ++ bs ++ cs ++ ds)
    by xs bs cs ds h =
        sum (length xs) (length bs) (length cs) (length ds) (length (phases s)) (length (xs ++ bs ++ cs ++ ds)) h
        (length_append (xs ++ bs ++ cs) ds ∙ ap (λ n. n + length ds) (length_append (xs ++ bs) cs ∙ ap (λ n. n + length cs) (length_append xs bs)))

-- ---- members

module _ (ts : Types) (a : IsAcyclic ts) (names : (t : ℕ) → Pairs NamesDiffer (fields ts t)) (free : (t : ℕ) (f : Field) → In f (fields ts t) → is_free f.name.text ≡ true) (resolves : Resolves ts) (whole : ℕ) (setting : Setting) where
  abbrev spots : List Spot
  spots = spots_of ts (expansion ts whole)

  abbrev here : Scene
  here = scene ts whole setting

  -- no member of a phase stands twice
  abbrev AreApart : Spot → Type 0
  AreApart s = (k : PhaseKind) (ms : List Path) → s.content ≡ Content.Phase k ms → Pairs Apart ms

  members_apart : (s : Spot) → In s spots → AreApart s
  members_apart s i =
      each_spot ts (λ path t guards bindings. Unit {0}) AreApart
      (λ path t guards bindings h k ms e. absurd (object_is k ms e))
      (λ path t guards bindings h f j of typed range is q l k ms e. absurd (value_is range k ms e))
      (λ path t guards bindings h d is p j label place kind arguments members e k ms g. listed (calling bindings path guards d p).path _ _ k ms g)
      (λ path t guards bindings h d is p j label head ns arguments parts e of to k ms g. invoked (calling bindings path guards d p).path (is_some (the_do ts of)) _ k ms g)
      (λ path t guards bindings h d is p j k ms g. subst (Pairs Apart) (rows PhaseKind.Wait k [] ms g) tt)
      (λ path t guards bindings h f j of typed test. tt)
      (λ path t guards bindings h d is p j label head ns arguments parts e of to. tt)
      whole tt (λ x e. tt) s i
    where
      object_is : {v : Bool} (k : PhaseKind) (ms : List Path) → Content.Object v ≡ Content.Phase k ms → ⊥
      object_is k ms e = cc

      value_is : (r : ValueRange) (k : PhaseKind) (ms : List Path) → Content.Value r ≡ Content.Phase k ms → ⊥
      value_is r k ms e = cc

      rows : (k l : PhaseKind) (ms ns : List Path) → Content.Phase k ms ≡ Content.Phase l ns → ms ≡ ns
      rows k l ms ns e = cc

      number_of : List Step → ℕ
      number_of (Member n ∷ rest) = n
      number_of _ = 0

      listed : (q : Path) (kind : PhaseKind) (n : ℕ) (k : PhaseKind) (ms : List Path) → Content.Phase kind (map (then_member q) (range_with_len 0 n)) ≡ Content.Phase k ms → Pairs Apart ms
      listed q kind n k ms e = subst (Pairs Apart) (rows kind k (map (then_member q) (range_with_len 0 n)) ms e)
          (pairs_map Apart (λ (x y : ℕ). x ≡ y → ⊥) (then_member q) (range_with_len 0 n) (range_apart 0 n)
          (λ b c i j differ same. differ (ap number_of (cancelled q.steps (Member b ∷ []) (Member c ∷ []) (ap (λ (z : Path). z.steps) same)))))

      invoked : (q : Path) (b : Bool) (kind k : PhaseKind) (ms : List Path) → Content.Phase kind (cond b (then_do q ∷ []) []) ≡ Content.Phase k ms → Pairs Apart ms
      invoked q true kind k ms e = subst (Pairs Apart) (rows kind k (then_do q ∷ []) ms e) (λ y i. absurd i, tt)
      invoked q false kind k ms e = subst (Pairs Apart) (rows kind k [] ms e) tt

  choices_there : (path : Path) (gs : List Guard) (n : ℕ) (ms : List Path) → are_choices here path gs n ms ≡ true → (m : Path) → In m ms → has_phase here m ≡ true
  choices_there path gs n [] h m i = absurd i
  choices_there path gs n (x ∷ ms) h m (inl e) = subst (λ z. has_phase here z ≡ true) (sym e) (left_of (has_phase here x) _ (left_of (is_member here (gs ++ Guard.Choice path n ∷ []) x) (are_choices here path gs (n + 1) ms) h))
  choices_there path gs n (x ∷ ms) h m (inr i) = choices_there path gs (n + 1) ms (right_of (is_member here (gs ++ Guard.Choice path n ∷ []) x) (are_choices here path gs (n + 1) ms) h) m i

  abbrev guards_at : PhaseSpot → List Guard
  guards_at p = guards here p.path

  members_there : (p : PhaseSpot) (k : PhaseKind) → are_members here p k ≡ true → (m : Path) → In m p.members → has_phase here m ≡ true
  members_there p PhaseKind.OneOf h m i = choices_there p.path (guards_at p) 0 p.members h m i
  members_there p PhaseKind.Action h m i = absurd (none p.members h i)
    where
      none : (ms : List Path) → nat_eq (length ms) 0 ≡ true → In m ms → ⊥
      none [] h i = i
      none (x ∷ ms) h i = not_none (length ms) h
  members_there p PhaseKind.Wait h m i = absurd (none p.members h i)
    where
      none : (ms : List Path) → nat_eq (length ms) 0 ≡ true → In m ms → ⊥
      none [] h i = i
      none (x ∷ ms) h i = not_none (length ms) h
  members_there p PhaseKind.Serial h m i = left_of (has_phase here m) _ (all_at (is_member here (guards_at p)) p.members h m i)
  members_there p PhaseKind.Start h m i = left_of (has_phase here m) _ (all_at (is_member here (guards_at p)) p.members h m i)
  members_there p PhaseKind.End h m i = left_of (has_phase here m) _ (all_at (is_member here (guards_at p)) p.members h m i)
  members_there p PhaseKind.Equal h m i = left_of (has_phase here m) _ (all_at (is_member here (guards_at p)) p.members h m i)
  members_there p PhaseKind.Any h m i = left_of (has_phase here m) _ (all_at (is_member here (guards_at p)) p.members h m i)
  members_there p PhaseKind.Scenario h m i = left_of (has_phase here m) _ (all_at (is_member here (guards_at p)) p.members h m i)

  module _ (first : Placed ts a spots root whole [] []) (actor : (x : ℕ) → owner ts.table.heads whole ≡ Some x → Placed ts a spots (then_name root (codes "actor")) x [] []) (small : is_too_large ts whole setting ≡ false) where
    few_phases : length (phases here) ≤ most_slots
    few_phases =
        let all = scene_from ts setting (expansion ts whole) in
        let slots = no_left (nat_lt most_slots (length (slot_names all))) _ (no_right (nat_lt most_slots (object_count all)) _ small) in
        chain (length (phases all)) (length (slot_names all)) most_slots (phases_slots all) (below most_slots (length (slot_names all)) slots)
      where
        chain : (x y z : ℕ) → x ≤ y → y ≤ z → x ≤ z
        chain x y z p q = omega (arith, p, q)

    -- a phase has few members
    pub few_members : (s : Spot) → In s spots → (k : PhaseKind) (ms : List Path) → s.content ≡ Content.Phase k ms → length ms ≤ most_slots
    few_members s i k ms e =
        let p : PhaseSpot = record { path = s.path; kind = k; members = ms } in
        let there = members_there p k (all_members_of ts a names free resolves whole setting first actor s i k ms e) in
        chain (length ms) (length (map (λ (q : PhaseSpot). q.path) (phases here))) (length (phases here)) most_slots
        (no_more ms (map (λ (q : PhaseSpot). q.path) (phases here)) (members_apart s i k ms e) (λ m j. listed m (there m j))) (length_map (λ (q : PhaseSpot). q.path) (phases here)) few_phases
      where
        chain : (x y z w : ℕ) → x ≤ y → y ≡ z → z ≤ w → x ≤ w
        chain x y z w p e q = omega (arith, p, e, q)

        listed : (m : Path) → has_phase here m ≡ true → In m (map (λ (q : PhaseSpot). q.path) (phases here))
        listed m h =
            let g = any_at (λ (q : PhaseSpot). same_path q.path m) (phases here) h in
            subst (λ z. In z (map (λ (q : PhaseSpot). q.path) (phases here))) (path_is g.0.path m g.2) (in_map (λ (q : PhaseSpot). q.path) (phases here) g.0 g.1)

    few_reach : (n : ℕ) → n ≤ most_slots → nat_le n field_reach ≡ true
    few_reach n h = by n (more n h)
      where
        more : (m : ℕ) → m ≤ most_slots → m ≤ field_reach
        more m p = omega (arith, p)

        by : (m : ℕ) → m ≤ field_reach → nat_le m field_reach ≡ true
        by m p = grind arith

    pub all_few_members : list_all (λ (p : PhaseSpot). nat_le (length p.members) field_reach) (phases here) ≡ true
    all_few_members = all_from (λ (p : PhaseSpot). nat_le (length p.members) field_reach) (phases here) (λ p i.
        let g = filter_map_in (λ (s : Spot). phase_spot s.path s.content) spots p i in
        of_spot g.0.path g.0.content p g.2 (λ k ms e. few_members g.0 g.1 k ms e))
      where
        of_spot : (path : Path) (content : Content) (p : PhaseSpot) → phase_spot path content ≡ Some p → ((k : PhaseKind) (ms : List Path) → content ≡ Content.Phase k ms → length ms ≤ most_slots) → nat_le (length p.members) field_reach ≡ true
        of_spot path (Content.Phase k ms) p e f = let same : record { path = path; kind = k; members = ms } ≡ p = cc in subst (λ (z : PhaseSpot). nat_le (length z.members) field_reach ≡ true) same (few_reach (length ms) (f k ms refl))
        of_spot path (Content.Object v) p e f = cc
        of_spot path (Content.Value r) p e f = cc

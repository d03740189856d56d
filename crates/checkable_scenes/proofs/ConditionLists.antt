-- The conditions of a member, each after those of the field that it looks at.
use Rattle.std.proofs.Common.{◌≡◌, ℕ, zero, suc, ◌+◌, ◌≤◌, ◌<◌, refl, sym, ap, ap₂, ◌∙◌, subst, inl, inr, List, [], ◌∷◌, ◌++◌, Bool, true, false, cond, Option, Some, None, length, arith}
use Rattle.std.specs.Prelude.{⊤, filter, flat_map, filter_map, option_to_list, option_and_then, bytes_eq, ℤ}
use Rattle.std.specs.Option.{option_map_or}
use Rattle.std.specs.List.{list_any}
use Rattle.std.specs.Ordering.{int_eq}
use Rattle.std.proofs.lemmas.Int.{ints}
use Rattle.std.proofs.lemmas.Slice.Eq.{bytes_eq-Decides}
use Rattle.osc_base.specs.declared.path.Path.{Path}
use Rattle.osc_base.specs.Paths.{then_name}
use Rattle.expr_eval.specs.dsl_tree.declared.compounds.HeirCondition.{HeirCondition}
use Rattle.expr_eval.specs.type_heads.Table.{base, bases, line_within}
use Rattle.expr_eval.specs.type_heads.Types.{Types, Member, Field}
use Rattle.expr_eval.specs.type_heads.Members.{heir_condition, is_conditional, members, fields, field}
use Rattle.expr_eval.specs.type_heads.Conditions.{Condition, condition}
use Rattle.expr_eval.specs.type_heads.MemberFaults.{condition_field, depends_on}
use Rattle.run_values.specs.cond_inherit.Conditions.{same_condition, once_after, conditions_within, conditions}
use Rattle.run_values.specs.composition.declared.guard.Guard.{Guard}
use Rattle.run_values.proofs.of_field_flatten.Tests.{left_of, right_of, two_ways, In, in_left, in_either, flat_map_in, in_filter, found_in, any_at}
use Rattle.scene_laws.proofs.Picked.{of_option, filter_map_in}
use Rattle.scene_laws.proofs.FieldNames.{Pairs}
use Rattle.scene_laws.proofs.Acyclic.{Differ, few_below, Reach, reach_more, no_return}
use Rattle.checkable_scenes.proofs.Inherited.{bases_step, up_below}
use Rattle.checkable_scenes.proofs.ConditionFields.{IsInherited, Asked, under_conditional, field_member, asked_field}

module _ (ts : Types) (k : IsInherited ts) where
  -- ---- conditional subtypes depend on others that are numbered types

  depends_below : (x y : ℕ) → In y (depends_on ts x) → y < length ts.table.heads
  depends_below x y i = elim (in_either y (option_map_or (λ (f : Field). f.under) (condition_field ts x) []) (filter (is_conditional ts.bodies) (bases ts.table.heads x)) i) as (λ _. y < length ts.table.heads) [
    | inl j ↦ of_field (condition_field ts x) refl j
    | inr j ↦ of_base (base ts.table.heads x) refl (in_filter (is_conditional ts.bodies) (bases ts.table.heads x) y j).0
  ]
    where
      of_field : (o : Option Field) → condition_field ts x ≡ o → In y (option_map_or (λ (f : Field). f.under) o []) → y < length ts.table.heads
      of_field None e j = absurd j
      of_field (Some f) e j = let g = looked_at x f e in let m = field_member ts k g.0 f g.1 in (under_conditional ts k g.0 m.0 m.1 y (subst (In y) m.2 j)).1
        where
          looked_at : (x : ℕ) (f : Field) → condition_field ts x ≡ Some f → (b : ℕ) × In f (fields ts b)
          looked_at x f e = by_heir (heir_condition ts.bodies x) e
            where
              by_base : (w : HeirCondition) (o : Option ℕ) → option_and_then (λ b. field ts b w.field.text) o ≡ Some f → (b : ℕ) × In f (fields ts b)
              by_base w None h = cc
              by_base w (Some b) h = (b, (found_in (λ (g : Field). bytes_eq g.name.text w.field.text) (fields ts b) f h).0)

              by_heir : (o : Option HeirCondition) → option_and_then (λ (c : HeirCondition). option_and_then (λ b. field ts b c.field.text) (base ts.table.heads x)) o ≡ Some f → (b : ℕ) × In f (fields ts b)
              by_heir None h = cc
              by_heir (Some w) h = by_base w (base ts.table.heads x) h

      of_base : (o : Option ℕ) → base ts.table.heads x ≡ o → In y (bases ts.table.heads x) → y < length ts.table.heads
      of_base None e j = absurd (none (length ts.table.heads) (subst (λ o. In y (line_within (length ts.table.heads) ts.table.heads o)) e j))
        where
          none : (n : ℕ) → In y (line_within n ts.table.heads None) → ⊥
          none zero i = i
          none (suc n) i = i
      of_base (Some b) e j = up_below ts.table.heads k.based k.unlooped y b (k.based x b e) (subst (In y) (bases_step ts.table.heads k.based k.unlooped x b e) j)

  -- ---- chains of conditions

  abbrev Leads : ℕ → ℕ → ℕ → Type 0
  Leads n x y = Reach (length ts.table.heads) (depends_on ts) depends_below n x y

  -- the conditional subtypes on a chain of conditions are distinct, and as many steps are left as other types
  record Walk (n s : ℕ) : Type 0 where
    around : List ℕ
    below : s < length ts.table.heads
    conditional : is_conditional ts.bodies s ≡ true
    others : (x : ℕ) → In x around → (x < length ts.table.heads) × (is_conditional ts.bodies x ≡ true)
    distinct : Pairs Differ (s ∷ around)
    room : length around + n ≡ length ts.table.heads
    edges : (x : ℕ) → In x around → (m : ℕ) × Leads m x s

  no_walk : (s : ℕ) → Walk zero s → ⊥
  no_walk s w = full (length w.around) (length ts.table.heads) w.room (few_below (length ts.table.heads) (s ∷ w.around) w.distinct (λ x i. all x i))
    where
      full : (a n : ℕ) → a + 0 ≡ n → suc a ≤ n → ⊥
      full a n e l = omega (arith, e, l)

      all : (x : ℕ) → In x (s ∷ w.around) → x < length ts.table.heads
      all x (inl e) = subst (λ z. z < length ts.table.heads) (sym e) w.below
      all x (inr i) = (w.others x i).0

  no_loop : (x : ℕ) → x < length ts.table.heads → is_conditional ts.bodies x ≡ true → (n : ℕ) → Leads n x x → ⊥
  no_loop x below c n r = no_return (length ts.table.heads) (depends_on ts) depends_below x (k.steady x below c) n r

  walk_next : (n s y : ℕ) → Walk (suc n) s → In y (depends_on ts s) → is_conditional ts.bodies y ≡ true → Walk n y
  walk_next n s y w i c = record {
    around = s ∷ w.around;
    below = depends_below s y i;
    conditional = c;
    others = λ x j. others x j;
    distinct = (λ x j. new x j, w.distinct);
    room = moved (length w.around) n (length ts.table.heads) w.room;
    edges = λ x j. edges x j;
  }
    where
      moved : (a m c : ℕ) → a + suc m ≡ c → suc a + m ≡ c
      moved a m c e = omega (arith, e)

      others : (x : ℕ) → In x (s ∷ w.around) → (x < length ts.table.heads) × (is_conditional ts.bodies x ≡ true)
      others x (inl e) = subst (λ z. (z < length ts.table.heads) × (is_conditional ts.bodies z ≡ true)) (sym e) (w.below, w.conditional)
      others x (inr j) = w.others x j

      edges : (x : ℕ) → In x (s ∷ w.around) → (m : ℕ) × Leads m x y
      edges x (inl e) = (zero, subst (λ z. In y (depends_on ts z)) (sym e) i)
      edges x (inr j) = let g = w.edges x j in (suc g.0, reach_more (length ts.table.heads) (depends_on ts) depends_below g.0 x s y g.1 i)

      new : (x : ℕ) → In x (s ∷ w.around) → y ≡ x → ⊥
      new x j same = let g = edges x j in let o = others x j in no_loop x o.0 o.1 g.0 (subst (λ z. Leads g.0 x z) same g.1)

  first_walk : (s : ℕ) → s < length ts.table.heads → is_conditional ts.bodies s ≡ true → Walk (length ts.table.heads) s
  first_walk s below c = record {
    around = [];
    below = below;
    conditional = c;
    others = λ x i. absurd i;
    distinct = (λ x i. absurd i, tt);
    room = zero_more (length ts.table.heads);
    edges = λ x i. absurd i;
  }
    where
      zero_more : (n : ℕ) → 0 + n ≡ n
      zero_more n = omega arith

  module _ (t : ℕ) where
    -- what a member of the type is under
    abbrev pub IsUnder : List ℕ → Type 0
    IsUnder under = (m : Member) × In m (members ts t) × (under ≡ m.under)

    pub field_under : (f : Field) → In f (fields ts t) → IsUnder f.under
    field_under f i = field_member ts k t f i

    asked_of : (under : List ℕ) → IsUnder under → (c : Condition) → In c (filter_map (condition ts) under) → (s : ℕ) × In s under × Asked ts t s c
    asked_of under u c i = let g = filter_map_in (condition ts) under c i in (g.0, g.1, asked_field ts k t u.0 u.1 g.0 (subst (In g.0) u.2 g.1) c g.2)

    -- there are as many steps as the conditions of these take
    abbrev Enough : ℕ → List ℕ → Type 0
    Enough zero under = filter_map (condition ts) under ≡ []
    Enough (suc n) under = (c : Condition) → In c (filter_map (condition ts) under) → (f : Field) → field ts t c.field ≡ Some f → Enough n f.under

    flat_same : {A B : Type 0} (f g : A → List B) (xs : List A) → ((x : A) → In x xs → f x ≡ g x) → flat_map f xs ≡ flat_map g xs
    flat_same f g [] h = refl
    flat_same f g (x ∷ xs) h = ap₂ (◌++◌) (h x (inl refl)) (flat_same f g xs (λ y i. h y (inr i)))

    abbrev group : ℕ → Condition → List Condition
    group n c = flat_map (λ (f : Field). conditions_within n ts t f.under) (option_to_list (field ts t c.field)) ++ c ∷ []

    enough_same : (n m : ℕ) (under : List ℕ) → Enough n under → Enough m under → conditions_within n ts t under ≡ conditions_within m ts t under
    enough_same zero zero under p q = refl
    enough_same zero (suc m) under p q = sym (ap (λ l. flat_map (group m) l) p)
    enough_same (suc n) zero under p q = ap (λ l. flat_map (group n) l) q
    enough_same (suc n) (suc m) under p q = flat_same (group n) (group m) (filter_map (condition ts) under) (λ c i. by c (field ts t c.field) (λ f e. enough_same n m f.under (p c i f e) (q c i f e)))
      where
        by : (c : Condition) (o : Option Field) → ((f : Field) → o ≡ Some f → conditions_within n ts t f.under ≡ conditions_within m ts t f.under)
            → flat_map (λ (f : Field). conditions_within n ts t f.under) (option_to_list o) ++ c ∷ [] ≡ flat_map (λ (f : Field). conditions_within m ts t f.under) (option_to_list o) ++ c ∷ []
        by c None h = refl
        by c (Some f) h = ap (λ l. (l ++ []) ++ c ∷ []) (h f refl)

    enough_of : (n : ℕ) (under : List ℕ) → IsUnder under → ((s : ℕ) → In s under → Walk n s) → Enough n under
    enough_of zero under u w = by under w
      where
        by : (l : List ℕ) → ((s : ℕ) → In s l → Walk zero s) → filter_map (condition ts) l ≡ []
        by [] f = refl
        by (s ∷ ss) f = absurd (no_walk s (f s (inl refl)))
    enough_of (suc n) under u w = λ c i f e.
        let g = asked_of under u c i in
        let same : g.2.asked ≡ f = some_same (sym g.2.at ∙ e) in
        let inside : In f (fields ts t) = subst (λ z. In z (fields ts t)) same g.2.inside in
        let m = field_member ts k t f inside in
        enough_of n f.under (field_under f inside) (λ x j. walk_next n g.0 x (w g.0 g.1) (g.2.depends x (subst (λ (z : Field). In x z.under) (sym same) j)) (under_conditional ts k t m.0 m.1 x (subst (In x) m.2 j)).0)
      where
        some_same : {a b : Field} → Some a ≡ Some b → a ≡ b
        some_same h = cc

    enough : (under : List ℕ) → IsUnder under → Enough (length ts.table.heads) under
    enough under u = enough_of (length ts.table.heads) under u (λ s i. let c = under_conditional ts k t u.0 u.1 s (subst (In s) u.2 i) in first_walk s c.1 c.0)

    -- ---- conditions as they stand

    -- a condition asks a field of the type
    abbrev pub IsSought : Condition → Type 0
    IsSought c = (s : ℕ) × Asked ts t s c

    within_sought : (n : ℕ) (under : List ℕ) → IsUnder under → (c : Condition) → In c (conditions_within n ts t under) → IsSought c
    within_sought zero under u c i = absurd i
    within_sought (suc n) under u c i =
        let g = flat_map_in (group n) (filter_map (condition ts) under) c i in
        let a = asked_of under u g.0 g.1 in
        elim (in_either c (flat_map (λ (f : Field). conditions_within n ts t f.under) (option_to_list (field ts t g.0.field))) (g.0 ∷ []) g.2) as (λ _. IsSought c) [
          | inl j ↦
              let f = flat_map_in (λ (f : Field). conditions_within n ts t f.under) (option_to_list (field ts t g.0.field)) c j in
              let at = of_option (field ts t g.0.field) f.0 f.1 in
              let inside = (found_in (λ (h : Field). bytes_eq h.name.text g.0.field) (fields ts t) f.0 at).0 in
              within_sought n f.0.under (field_under f.0 inside) c f.2
          | inr j ↦ one a j
        ]
      where
        one : {d : Condition} → (s : ℕ) × In s under × Asked ts t s d → In c (d ∷ []) → IsSought c
        one a (inl e) = (a.0, subst (λ z. Asked ts t a.0 z) (sym e) a.2)
        one a (inr j) = absurd j

    module _ (object : Path) where
      abbrev pub asks : Condition → Guard
      asks c = Guard.Value (then_name object c.field) c.value

      -- the conditions of the field that a condition looks at are among some
      abbrev pub Ready : Condition → List Guard → Type 0
      Ready c before = (f : Field) → field ts t c.field ≡ Some f → (d : Condition) → In d (conditions_within (length ts.table.heads) ts t f.under) → In (asks d) before

      -- so for each, after those before it
      abbrev pub After : List Guard → List Condition → Type 0
      After before [] = ⊤
      After before (c ∷ cs) = Ready c before × After (asks c ∷ before) cs

      abbrev Within : List Guard → List Guard → Type 0
      Within some more = (g : Guard) → In g some → In g more

      within_next : (g : Guard) (some more : List Guard) → Within some more → Within (g ∷ some) (g ∷ more)
      within_next g some more f h (inl e) = inl e
      within_next g some more f h (inr i) = inr (f h i)

      pub after_more : (cs : List Condition) (some more : List Guard) → ((g : Guard) → In g some → In g more) → After some cs → After more cs
      after_more [] some more f a = tt
      after_more (c ∷ cs) some more f a = (λ g e d i. f (asks d) (a.0 g e d i), after_more cs (asks c ∷ some) (asks c ∷ more) (within_next (asks c) some more f) a.1)

      pushed : List Guard → List Condition → List Guard
      pushed before [] = before
      pushed before (c ∷ cs) = pushed (asks c ∷ before) cs

      pushed_old : (cs : List Condition) (before : List Guard) (g : Guard) → In g before → In g (pushed before cs)
      unfolding pushed
      pushed_old [] before g i = i
      pushed_old (c ∷ cs) before g i = pushed_old cs (asks c ∷ before) g (inr i)

      pushed_new : (cs : List Condition) (before : List Guard) (c : Condition) → In c cs → In (asks c) (pushed before cs)
      unfolding pushed
      pushed_new [] before c i = absurd i
      pushed_new (d ∷ cs) before c (inl e) = pushed_old cs (asks d ∷ before) (asks c) (inl (ap asks e))
      pushed_new (d ∷ cs) before c (inr i) = pushed_new cs (asks d ∷ before) c i

      after_append : (xs ys : List Condition) (before : List Guard) → After before xs → After (pushed before xs) ys → After before (xs ++ ys)
      unfolding pushed
      after_append [] ys before p q = q
      after_append (x ∷ xs) ys before p q = (p.0, after_append xs ys (asks x ∷ before) p.1 q)

      none_in : (more : List Guard) (g : Guard) → In g [] → In g more
      none_in more g i = absurd i

      after_flat : {A : Type 0} (f : A → List Condition) (xs : List A) → ((x : A) → In x xs → After [] (f x)) → After [] (flat_map f xs)
      after_flat f [] h = tt
      after_flat f (x ∷ xs) h = after_append (f x) (flat_map f xs) [] (h x (inl refl)) (after_more (flat_map f xs) [] (pushed [] (f x)) (none_in (pushed [] (f x))) (after_flat f xs (λ y i. h y (inr i))))

      after_within : (n : ℕ) (under : List ℕ) → IsUnder under → Enough n under → After [] (conditions_within n ts t under)
      after_within zero under u e = tt
      after_within (suc n) under u e = after_flat (group n) (filter_map (condition ts) under) (λ c i. by c (asked_of under u c i) (λ f at. e c i f at) (λ f v at. after_within n f.under v (e c i f at)))
        where
          by : (c : Condition) → (s : ℕ) × In s under × Asked ts t s c → ((f : Field) → field ts t c.field ≡ Some f → Enough n f.under)
              → ((f : Field) → IsUnder f.under → field ts t c.field ≡ Some f → After [] (conditions_within n ts t f.under)) → After [] (group n c)
          by c a more rest =
              let f = a.2.asked in
              let inner = conditions_within n ts t f.under in
              let v = field_under f a.2.inside in
              subst (λ o. After [] (flat_map (λ (f : Field). conditions_within n ts t f.under) (option_to_list o) ++ c ∷ [])) (sym a.2.at)
              (after_append (inner ++ []) (c ∷ []) [] (after_append inner [] [] (rest f v a.2.at) tt) (
                λ g e d i. pushed_new (inner ++ []) [] d (in_left d inner [] (subst (In d) (sym (enough_same n (length ts.table.heads) f.under (more f a.2.at) (enough f.under v)))
                    (subst (λ (z : Field). In d (conditions_within (length ts.table.heads) ts t z.under)) (some_same (sym e ∙ a.2.at)) i))),
                tt,
              ))
            where
              some_same : {x y : Field} → Some x ≡ Some y → x ≡ y
              some_same h = cc

      asks_same : (c d : Condition) → same_condition c d ≡ true → asks c ≡ asks d
      asks_same c d h = ap₂ (λ (f : List ℕ) v. Guard.Value (then_name object f) v) ((bytes_eq-Decides c.field d.field).0 (left_of (bytes_eq c.field d.field) (int_eq c.value d.value) h)) (number c.value d.value (right_of (bytes_eq c.field d.field) (int_eq c.value d.value) h))
        where
          number : (a b : ℤ) → int_eq a b ≡ true → a ≡ b
          number a b e = grind (arith, ints)

      after_once : (cs seen : List Condition) (before more : List Guard) → After before cs → ((g : Guard) → In g before → In g more) → ((c : Condition) → In c seen → In (asks c) more) → After more (once_after seen cs)
      after_once [] seen before more a f g = tt
      after_once (c ∷ cs) seen before more a f g = two_ways (list_any (same_condition c) seen) (λ e. rw e (after_once cs seen (asks c ∷ before) more a.1 (λ h i. old e h i) g))
          (λ e. rw e (λ h at d i. f (asks d) (a.0 h at d i), after_once cs (c ∷ seen) (asks c ∷ before) (asks c ∷ more) a.1 (within_next (asks c) before more f) (λ d i. new d i)))
        where
          old : list_any (same_condition c) seen ≡ true → (h : Guard) → In h (asks c ∷ before) → In h more
          old e h (inl same) = let found = any_at (same_condition c) seen e in subst (λ z. In z more) (sym (same ∙ asks_same c found.0 found.2)) (g found.0 found.1)
          old e h (inr i) = f h i

          new : (d : Condition) → In d (c ∷ seen) → In (asks d) (asks c ∷ more)
          new d (inl same) = inl (ap asks same)
          new d (inr i) = inr (g d i)

      -- the conditions of a member stand after those of the fields that they look at
      pub conditions_after : (under : List ℕ) → IsUnder under → After [] (conditions ts t under)
      conditions_after under u = after_once (conditions_within (length ts.table.heads) ts t under) [] [] [] (after_within (length ts.table.heads) under u (enough under u)) (λ g i. i) (λ c i. absurd i)

    once_in : (cs seen : List Condition) (c : Condition) → In c (once_after seen cs) → In c cs
    once_in [] seen c i = i
    once_in (d ∷ cs) seen c i = by (list_any (same_condition d) seen) i (λ j. once_in cs seen c j) (λ j. once_in cs (d ∷ seen) c j)
      where
        by : (b : Bool) → In c (cond b (once_after seen cs) (d ∷ once_after (d ∷ seen) cs)) → (In c (once_after seen cs) → In c cs) → (In c (once_after (d ∷ seen) cs) → In c cs) → In c (d ∷ cs)
        by true j f g = inr (f j)
        by false (inl e) f g = inl e
        by false (inr j) f g = inr (g j)

    pub conditions_in : (under : List ℕ) (c : Condition) → In c (conditions ts t under) → In c (conditions_within (length ts.table.heads) ts t under)
    conditions_in under c i = once_in (conditions_within (length ts.table.heads) ts t under) [] c i

    pub conditions_sought : (under : List ℕ) → IsUnder under → (c : Condition) → In c (conditions ts t under) → IsSought c
    conditions_sought under u c i = within_sought (length ts.table.heads) under u c (conditions_in under c i)

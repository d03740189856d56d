-- The claims of a run, list by list.
use Rattle.std.proofs.Common.{◌≡◌, refl, sym, ap, ap₂, ◌∙◌, subst, List, [], ◌∷◌, ◌++◌, Bool, true, false, ◌&&◌, ◌||◌, not, map, length, true≢false}
use Rattle.std.specs.Prelude.{ℤ, ◌+◌, nat_eq, filter}
use Rattle.std.specs.List.{list_all}
use Rattle.osc_base.specs.declared.path.Path.{Path}
use Rattle.osc_base.specs.Paths.{same_path}
use Rattle.composition.specs.declared.clause.Clause.{Clause}
use Rattle.composition.specs.declared.run.Run.{Run}
use Rattle.composition.specs.declared.spot.ChoiceSpot.{ChoiceSpot}
use Rattle.composition.specs.declared.spot.ValueSpot.{ValueSpot}
use Rattle.composition.specs.declared.spot.PhaseSpot.{PhaseSpot}
use Rattle.composition.specs.declared.run.Choice.{Choice}
use Rattle.composition.specs.declared.run.Span.{Span}
use Rattle.composition.specs.declared.run.Value.{Value}
use Rattle.composition.specs.declared.run.Trace.{Trace}
use Rattle.composition.specs.Scenes.{Scene, choices, values, phases, vehicles}
use Rattle.composition.specs.Items.{Item, OfHard, OfDefault, OfTyped, OfPhase, OfModifier, OfMotion, items, item_holds, is_hard}
use Rattle.composition.specs.Claims.{Claim, claim, listed, those_there, listed_claims, sample_in_range, choice_in_range, value_in_range, span_in_range, end_claim, bounds_claims, item_claim, item_claims, is_instance}
use Rattle.field_flatten.specs.Exactness.{is_hard_clause, is_framed}
use Rattle.field_flatten.proofs.Tests.{left_of, In, in_flat_map, flat_map_in, all_at, all_from, all_append, filter_in, in_filter}
use Rattle.field_flatten.proofs.Frame.{holds_in}
use Rattle.field_flatten.proofs.ListedRun.{Framed, all_parts, choice_row, value_row, phase_row, trace_row, length_row, choice_bounds, value_bounds, span_bounds, trace_bounds}

abbrev pub soft_holds : Claim → Bool
soft_holds c = is_hard_clause c.clause || c.holds

-- ---- lists without hard constraints

soft_listed : (xs ys : List Path) → list_all soft_holds (listed xs ys) ≡ list_all holds_in (listed xs ys)
soft_listed [] [] = refl
soft_listed [] (y ∷ ys) = refl
soft_listed (x ∷ xs) [] = refl
soft_listed (x ∷ xs) (y ∷ ys) = ap (λ b. same_path x y && b) (soft_listed xs ys)

soft_map : {A : Type 0} (make : A → Claim) (xs : List A) → ((a : A) → is_hard_clause (make a).clause ≡ false) → list_all soft_holds (map make xs) ≡ list_all holds_in (map make xs)
soft_map make [] f = refl
soft_map make (x ∷ xs) f = ap₂ (λ b c. (b || (make x).holds) && c) (f x) (soft_map make xs f)

appended : (xs ys : List Claim) → list_all soft_holds xs ≡ list_all holds_in xs → list_all soft_holds ys ≡ list_all holds_in ys → list_all soft_holds (xs ++ ys) ≡ list_all holds_in (xs ++ ys)
appended xs ys p q = all_append soft_holds xs ys ∙ ap₂ (◌&&◌) p q ∙ sym (all_append holds_in xs ys)

module _ (scene : Scene) (run : Run) where
  soft_listed_claims : list_all soft_holds (listed_claims scene run) ≡ list_all holds_in (listed_claims scene run)
  soft_listed_claims =
      appended (choice_row scene run ++ value_row scene run ++ phase_row scene run ++ trace_row scene run) (length_row scene run)
      (appended (choice_row scene run ++ value_row scene run ++ phase_row scene run) (trace_row scene run)
      (appended (choice_row scene run ++ value_row scene run) (phase_row scene run)
      (appended (choice_row scene run) (value_row scene run)
      (soft_listed (those_there scene run (map (λ (c : ChoiceSpot). c.path) (choices scene))) (map (λ (c : Choice). c.path) run.choices))
      (soft_listed (those_there scene run (map (λ (v : ValueSpot). v.path) (values scene))) (map (λ (v : Value). v.path) run.values)))
      (soft_listed (those_there scene run (map (λ (p : PhaseSpot). p.path) (phases scene))) (map (λ (p : Span). p.path) run.phases)))
      (soft_listed (those_there scene run (vehicles scene)) (map (λ (t : Trace). t.path) run.traces)))
      (soft_map (λ (t : Trace). claim Clause.Listed t.path (nat_eq (length t.samples) (run.end + 1))) run.traces (λ t. refl))

  soft_bounds_claims : list_all soft_holds (bounds_claims scene run) ≡ list_all holds_in (bounds_claims scene run)
  soft_bounds_claims =
      appended (choice_bounds scene run ++ value_bounds scene run ++ span_bounds scene run) (trace_bounds scene run)
      (appended (choice_bounds scene run ++ value_bounds scene run) (span_bounds scene run)
      (appended (choice_bounds scene run) (value_bounds scene run)
      (soft_map (λ (c : Choice). claim Clause.Bounds c.path (choice_in_range scene c)) run.choices (λ t. refl))
      (soft_map (λ (v : Value). claim Clause.Bounds v.path (value_in_range scene v)) run.values (λ t. refl)))
      (soft_map (λ (s : Span). claim Clause.Bounds s.path (span_in_range scene.setting s)) run.phases (λ t. refl)))
      (soft_map (λ (t : Trace). claim Clause.Bounds t.path (list_all (sample_in_range scene.setting) t.samples)) run.traces (λ t. refl))

  -- ---- items

  pub soft_item : (i : Item) (h : Bool) → is_hard i ≡ false → list_all soft_holds (item_claim i h) ≡ list_all holds_in (item_claim i h)
  soft_item (OfHard o) h e = absurd (true≢false e)
  soft_item (OfDefault later o) h e = refl
  soft_item (OfTyped path numbers) h e = refl
  soft_item (OfPhase p) h e = refl
  soft_item (OfModifier m tick) h e = refl
  soft_item (OfMotion vehicle tick) h e = refl

  hard_item : (i : Item) (h : Bool) → is_hard i ≡ true → list_all soft_holds (item_claim i h) ≡ true
  hard_item (OfHard o) h e = refl
  hard_item (OfDefault later o) h e = absurd (true≢false (sym e))
  hard_item (OfTyped path numbers) h e = refl
  hard_item (OfPhase p) h e = absurd (true≢false (sym e))
  hard_item (OfModifier m tick) h e = absurd (true≢false (sym e))
  hard_item (OfMotion vehicle tick) h e = absurd (true≢false (sym e))

  pub item_true : (i : Item) (h : Bool) → h ≡ true → list_all holds_in (item_claim i h) ≡ true
  item_true (OfHard o) h e = rw e refl
  item_true (OfDefault later o) h e = rw e refl
  item_true (OfTyped path numbers) h e = refl
  item_true (OfPhase p) h e = rw e refl
  item_true (OfModifier m tick) h e = rw e refl
  item_true (OfMotion vehicle tick) h e = rw e refl

  and_true : (b : Bool) → b && true ≡ true → b ≡ true
  and_true b h = left_of b true h

  -- an item whose claim holds, if an enum's value holds one of its numbers
  pub true_item : (i : Item) (h : Bool) → ((path : Path) (numbers : List ℤ) → i ≡ OfTyped path numbers → h ≡ true) → list_all holds_in (item_claim i h) ≡ true → h ≡ true
  true_item (OfHard o) h f e = and_true h e
  true_item (OfDefault later o) h f e = and_true h e
  true_item (OfTyped path numbers) h f e = f path numbers refl
  true_item (OfPhase p) h f e = and_true h e
  true_item (OfModifier m tick) h f e = and_true h e
  true_item (OfMotion vehicle tick) h f e = and_true h e

  abbrev claim_of : Item → List Claim
  claim_of i = item_claim i (item_holds scene run i)

  all_items : (test : Claim → Bool) (these : List Item) → ((i : Item) → In i these → list_all test (claim_of i) ≡ true) → list_all test (item_claims scene run these) ≡ true
  all_items test these f = all_from test (item_claims scene run these) (λ c j. let i = flat_map_in claim_of these c j in all_at test (claim_of i.0) (f i.0 i.1) c i.2)

  each_item : (test : Claim → Bool) (these : List Item) → list_all test (item_claims scene run these) ≡ true → (i : Item) → In i these → list_all test (claim_of i) ≡ true
  each_item test these h i j = all_from test (claim_of i) (λ c k. all_at test (item_claims scene run these) h c (in_flat_map claim_of these i c j k))

  -- ---- all claims

  abbrev hards : List Item
  hards = filter is_hard (items scene)

  abbrev softs : List Item
  softs = filter (λ i. not (is_hard i)) (items scene)

  not_hard : (b : Bool) → b ≡ false → not b ≡ true
  not_hard b e = rw e refl

  is_not_hard : (b : Bool) → not b ≡ true → b ≡ false
  is_not_hard true e = absurd (true≢false (sym e))
  is_not_hard false e = refl

  pub framed_of : is_framed scene run ≡ true → Framed scene run
  framed_of h =
      let a = all_parts soft_holds (listed_claims scene run ++ end_claim scene run ∷ [] ++ bounds_claims scene run ++ item_claims scene run hards) (item_claims scene run softs) h in
      let b = all_parts soft_holds (listed_claims scene run ++ end_claim scene run ∷ [] ++ bounds_claims scene run) (item_claims scene run hards) a.0 in
      let c = all_parts soft_holds (listed_claims scene run ++ end_claim scene run ∷ []) (bounds_claims scene run) b.0 in
      let d = all_parts soft_holds (listed_claims scene run) (end_claim scene run ∷ []) c.0 in
      record {
        listed = sym soft_listed_claims ∙ d.0;
        ended = and_true (end_claim scene run).holds d.1;
        bounded = sym soft_bounds_claims ∙ c.1;
        soft = λ i j e. sym (soft_item i (item_holds scene run i) e) ∙ each_item soft_holds softs a.1 i (filter_in (λ k. not (is_hard k)) (items scene) i j (not_hard (is_hard i) e));
      }

  pub framed_is : Framed scene run → is_framed scene run ≡ true
  framed_is f =
      all_append soft_holds (listed_claims scene run ++ end_claim scene run ∷ [] ++ bounds_claims scene run ++ item_claims scene run hards) (item_claims scene run softs)
      ∙ ap₂ (◌&&◌) (all_append soft_holds (listed_claims scene run ++ end_claim scene run ∷ [] ++ bounds_claims scene run) (item_claims scene run hards)
      ∙ ap₂ (◌&&◌) (all_append soft_holds (listed_claims scene run ++ end_claim scene run ∷ []) (bounds_claims scene run)
      ∙ ap₂ (◌&&◌) (all_append soft_holds (listed_claims scene run) (end_claim scene run ∷ []) ∙ ap₂ (λ x y. x && (y && true)) (soft_listed_claims ∙ f.listed) f.ended) (soft_bounds_claims ∙ f.bounded))
      (all_items soft_holds hards (λ i j. hard_item i (item_holds scene run i) (in_filter is_hard (items scene) i j).1)))
      (all_items soft_holds softs (λ i j. let k = in_filter (λ l. not (is_hard l)) (items scene) i j in
      let e = is_not_hard (is_hard i) k.1 in soft_item i (item_holds scene run i) e ∙ f.soft i k.0 e))

  -- every hard constraint holds
  abbrev pub AllHard : Type 0
  AllHard = (i : Item) → In i (items scene) → is_hard i ≡ true → item_holds scene run i ≡ true

  pub instance_parts : is_instance scene run ≡ true → Framed scene run × AllHard
  instance_parts h =
      let a = all_parts holds_in (listed_claims scene run ++ end_claim scene run ∷ [] ++ bounds_claims scene run ++ item_claims scene run hards) (item_claims scene run softs) h in
      let b = all_parts holds_in (listed_claims scene run ++ end_claim scene run ∷ [] ++ bounds_claims scene run) (item_claims scene run hards) a.0 in
      let c = all_parts holds_in (listed_claims scene run ++ end_claim scene run ∷ []) (bounds_claims scene run) b.0 in
      let d = all_parts holds_in (listed_claims scene run) (end_claim scene run ∷ []) c.0 in (
        record {
          listed = d.0;
          ended = and_true (end_claim scene run).holds d.1;
          bounded = c.1;
          soft = λ i j e. each_item holds_in softs a.1 i (filter_in (λ k. not (is_hard k)) (items scene) i j (not_hard (is_hard i) e));
        },
        λ i j e. true_item i (item_holds scene run i) (λ path numbers is. absurd (true≢false (sym (subst (λ k. is_hard k ≡ true) is e)))) (each_item holds_in hards b.1 i (filter_in is_hard (items scene) i j e)),
      )

  pub instance_is : Framed scene run → AllHard → is_instance scene run ≡ true
  instance_is f hard =
      all_append holds_in (listed_claims scene run ++ end_claim scene run ∷ [] ++ bounds_claims scene run ++ item_claims scene run hards) (item_claims scene run softs)
      ∙ ap₂ (◌&&◌) (all_append holds_in (listed_claims scene run ++ end_claim scene run ∷ [] ++ bounds_claims scene run) (item_claims scene run hards)
      ∙ ap₂ (◌&&◌) (all_append holds_in (listed_claims scene run ++ end_claim scene run ∷ []) (bounds_claims scene run)
      ∙ ap₂ (◌&&◌) (all_append holds_in (listed_claims scene run) (end_claim scene run ∷ []) ∙ ap₂ (λ x y. x && (y && true)) f.listed f.ended) f.bounded)
      (all_items holds_in hards (λ i j. let k = in_filter is_hard (items scene) i j in item_true i (item_holds scene run i) (hard i k.0 k.1))))
      (all_items holds_in softs (λ i j. let k = in_filter (λ l. not (is_hard l)) (items scene) i j in f.soft i k.0 (is_not_hard (is_hard i) k.1)))

-- What a run that lists exactly what is there holds at a path.
use Rattle.std.proofs.Common.{◌≡◌, ◌+◌, refl, sym, ap, ap₂, ◌∙◌, subst, inl, inr, List, [], ◌∷◌, ◌++◌, Bool, true, false, not, Some, map, length, true≢false}
use Rattle.std.specs.Prelude.{filter, find, nat_eq}
use Rattle.std.specs.List.{list_any, list_all}
use Rattle.osc_base.specs.declared.path.Path.{Path}
use Rattle.osc_base.specs.Paths.{same_path}
use Rattle.composition.specs.declared.clause.Clause.{Clause}
use Rattle.composition.specs.declared.spot.ChoiceSpot.{ChoiceSpot}
use Rattle.composition.specs.declared.spot.ValueSpot.{ValueSpot}
use Rattle.composition.specs.declared.spot.PhaseSpot.{PhaseSpot}
use Rattle.composition.specs.declared.run.Choice.{Choice}
use Rattle.composition.specs.declared.run.Span.{Span}
use Rattle.composition.specs.declared.run.Value.{Value}
use Rattle.composition.specs.declared.run.Trace.{Trace}
use Rattle.composition.specs.declared.run.Run.{Run}
use Rattle.composition.specs.Scenes.{Scene, choices, values, phases, vehicles}
use Rattle.composition.specs.There.{is_there}
use Rattle.composition.specs.Items.{Item, items, item_holds, is_hard}
use Rattle.composition.specs.Claims.{Claim, claim, listed, those_there, listed_claims, end_claim, bounds_claims, item_claim, sample_in_range, choice_in_range, value_in_range, span_in_range}
use Rattle.composition.specs.Invariants.{are_distinct}
use Rattle.field_flatten.proofs.Tests.{left_of, right_of, both, contrary, two_ways, path_is, number_is, In, in_map, map_in, all_at, all_append, all_map, any_from, any_at, in_filter, filter_in}
use Rattle.field_flatten.proofs.Frame.{holds_in}
use Rattle.field_flatten.proofs.ItemLaw.{distinct_found}

-- what holds of a run in which all claims but those of hard constraints hold
pub record Framed (scene : Scene) (run : Run) : Type 0 where
  pub listed : list_all holds_in (listed_claims scene run) ≡ true
  pub ended : (end_claim scene run).holds ≡ true
  pub bounded : list_all holds_in (bounds_claims scene run) ≡ true
  pub soft : (i : Item) → In i (items scene) → is_hard i ≡ false → list_all holds_in (item_claim i (item_holds scene run i)) ≡ true

pub listed_are : (xs ys : List Path) → list_all holds_in (listed xs ys) ≡ true → xs ≡ ys
listed_are [] [] h = refl
listed_are [] (y ∷ ys) h = absurd (true≢false (sym h))
listed_are (x ∷ xs) [] h = absurd (true≢false (sym h))
listed_are (x ∷ xs) (y ∷ ys) h = ap₂ (◌∷◌) (path_is x y (left_of (same_path x y) (list_all holds_in (listed xs ys)) h)) (listed_are xs ys (right_of (same_path x y) (list_all holds_in (listed xs ys)) h))

pub all_parts : {A : Type 0} (test : A → Bool) (xs ys : List A) → list_all test (xs ++ ys) ≡ true → (list_all test xs ≡ true) × (list_all test ys ≡ true)
all_parts test xs ys h = let e = sym (all_append test xs ys) ∙ h in (left_of (list_all test xs) (list_all test ys) e, right_of (list_all test xs) (list_all test ys) e)

distinct_filter : (keep : Path → Bool) (xs : List Path) → are_distinct xs ≡ true → are_distinct (filter keep xs) ≡ true
distinct_filter keep [] h = refl
distinct_filter keep (x ∷ xs) h =
    let fresh = left_of (not (list_any (same_path x) xs)) (are_distinct xs) h in
    let rest = distinct_filter keep xs (right_of (not (list_any (same_path x) xs)) (are_distinct xs) h) in
    two_ways (keep x)
    (λ e. rw e (both (not (list_any (same_path x) (filter keep xs))) (are_distinct (filter keep xs))
    (two_ways (list_any (same_path x) (filter keep xs))
    (λ f. let g = any_at (same_path x) (filter keep xs) f in
    let there : list_any (same_path x) xs ≡ true = any_from (same_path x) xs g.0 (in_filter keep xs g.0 g.1).0 g.2 in
    contrary (not (list_any (same_path x) xs)) fresh (rw there refl))
    (λ f. rw f refl)) rest))
    (λ e. rw e rest)

-- ---- one of the four lists

module _ (A B : Type 0) (key : A → Path) (key_of : B → Path) (keep : Path → Bool) (xs : List A) (ys : List B) (same : filter keep (map key xs) ≡ map key_of ys) where
  pub entry_there : (x : A) → In x xs → keep (key x) ≡ true → (y : B) × In y ys × (key x ≡ key_of y)
  entry_there x i h = map_in key_of ys (key x) (subst (In (key x)) same (filter_in keep (map key xs) (key x) (in_map key xs x i) h))

  pub spot_there : (y : B) → In y ys → (x : A) × In x xs × (key_of y ≡ key x) × (keep (key_of y) ≡ true)
  spot_there y i =
      let f = in_filter keep (map key xs) (key_of y) (subst (In (key_of y)) (sym same) (in_map key_of ys y i)) in
      let x = map_in key xs (key_of y) f.0 in
      (x.0, x.1, x.2, f.1)

  pub first_entry : are_distinct (map key xs) ≡ true → (y : B) → In y ys → find (λ b. same_path (key_of b) (key_of y)) ys ≡ Some y
  first_entry distinct = distinct_found key_of ys (subst (λ ps. are_distinct ps ≡ true) same (distinct_filter keep (map key xs) distinct))

  rebuilt_from : (mk : Path → B) (zs : List B) → ((y : B) → In y zs → mk (key_of y) ≡ y) → map mk (map key_of zs) ≡ zs
  rebuilt_from mk [] f = refl
  rebuilt_from mk (z ∷ zs) f = ap₂ (◌∷◌) (f z (inl refl)) (rebuilt_from mk zs (λ y i. f y (inr i)))

  pub rebuilt : (mk : Path → B) → ((y : B) → In y ys → mk (key_of y) ≡ y) → map mk (filter keep (map key xs)) ≡ ys
  rebuilt mk f = ap (map mk) same ∙ rebuilt_from mk ys f

-- ---- the run

module _ (scene : Scene) (run : Run) where
  abbrev pub choice_row : List Claim
  choice_row = listed (those_there scene run (map (λ (c : ChoiceSpot). c.path) (choices scene))) (map (λ (c : Choice). c.path) run.choices)

  abbrev pub value_row : List Claim
  value_row = listed (those_there scene run (map (λ (v : ValueSpot). v.path) (values scene))) (map (λ (v : Value). v.path) run.values)

  abbrev pub phase_row : List Claim
  phase_row = listed (those_there scene run (map (λ (p : PhaseSpot). p.path) (phases scene))) (map (λ (p : Span). p.path) run.phases)

  abbrev pub trace_row : List Claim
  trace_row = listed (those_there scene run (vehicles scene)) (map (λ (t : Trace). t.path) run.traces)

  abbrev pub length_row : List Claim
  length_row = map (λ (t : Trace). claim Clause.Listed t.path (nat_eq (length t.samples) (run.end + 1))) run.traces

  abbrev pub choice_bounds : List Claim
  choice_bounds = map (λ (c : Choice). claim Clause.Bounds c.path (choice_in_range scene c)) run.choices

  abbrev pub value_bounds : List Claim
  value_bounds = map (λ (v : Value). claim Clause.Bounds v.path (value_in_range scene v)) run.values

  abbrev pub span_bounds : List Claim
  span_bounds = map (λ (s : Span). claim Clause.Bounds s.path (span_in_range scene.setting s)) run.phases

  abbrev pub trace_bounds : List Claim
  trace_bounds = map (λ (t : Trace). claim Clause.Bounds t.path (list_all (sample_in_range scene.setting) t.samples)) run.traces

  module _ (framed : Framed scene run) where
    pub choices_listed : filter (is_there scene run) (map (λ (c : ChoiceSpot). c.path) (choices scene)) ≡ map (λ (c : Choice). c.path) run.choices
    choices_listed =
        let a = all_parts holds_in (choice_row ++ value_row ++ phase_row ++ trace_row) length_row framed.listed in
        let b = all_parts holds_in (choice_row ++ value_row ++ phase_row) trace_row a.0 in
        let c = all_parts holds_in (choice_row ++ value_row) phase_row b.0 in
        listed_are (those_there scene run (map (λ (c : ChoiceSpot). c.path) (choices scene))) (map (λ (c : Choice). c.path) run.choices) (all_parts holds_in choice_row value_row c.0).0

    pub values_listed : filter (is_there scene run) (map (λ (v : ValueSpot). v.path) (values scene)) ≡ map (λ (v : Value). v.path) run.values
    values_listed =
        let a = all_parts holds_in (choice_row ++ value_row ++ phase_row ++ trace_row) length_row framed.listed in
        let b = all_parts holds_in (choice_row ++ value_row ++ phase_row) trace_row a.0 in
        let c = all_parts holds_in (choice_row ++ value_row) phase_row b.0 in
        listed_are (those_there scene run (map (λ (v : ValueSpot). v.path) (values scene))) (map (λ (v : Value). v.path) run.values) (all_parts holds_in choice_row value_row c.0).1

    pub phases_listed : filter (is_there scene run) (map (λ (p : PhaseSpot). p.path) (phases scene)) ≡ map (λ (s : Span). s.path) run.phases
    phases_listed =
        let a = all_parts holds_in (choice_row ++ value_row ++ phase_row ++ trace_row) length_row framed.listed in
        let b = all_parts holds_in (choice_row ++ value_row ++ phase_row) trace_row a.0 in
        listed_are (those_there scene run (map (λ (p : PhaseSpot). p.path) (phases scene))) (map (λ (p : Span). p.path) run.phases) (all_parts holds_in (choice_row ++ value_row) phase_row b.0).1

    pub traces_listed : filter (is_there scene run) (map (λ v. v) (vehicles scene)) ≡ map (λ (t : Trace). t.path) run.traces
    traces_listed =
        let a = all_parts holds_in (choice_row ++ value_row ++ phase_row ++ trace_row) length_row framed.listed in
        ap (filter (is_there scene run)) (map_self (vehicles scene))
        ∙ listed_are (those_there scene run (vehicles scene)) (map (λ (t : Trace). t.path) run.traces) (all_parts holds_in (choice_row ++ value_row ++ phase_row) trace_row a.0).1
      where
        map_self : (ps : List Path) → map (λ v. v) ps ≡ ps
        map_self [] = refl
        map_self (p ∷ ps) = ap (λ qs. p ∷ qs) (map_self ps)

    pub trace_long : (t : Trace) → In t run.traces → length t.samples ≡ run.end + 1
    trace_long t i =
        let a = all_parts holds_in (choice_row ++ value_row ++ phase_row ++ trace_row) length_row framed.listed in
        let b = sym (all_map holds_in (λ (u : Trace). claim Clause.Listed u.path (nat_eq (length u.samples) (run.end + 1))) run.traces) ∙ a.1 in
        number_is (length t.samples) (run.end + 1) (all_at (λ (u : Trace). nat_eq (length u.samples) (run.end + 1)) run.traces b t i)

    -- ---- bounds

    pub choice_bounded : (c : Choice) → In c run.choices → choice_in_range scene c ≡ true
    choice_bounded c i =
        let a = all_parts holds_in (choice_bounds ++ value_bounds ++ span_bounds) trace_bounds framed.bounded in
        let b = all_parts holds_in (choice_bounds ++ value_bounds) span_bounds a.0 in
        all_at (choice_in_range scene) run.choices (sym (all_map holds_in (λ (d : Choice). claim Clause.Bounds d.path (choice_in_range scene d)) run.choices) ∙ (all_parts holds_in choice_bounds value_bounds b.0).0) c i

    pub value_bounded : (v : Value) → In v run.values → value_in_range scene v ≡ true
    value_bounded v i =
        let a = all_parts holds_in (choice_bounds ++ value_bounds ++ span_bounds) trace_bounds framed.bounded in
        let b = all_parts holds_in (choice_bounds ++ value_bounds) span_bounds a.0 in
        all_at (value_in_range scene) run.values (sym (all_map holds_in (λ (w : Value). claim Clause.Bounds w.path (value_in_range scene w)) run.values) ∙ (all_parts holds_in choice_bounds value_bounds b.0).1) v i

    pub span_bounded : (s : Span) → In s run.phases → span_in_range scene.setting s ≡ true
    span_bounded s i =
        let a = all_parts holds_in (choice_bounds ++ value_bounds ++ span_bounds) trace_bounds framed.bounded in
        all_at (span_in_range scene.setting) run.phases (sym (all_map holds_in (λ (p : Span). claim Clause.Bounds p.path (span_in_range scene.setting p)) run.phases) ∙ (all_parts holds_in (choice_bounds ++ value_bounds) span_bounds a.0).1) s i

    pub trace_bounded : (t : Trace) → In t run.traces → list_all (sample_in_range scene.setting) t.samples ≡ true
    trace_bounded t i =
        let a = all_parts holds_in (choice_bounds ++ value_bounds ++ span_bounds) trace_bounds framed.bounded in
        all_at (λ (u : Trace). list_all (sample_in_range scene.setting) u.samples) run.traces
        (sym (all_map holds_in (λ (u : Trace). claim Clause.Bounds u.path (list_all (sample_in_range scene.setting) u.samples)) run.traces) ∙ a.1) t i

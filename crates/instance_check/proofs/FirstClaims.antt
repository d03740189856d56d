-- The first claim that fails, list by list.
use Rattle.std.proofs.Common.{◌≡◌, ◌∙◌, refl, sym, ap, ap₂, true≢false, ℕ, ◌+◌, List, [], ◌∷◌, ◌++◌, ◌&&◌, ◌||◌, Bool, true, false, cond, not, Option, Some, None, map}
use Rattle.std.specs.Prelude.{find, filter, flat_map, option_map, nat_eq, length}
use Rattle.std.specs.Option.{option_or, option_map_or}
use Rattle.std.specs.List.{list_all}
use Rattle.osc_base.specs.declared.mark.Strength.{Strength}
use Rattle.osc_base.specs.declared.path.Path.{Path}
use Rattle.osc_base.specs.Paths.{same_path}
use Rattle.run_check.specs.keep_rules.Overriding.{overriders, is_default}
use Rattle.run_check.specs.composition.declared.clause.Clause.{Clause}
use Rattle.run_check.specs.composition.declared.spot.PhaseSpot.{PhaseSpot}
use Rattle.run_check.specs.composition.declared.spot.ValueRange.{ValueRange}
use Rattle.run_check.specs.composition.declared.spot.ValueSpot.{ValueSpot}
use Rattle.run_check.specs.composition.declared.run.Run.{Run}
use Rattle.run_check.specs.composition.Scenes.{Scene, Occurrence, ModifierSpot, marks, choices, values, phases, vehicles}
use Rattle.run_check.specs.composition.Ranges.{has_gap}
use Rattle.run_check.specs.composition.declared.run.Choice.{Choice}
use Rattle.run_check.specs.composition.declared.run.Value.{Value}
use Rattle.run_check.specs.composition.declared.run.Span.{Span}
use Rattle.run_check.specs.composition.declared.run.Trace.{Trace}
use Rattle.run_check.specs.composition.declared.spot.ChoiceSpot.{ChoiceSpot}
use Rattle.run_check.specs.composition.There.{is_there, is_asked}
use Rattle.run_check.specs.composition.Slots.{ticks_of}
use Rattle.run_check.specs.composition.Claims.{Claim, claim, claim_at, listed, those_there, listed_claims, end_claim, bounds_claims, choice_in_range, value_in_range, span_in_range, sample_in_range, item_claim, item_claims}
use Rattle.run_check.specs.composition.Items.{Item, OfTyped, OfPhase, OfModifier, OfMotion, item_holds, is_hard, hard_holds, default_holds, arranged_holds, modifier_holds, motion_holds, is_satisfied, is_overridden, occurrence_item, occurrence_items, typed_item, items}
use Rattle.run_check.specs.declared.wrong.Wrong.{Wrong}
use Rattle.run_check.specs.Answers.{wrong_of, first_wrong}
use Rattle.instance_check.specs.FirstWrong.{first_of, wrong_at, first_path_unlisted, first_path_out, hard_wrong, default_wrong, phase_wrong, modifier_wrong, motion_wrong}
use Rattle.run_constraints.specs.FirstConstraints.{is_hard_one, is_untrue, first_hard, first_default}
use Rattle.run_constraints.specs.run_clauses.Listing.{first_path, later, begins_at, first_unlisted}

-- ---- lists of claims

pub first_append : (xs ys : List Claim) → first_of (xs ++ ys) ≡ option_or (first_of xs) (first_of ys)
first_append [] ys = refl
first_append (x ∷ xs) ys = by x.holds (first_append xs ys)
  where
    by : (b : Bool) → first_of (xs ++ ys) ≡ option_or (first_of xs) (first_of ys)
        → option_map wrong_of (cond (not b) (Some x) (find (λ (c : Claim). not c.holds) (xs ++ ys))) ≡ option_or (option_map wrong_of (cond (not b) (Some x) (find (λ (c : Claim). not c.holds) xs))) (first_of ys)
    by true h = h
    by false h = refl

pub first_map : {A : Type 0} (make : A → Claim) (xs : List A) → first_of (map make xs) ≡ option_map (λ a. wrong_of (make a)) (find (λ a. not (make a).holds) xs)
first_map make [] = refl
first_map {A} make (x ∷ xs) = by (make x).holds (first_map make xs)
  where
    by : (b : Bool) → first_of (map make xs) ≡ option_map (λ a. wrong_of (make a)) (find (λ (a : A). not (make a).holds) xs)
        → option_map wrong_of (cond (not b) (Some (make x)) (find (λ (c : Claim). not c.holds) (map make xs))) ≡ option_map (λ a. wrong_of (make a)) (cond (not b) (Some x) (find (λ (a : A). not (make a).holds) xs))
    by true h = h
    by false h = refl

-- all hold: no claim fails
pub none_fails : (cs : List Claim) → list_all (λ (c : Claim). c.holds) cs ≡ true → first_of cs ≡ None
none_fails [] h = refl
none_fails (c ∷ cs) h = by c.holds h (none_fails cs)
  where
    by : (b : Bool) → (b && list_all (λ (d : Claim). d.holds) cs) ≡ true → (list_all (λ (d : Claim). d.holds) cs ≡ true → first_of cs ≡ None)
        → option_map wrong_of (cond (not b) (Some c) (find (λ (d : Claim). not d.holds) cs)) ≡ None
    by true g f = f g
    by false g f = absurd (true≢false (sym g))

-- no claim fails: all hold
pub all_hold : (cs : List Claim) → first_of cs ≡ None → list_all (λ (c : Claim). c.holds) cs ≡ true
all_hold [] h = refl
all_hold (c ∷ cs) h = by c.holds h (all_hold cs)
  where
    by : (b : Bool) → option_map wrong_of (cond (not b) (Some c) (find (λ (d : Claim). not d.holds) cs)) ≡ None → (first_of cs ≡ None → list_all (λ (d : Claim). d.holds) cs ≡ true)
        → (b && list_all (λ (d : Claim). d.holds) cs) ≡ true
    by true g f = f g
    by false g f = cc

-- ---- what is listed

module _ {T U : Type 0} (there : Path → Bool) (p : T → Path) (q : U → Path) where
  abbrev wanted : List T → List Path
  wanted ws = filter there (map p ws)

  listed_ends : (gs : List U) → first_of (listed [] (map q gs)) ≡ option_map (wrong_at Clause.Listed) (first_path q gs)
  listed_ends [] = refl
  listed_ends (g ∷ gs) = refl

  pub first_listed : (ws : List T) (gs : List U) → first_of (listed (wanted ws) (map q gs)) ≡ option_map (wrong_at Clause.Listed) (first_unlisted there p q ws gs)
  first_listed [] gs = listed_ends gs
  first_listed (w ∷ ws) gs = by (there (p w)) gs (first_listed ws)
    where
      same : (b : Bool) (g : U) (more : List U) → first_of (listed (wanted ws) (map q more)) ≡ option_map (wrong_at Clause.Listed) (first_unlisted there p q ws more)
          → option_map wrong_of (cond (not b) (Some (claim Clause.Listed (p w) b)) (find (λ (c : Claim). not c.holds) (listed (wanted ws) (map q more))))
          ≡ option_map (wrong_at Clause.Listed) (option_map_or (λ left. first_unlisted there p q ws left) (cond b (Some more) None) (Some (p w)))
      same true g more h = h
      same false g more h = refl

      by : (b : Bool) (given : List U) → ((more : List U) → first_of (listed (wanted ws) (map q more)) ≡ option_map (wrong_at Clause.Listed) (first_unlisted there p q ws more))
          → first_of (listed (cond b (p w ∷ wanted ws) (wanted ws)) (map q given))
          ≡ option_map (wrong_at Clause.Listed) (option_map_or (λ left. first_unlisted there p q ws left) (cond b (cond (begins_at q (p w) given) (Some (later given)) None) (Some given)) (Some (p w)))
      by true [] f = refl
      by true (g ∷ more) f = same (same_path (p w) (q g)) g more (f more)
      by false given f = f given

-- ---- items

not_either : (a s : Bool) → not (not a || s) ≡ a && not s
not_either true s = refl
not_either false s = refl

not_each : (a o s : Bool) → not (not a || (o || s)) ≡ not o && (a && not s)
not_each true true s = refl
not_each true false s = refl
not_each false true s = refl
not_each false false s = refl

module _ (scene : Scene) (run : Run) where
  abbrev wrongs : List Item → Option Wrong
  wrongs these = first_of (item_claims scene run these)

  pub wrongs_append : (xs ys : List Item) → wrongs (xs ++ ys) ≡ option_or (wrongs xs) (wrongs ys)
  wrongs_append [] ys = refl
  wrongs_append (i ∷ is) ys =
      first_append (item_claim i (item_holds scene run i)) (item_claims scene run (is ++ ys))
      ∙ ap (option_or (first_of (item_claim i (item_holds scene run i)))) (wrongs_append is ys)
      ∙ by (first_of (item_claim i (item_holds scene run i)))
      ∙ ap (λ o. option_or o (wrongs ys)) (sym (first_append (item_claim i (item_holds scene run i)) (item_claims scene run is)))
    where
      by : (o : Option Wrong) → option_or o (option_or (wrongs is) (wrongs ys)) ≡ option_or (option_or o (wrongs is)) (wrongs ys)
      by None = refl
      by (Some w) = refl

  pub filter_append : (t : Item → Bool) (xs ys : List Item) → filter t (xs ++ ys) ≡ filter t xs ++ filter t ys
  filter_append t [] ys = refl
  filter_append t (x ∷ xs) ys = by (t x) (filter_append t xs ys)
    where
      by : (b : Bool) → filter t (xs ++ ys) ≡ filter t xs ++ filter t ys → cond b (x ∷ filter t (xs ++ ys)) (filter t (xs ++ ys)) ≡ cond b (x ∷ filter t xs) (filter t xs) ++ filter t ys
      by true h = ap (λ z. x ∷ z) h
      by false h = h

  abbrev soft : Item → Bool
  soft i = not (is_hard i)

  pub phase_wrongs : (ps : List PhaseSpot) → wrongs (filter soft (map OfPhase ps))
      ≡ option_map (λ (p : PhaseSpot). wrong_of (claim Clause.Arranged p.path false)) (find (λ (p : PhaseSpot). not (arranged_holds scene run p)) ps)
  phase_wrongs [] = refl
  phase_wrongs (p ∷ ps) = by (arranged_holds scene run p) (phase_wrongs ps)
    where
      by : (b : Bool) → wrongs (filter soft (map OfPhase ps)) ≡ option_map (λ (r : PhaseSpot). wrong_of (claim Clause.Arranged r.path false)) (find (λ (r : PhaseSpot). not (arranged_holds scene run r)) ps)
          → option_map wrong_of (cond (not b) (Some (claim Clause.Arranged p.path b)) (find (λ (c : Claim). not c.holds) (item_claims scene run (filter soft (map OfPhase ps)))))
          ≡ option_map (λ (r : PhaseSpot). wrong_of (claim Clause.Arranged r.path false)) (cond (not b) (Some p) (find (λ (r : PhaseSpot). not (arranged_holds scene run r)) ps))
      by true h = h
      by false h = refl

  -- the claims of one modifier, or of one vehicle, at some ticks
  module _ (make : ℕ → Item) (at : Claim) (test : ℕ → Bool) (fails : at.holds ≡ false)
      (is : (t : ℕ) → soft (make t) ≡ true) (claimed : (t : ℕ) → item_claim (make t) (item_holds scene run (make t)) ≡ record at { holds = test t } ∷ []) where
    pub tick_wrongs : (ts : List ℕ) → wrongs (filter soft (map make ts)) ≡ cond (list_all test ts) None (Some (wrong_of at))
    tick_wrongs [] = refl
    tick_wrongs (t ∷ ts) =
        ap (λ b. wrongs (cond b (make t ∷ filter soft (map make ts)) (filter soft (map make ts)))) (is t)
        ∙ ap (λ cs. first_of (cs ++ item_claims scene run (filter soft (map make ts)))) (claimed t)
        ∙ by (test t) (tick_wrongs ts)
      where
        by : (b : Bool) → wrongs (filter soft (map make ts)) ≡ cond (list_all test ts) None (Some (wrong_of at))
            → option_map wrong_of (cond (not b) (Some (record at { holds = b })) (find (λ (c : Claim). not c.holds) (item_claims scene run (filter soft (map make ts)))))
            ≡ cond (b && list_all test ts) None (Some (wrong_of at))
        by true h = h
        by false h = refl

  pub modifier_wrongs : (ticks : List ℕ) (ms : List ModifierSpot) → wrongs (filter soft (flat_map (λ m. map (OfModifier m) ticks) ms))
      ≡ option_map (λ (m : ModifierSpot). wrong_of (claim_at Clause.Modifier m.phase m.place false)) (find (λ (m : ModifierSpot). not (list_all (modifier_holds scene run m) ticks)) ms)
  modifier_wrongs ticks [] = refl
  modifier_wrongs ticks (m ∷ ms) =
      ap wrongs (filter_append soft (map (OfModifier m) ticks) (flat_map (λ m. map (OfModifier m) ticks) ms))
      ∙ wrongs_append (filter soft (map (OfModifier m) ticks)) (filter soft (flat_map (λ m. map (OfModifier m) ticks) ms))
      ∙ ap₂ option_or (tick_wrongs (OfModifier m) (claim_at Clause.Modifier m.phase m.place false) (modifier_holds scene run m) refl (λ t. refl) (λ t. refl) ticks) (modifier_wrongs ticks ms)
      ∙ by (list_all (modifier_holds scene run m) ticks) (find (λ (n : ModifierSpot). not (list_all (modifier_holds scene run n) ticks)) ms)
    where
      by : (b : Bool) (o : Option ModifierSpot) → option_or (cond b None (Some (wrong_of (claim_at Clause.Modifier m.phase m.place false)))) (option_map (λ (n : ModifierSpot). wrong_of (claim_at Clause.Modifier n.phase n.place false)) o)
          ≡ option_map (λ (n : ModifierSpot). wrong_of (claim_at Clause.Modifier n.phase n.place false)) (cond (not b) (Some m) o)
      by true o = refl
      by false o = refl

  pub motion_wrongs : (ticks : List ℕ) (vs : List Path) → wrongs (filter soft (flat_map (λ v. map (OfMotion v) ticks) vs))
      ≡ option_map (λ (v : Path). wrong_of (claim Clause.Motion v false)) (find (λ (v : Path). not (list_all (motion_holds scene run v) ticks)) vs)
  motion_wrongs ticks [] = refl
  motion_wrongs ticks (v ∷ vs) =
      ap wrongs (filter_append soft (map (OfMotion v) ticks) (flat_map (λ v. map (OfMotion v) ticks) vs))
      ∙ wrongs_append (filter soft (map (OfMotion v) ticks)) (filter soft (flat_map (λ v. map (OfMotion v) ticks) vs))
      ∙ ap₂ option_or (tick_wrongs (OfMotion v) (claim Clause.Motion v false) (motion_holds scene run v) refl (λ t. refl) (λ t. refl) ticks) (motion_wrongs ticks vs)
      ∙ by (list_all (motion_holds scene run v) ticks) (find (λ (w : Path). not (list_all (motion_holds scene run w) ticks)) vs)
    where
      by : (b : Bool) (o : Option Path) → option_or (cond b None (Some (wrong_of (claim Clause.Motion v false)))) (option_map (λ (w : Path). wrong_of (claim Clause.Motion w false)) o)
          ≡ option_map (λ (w : Path). wrong_of (claim Clause.Motion w false)) (cond (not b) (Some v) o)
      by true o = refl
      by false o = refl

  -- an enum's value has no claim of its own
  pub typed_wrongs : (vs : List ValueSpot) → wrongs (filter soft (flat_map (λ v. typed_item v.path v.range) vs)) ≡ None
  typed_wrongs [] = refl
  typed_wrongs (v ∷ vs) =
      ap wrongs (filter_append soft (typed_item v.path v.range) (flat_map (λ v. typed_item v.path v.range) vs))
      ∙ wrongs_append (filter soft (typed_item v.path v.range)) (filter soft (flat_map (λ v. typed_item v.path v.range) vs))
      ∙ ap₂ option_or (by v.range) (typed_wrongs vs)
    where
      gap : (numbers : List _) (b : Bool) → wrongs (filter soft (cond b (OfTyped v.path numbers ∷ []) [])) ≡ None
      gap numbers true = refl
      gap numbers false = refl

      by : (r : ValueRange) → wrongs (filter soft (typed_item v.path r)) ≡ None
      by (ValueRange.Between low high) = refl
      by (ValueRange.Among numbers) = gap numbers (has_gap numbers)
      by ValueRange.Chars = refl

  -- ---- constraints

  abbrev at_hard : Occurrence → Wrong
  at_hard o = wrong_of (claim_at Clause.Hard o.holder o.place false)

  abbrev at_default : Occurrence → Wrong
  at_default o = wrong_of (claim_at Clause.Default o.holder o.place false)

  pub hard_wrongs : (i : ℕ) (os : List Occurrence) → wrongs (filter is_hard (occurrence_items scene i os)) ≡ option_map at_hard (first_hard scene run os)
  hard_wrongs i [] = refl
  hard_wrongs i (o ∷ os) = by o.mark.strength (hard_wrongs (i + 1) os)
    where
      hard : (b : Bool) → wrongs (filter is_hard (occurrence_items scene (i + 1) os)) ≡ option_map at_hard (first_hard scene run os)
          → option_map wrong_of (cond (not b) (Some (claim_at Clause.Hard o.holder o.place b)) (find (λ (c : Claim). not c.holds) (item_claims scene run (filter is_hard (occurrence_items scene (i + 1) os)))))
          ≡ option_map at_hard (cond (not b) (Some o) (first_hard scene run os))
      hard true h = h
      hard false h = refl

      by : (s : Strength) → wrongs (filter is_hard (occurrence_items scene (i + 1) os)) ≡ option_map at_hard (first_hard scene run os)
          → wrongs (filter is_hard (occurrence_item scene i s o ++ occurrence_items scene (i + 1) os))
          ≡ option_map at_hard (cond (is_hard_one s && is_untrue scene run o) (Some o) (first_hard scene run os))
      by Strength.Hard h =
          hard (hard_holds scene run o) h
          ∙ ap (λ u. option_map at_hard (cond u (Some o) (first_hard scene run os))) (not_either (is_asked scene run o) (is_satisfied scene run o))
      by Strength.Default h = h
      by Strength.Remove h = h

  pub default_wrongs : (i : ℕ) (os : List Occurrence) → wrongs (filter soft (occurrence_items scene i os)) ≡ option_map at_default (first_default scene run i os)
  default_wrongs i [] = refl
  default_wrongs i (o ∷ os) = by o.mark.strength (default_wrongs (i + 1) os)
    where
      test : (b : Bool) → wrongs (filter soft (occurrence_items scene (i + 1) os)) ≡ option_map at_default (first_default scene run (i + 1) os)
          → option_map wrong_of (cond (not b) (Some (claim_at Clause.Default o.holder o.place b)) (find (λ (c : Claim). not c.holds) (item_claims scene run (filter soft (occurrence_items scene (i + 1) os)))))
          ≡ option_map at_default (cond (not b) (Some o) (first_default scene run (i + 1) os))
      test true h = h
      test false h = refl

      by : (s : Strength) → wrongs (filter soft (occurrence_items scene (i + 1) os)) ≡ option_map at_default (first_default scene run (i + 1) os)
          → wrongs (filter soft (occurrence_item scene i s o ++ occurrence_items scene (i + 1) os))
          ≡ option_map at_default (cond ((is_default s && not (is_overridden scene run (overriders (marks scene) i))) && is_untrue scene run o) (Some o) (first_default scene run (i + 1) os))
      by Strength.Hard h = h
      by Strength.Default h =
          test (default_holds scene run (overriders (marks scene) i) o) h
          ∙ ap (λ u. option_map at_default (cond u (Some o) (first_default scene run (i + 1) os)))
          (not_each (is_asked scene run o) (is_overridden scene run (overriders (marks scene) i)) (is_satisfied scene run o))
      by Strength.Remove h = h

  -- ---- only constraints are hard

  none_map : {A : Type 0} (make : A → Item) → ((a : A) → is_hard (make a) ≡ false) → (xs : List A) → filter is_hard (map make xs) ≡ []
  none_map make h [] = refl
  none_map make h (x ∷ xs) = ap (λ b. cond b (make x ∷ filter is_hard (map make xs)) (filter is_hard (map make xs))) (h x) ∙ none_map make h xs

  none_flat : {A : Type 0} (rows : A → List Item) → ((a : A) → filter is_hard (rows a) ≡ []) → (xs : List A) → filter is_hard (flat_map rows xs) ≡ []
  none_flat rows h [] = refl
  none_flat rows h (x ∷ xs) = filter_append is_hard (rows x) (flat_map rows xs) ∙ ap₂ (λ a b. a ++ b) (h x) (none_flat rows h xs)

  none_typed : (v : ValueSpot) → filter is_hard (typed_item v.path v.range) ≡ []
  none_typed v = by v.range
    where
      gap : (numbers : List _) (b : Bool) → filter is_hard (cond b (OfTyped v.path numbers ∷ []) []) ≡ []
      gap numbers true = refl
      gap numbers false = refl

      by : (r : ValueRange) → filter is_hard (typed_item v.path r) ≡ []
      by (ValueRange.Between low high) = refl
      by (ValueRange.Among numbers) = gap numbers (has_gap numbers)
      by ValueRange.Chars = refl

  -- the parts of the items
  abbrev of_typed : List Item
  of_typed = flat_map (λ (v : ValueSpot). typed_item v.path v.range) (values scene)

  abbrev of_phases : List Item
  of_phases = map OfPhase (phases scene)

  abbrev of_modifiers : List Item
  of_modifiers = flat_map (λ (m : ModifierSpot). map (OfModifier m) (ticks_of scene.setting)) scene.modifiers

  abbrev of_vehicles : List Item
  of_vehicles = flat_map (λ (v : Path). map (OfMotion v) (ticks_of scene.setting)) (vehicles scene)

  abbrev of_constraints : List Item
  of_constraints = occurrence_items scene 0 scene.occurrences

  -- the first wrong of the items that pass a test, part by part
  parts_wrongs : (t : Item → Bool) → wrongs (filter t (items scene))
      ≡ option_or (option_or (option_or (option_or (wrongs (filter t of_constraints)) (wrongs (filter t of_typed))) (wrongs (filter t of_phases))) (wrongs (filter t of_modifiers))) (wrongs (filter t of_vehicles))
  parts_wrongs t =
      split (of_constraints ++ of_typed ++ of_phases ++ of_modifiers) of_vehicles
      ∙ ap (λ o. option_or o (wrongs (filter t of_vehicles))) (split (of_constraints ++ of_typed ++ of_phases) of_modifiers
      ∙ ap (λ o. option_or o (wrongs (filter t of_modifiers))) (split (of_constraints ++ of_typed) of_phases
      ∙ ap (λ o. option_or o (wrongs (filter t of_phases))) (split of_constraints of_typed)))
    where
      split : (xs ys : List Item) → wrongs (filter t (xs ++ ys)) ≡ option_or (wrongs (filter t xs)) (wrongs (filter t ys))
      split xs ys = ap wrongs (filter_append t xs ys) ∙ wrongs_append (filter t xs) (filter t ys)

  pub all_hard_wrongs : wrongs (filter is_hard (items scene)) ≡ hard_wrong scene run
  all_hard_wrongs =
      parts_wrongs is_hard
      ∙ (λ i. option_or (option_or (option_or (option_or (hard_wrongs 0 scene.occurrences i) (wrongs (none_flat (λ (v : ValueSpot). typed_item v.path v.range) none_typed (values scene) i)))
      (wrongs (none_map OfPhase (λ p. refl) (phases scene) i)))
      (wrongs (none_flat (λ (m : ModifierSpot). map (OfModifier m) (ticks_of scene.setting)) (λ m. none_map (OfModifier m) (λ t. refl) (ticks_of scene.setting)) scene.modifiers i)))
      (wrongs (none_flat (λ (v : Path). map (OfMotion v) (ticks_of scene.setting)) (λ v. none_map (OfMotion v) (λ t. refl) (ticks_of scene.setting)) (vehicles scene) i)))
      ∙ by (hard_wrong scene run)
    where
      by : (o : Option Wrong) → option_or (option_or (option_or (option_or o None) None) None) None ≡ o
      by None = refl
      by (Some w) = refl

  pub all_soft_wrongs : wrongs (filter soft (items scene))
      ≡ option_or (default_wrong scene run) (option_or (phase_wrong scene run) (option_or (modifier_wrong scene run) (motion_wrong scene run)))
  all_soft_wrongs =
      parts_wrongs soft
      ∙ (λ i. option_or (option_or (option_or (option_or (default_wrongs 0 scene.occurrences i) (typed_wrongs (values scene) i)) (phase_wrongs (phases scene) i))
      (modifier_wrongs (ticks_of scene.setting) scene.modifiers i)) (motion_wrongs (ticks_of scene.setting) (vehicles scene) i))
      ∙ by (default_wrong scene run) (phase_wrong scene run) (modifier_wrong scene run) (motion_wrong scene run)
    where
      by : (a b c d : Option Wrong) → option_or (option_or (option_or (option_or a None) b) c) d ≡ option_or a (option_or b (option_or c d))
      by None None None d = refl
      by None None (Some x) d = refl
      by None (Some x) c d = refl
      by (Some x) b c d = refl

  -- ---- lists and bounds

  map_or : (f : Path → Wrong) (a b : Option Path) → option_or (option_map f a) (option_map f b) ≡ option_map f (option_or a b)
  map_or f None b = refl
  map_or f (Some x) b = refl

  map_map : {A : Type 0} (f : Path → Wrong) (g : A → Path) (o : Option A) → option_map (λ a. f (g a)) o ≡ option_map f (option_map g o)
  map_map f g None = refl
  map_map f g (Some x) = refl

  abbrev four : (f : Path → Wrong) (a b c d : Option Path) → option_or (option_or (option_or (option_map f a) (option_map f b)) (option_map f c)) (option_map f d) ≡ option_map f (option_or (option_or (option_or a b) c) d)
  four f a b c d =
      ap (λ o. option_or o (option_map f d)) (ap (λ o. option_or o (option_map f c)) (map_or f a b) ∙ map_or f (option_or a b) c) ∙ map_or f (option_or (option_or a b) c) d

  pub listed_wrongs : first_of (listed_claims scene run) ≡ option_map (wrong_at Clause.Listed) (first_path_unlisted scene run)
  listed_wrongs =
      let there = is_there scene run in
      let l1 = listed (those_there scene run (map (λ (c : ChoiceSpot). c.path) (choices scene))) (map (λ (c : Choice). c.path) run.choices) in
      let l2 = listed (those_there scene run (map (λ (v : ValueSpot). v.path) (values scene))) (map (λ (v : Value). v.path) run.values) in
      let l3 = listed (those_there scene run (map (λ (p : PhaseSpot). p.path) (phases scene))) (map (λ (p : Span). p.path) run.phases) in
      let l4 = listed (those_there scene run (vehicles scene)) (map (λ (t : Trace). t.path) run.traces) in
      let l5 = map (λ (t : Trace). claim Clause.Listed t.path (nat_eq (length t.samples) (run.end + 1))) run.traces in
      let u1 = first_unlisted there (λ (c : ChoiceSpot). c.path) (λ (c : Choice). c.path) (choices scene) run.choices in
      let u2 = first_unlisted there (λ (v : ValueSpot). v.path) (λ (v : Value). v.path) (values scene) run.values in
      let u3 = first_unlisted there (λ (p : PhaseSpot). p.path) (λ (p : Span). p.path) (phases scene) run.phases in
      let u4 = first_unlisted there (λ (v : Path). v) (λ (t : Trace). t.path) (vehicles scene) run.traces in
      let u5 = option_map (λ (t : Trace). t.path) (find (λ (t : Trace). not (nat_eq (length t.samples) (run.end + 1))) run.traces) in
      first_append (l1 ++ l2 ++ l3 ++ l4) l5
      ∙ ap (λ o. option_or o (first_of l5)) (first_append (l1 ++ l2 ++ l3) l4
      ∙ ap (λ o. option_or o (first_of l4)) (first_append (l1 ++ l2) l3
      ∙ ap (λ o. option_or o (first_of l3)) (first_append l1 l2)))
      ∙ (λ i. option_or (option_or (option_or (option_or (first_listed there (λ (c : ChoiceSpot). c.path) (λ (c : Choice). c.path) (choices scene) run.choices i)
      (first_listed there (λ (v : ValueSpot). v.path) (λ (v : Value). v.path) (values scene) run.values i))
      (first_listed there (λ (p : PhaseSpot). p.path) (λ (p : Span). p.path) (phases scene) run.phases i))
      (vehicles_listed i))
      ((first_map (λ (t : Trace). claim Clause.Listed t.path (nat_eq (length t.samples) (run.end + 1))) run.traces
      ∙ map_map (wrong_at Clause.Listed) (λ (t : Trace). t.path) (find (λ (t : Trace). not (nat_eq (length t.samples) (run.end + 1))) run.traces)) i))
      ∙ ap (λ o. option_or o (option_map (wrong_at Clause.Listed) u5)) (four (wrong_at Clause.Listed) u1 u2 u3 u4)
      ∙ map_or (wrong_at Clause.Listed) (option_or (option_or (option_or u1 u2) u3) u4) u5
    where
      mapped : (xs : List Path) → map (λ (v : Path). v) xs ≡ xs
      mapped [] = refl
      mapped (x ∷ xs) = ap (λ z. x ∷ z) (mapped xs)

      vehicles_listed : first_of (listed (those_there scene run (vehicles scene)) (map (λ (t : Trace). t.path) run.traces))
          ≡ option_map (wrong_at Clause.Listed) (first_unlisted (is_there scene run) (λ (v : Path). v) (λ (t : Trace). t.path) (vehicles scene) run.traces)
      vehicles_listed =
          ap (λ ps. first_of (listed (filter (is_there scene run) ps) (map (λ (t : Trace). t.path) run.traces))) (sym (mapped (vehicles scene)))
          ∙ first_listed (is_there scene run) (λ (v : Path). v) (λ (t : Trace). t.path) (vehicles scene) run.traces

  pub bounds_wrongs : first_of (bounds_claims scene run) ≡ option_map (wrong_at Clause.Bounds) (first_path_out scene run)
  bounds_wrongs =
      let b1 = map (λ (c : Choice). claim Clause.Bounds c.path (choice_in_range scene c)) run.choices in
      let b2 = map (λ (v : Value). claim Clause.Bounds v.path (value_in_range scene v)) run.values in
      let b3 = map (λ (s : Span). claim Clause.Bounds s.path (span_in_range scene.setting s)) run.phases in
      let b4 = map (λ (t : Trace). claim Clause.Bounds t.path (list_all (sample_in_range scene.setting) t.samples)) run.traces in
      let u1 = option_map (λ (c : Choice). c.path) (find (λ (c : Choice). not (choice_in_range scene c)) run.choices) in
      let u2 = option_map (λ (v : Value). v.path) (find (λ (v : Value). not (value_in_range scene v)) run.values) in
      let u3 = option_map (λ (s : Span). s.path) (find (λ (s : Span). not (span_in_range scene.setting s)) run.phases) in
      let u4 = option_map (λ (t : Trace). t.path) (find (λ (t : Trace). not (list_all (sample_in_range scene.setting) t.samples)) run.traces) in
      first_append (b1 ++ b2 ++ b3) b4
      ∙ ap (λ o. option_or o (first_of b4)) (first_append (b1 ++ b2) b3 ∙ ap (λ o. option_or o (first_of b3)) (first_append b1 b2))
      ∙ (λ i. option_or (option_or (option_or
      (row (λ (c : Choice). c.path) (choice_in_range scene) run.choices i)
      (row (λ (v : Value). v.path) (value_in_range scene) run.values i))
      (row (λ (s : Span). s.path) (span_in_range scene.setting) run.phases i))
      (row (λ (t : Trace). t.path) (λ (t : Trace). list_all (sample_in_range scene.setting) t.samples) run.traces i))
      ∙ four (wrong_at Clause.Bounds) u1 u2 u3 u4
    where
      row : {A : Type 0} (path : A → Path) (test : A → Bool) (xs : List A)
          → first_of (map (λ a. claim Clause.Bounds (path a) (test a)) xs) ≡ option_map (wrong_at Clause.Bounds) (option_map path (find (λ a. not (test a)) xs))
      row path test xs = first_map (λ a. claim Clause.Bounds (path a) (test a)) xs ∙ map_map (wrong_at Clause.Bounds) path (find (λ a. not (test a)) xs)

  -- ---- all

  -- the lists, the end and the bounds
  abbrev outer_claims : List Claim
  outer_claims = listed_claims scene run ++ end_claim scene run ∷ [] ++ bounds_claims scene run

  pub outer_wrongs : first_of outer_claims
      ≡ option_or (option_or (option_map (wrong_at Clause.Listed) (first_path_unlisted scene run)) (first_of (end_claim scene run ∷ []))) (option_map (wrong_at Clause.Bounds) (first_path_out scene run))
  outer_wrongs =
      first_append (listed_claims scene run ++ end_claim scene run ∷ []) (bounds_claims scene run)
      ∙ ap (λ o. option_or o (first_of (bounds_claims scene run))) (first_append (listed_claims scene run) (end_claim scene run ∷ []))
      ∙ (λ i. option_or (option_or (listed_wrongs i) (first_of (end_claim scene run ∷ []))) (bounds_wrongs i))

  pub all_wrongs : first_wrong scene run
      ≡ option_or (first_of outer_claims)
      (option_or (hard_wrong scene run) (option_or (default_wrong scene run) (option_or (phase_wrong scene run) (option_or (modifier_wrong scene run) (motion_wrong scene run)))))
  all_wrongs =
      first_append (outer_claims ++ item_claims scene run (filter is_hard (items scene))) (item_claims scene run (filter soft (items scene)))
      ∙ ap (λ o. option_or o (wrongs (filter soft (items scene)))) (first_append outer_claims (item_claims scene run (filter is_hard (items scene))))
      ∙ (λ i. option_or (option_or (first_of outer_claims) (all_hard_wrongs i)) (all_soft_wrongs i))
      ∙ by (first_of outer_claims) (hard_wrong scene run) (option_or (default_wrong scene run) (option_or (phase_wrong scene run) (option_or (modifier_wrong scene run) (motion_wrong scene run))))
    where
      by : (a b c : Option Wrong) → option_or (option_or a b) c ≡ option_or a (option_or b c)
      by None b c = refl
      by (Some x) b c = refl

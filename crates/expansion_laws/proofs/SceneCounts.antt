-- The numbers of objects, slots and rules of a scene, as sums over its lists.
use Rattle.std.proofs.Common.{◌≡◌, ℕ, ◌+◌, ◌*◌, Bool, true, false, cond, List, [], ◌∷◌, ◌++◌, ◌∙◌, length, map, filter, filter_map, flat_map, refl, ap, ap₂, arith, length-append}
use Rattle.std.specs.Prelude.{◌≤◌, sum_by}
use Rattle.std.specs.List.{cons_option}
use Rattle.std.proofs.lemmas.List.{length-map}
use Rattle.std.proofs.lemmas.List.Sums.{sum_by-cons}
use Rattle.std.proofs.lemmas.List.FromFn.{length-range_with_len, length-map-range_with_len}
use Rattle.composition.specs.osc_base.declared.path.Path.{Path}
use Rattle.composition.specs.osc_base.declared.mark.Strength.{Strength}
use Rattle.composition.specs.osc_base.declared.listing.SlotName.{SlotName}
use Rattle.composition.specs.declared.spot.ValueRange.{ValueRange}
use Rattle.composition.specs.declared.spot.ValueSpot.{ValueSpot}
use Rattle.composition.specs.declared.spot.ChoiceSpot.{ChoiceSpot}
use Rattle.composition.specs.declared.spot.PhaseSpot.{PhaseSpot}
use Rattle.composition.specs.declared.spot.PhaseKind.{PhaseKind}
use Rattle.composition.specs.Scenes.{Content, Spot, Scene, Occurrence, ModifierSpot, choice_spot, value_spot, phase_spot, vehicle_spot, is_one_of, choices, values, phases, vehicles}
use Rattle.composition.specs.Slots.{ticks_of, sample_names, slot_names}
use Rattle.composition.specs.Ranges.{has_gap}
use Rattle.composition.specs.Items.{Item, OfTyped, OfPhase, OfModifier, OfMotion, occurrence_item, occurrence_items, typed_item, items}
use Rattle.composition.specs.Expanded.{can_be_asked, can_apply, with_readable}
use Rattle.composition.specs.SceneFaults.{is_object_spot, object_count}
use Rattle.expansion_laws.specs.Counts.{total, content_objects, spot_objects, content_slots, spot_slots, range_rules, content_rules, spot_rules, strength_rules, samples_of}

-- lists

-- a total as std has it
pub total_is : {X : Type 0} (f : X → ℕ) (xs : List X) → sum_by f xs ≡ total f xs
total_is f [] = refl
total_is f (x ∷ xs) = sum_by-cons f x xs ∙ ap (λ n. f x + n) (total_is f xs)

flat_length : {X Y : Type 0} (f : X → List Y) (g : X → ℕ) → ((x : X) → length (f x) ≡ g x) → (xs : List X) → length (flat_map f xs) ≡ total g xs
flat_length f g same [] = refl
flat_length f g same (x ∷ xs) = length-append (f x) (flat_map f xs) ∙ ap₂ (λ n m. n + m) (same x) (flat_length f g same xs)

-- ---- objects

object_step : (s : Spot) (ss : List Spot) → length (filter (λ (s : Spot). is_object_spot s.content) (s ∷ ss)) ≡ spot_objects s + length (filter (λ (s : Spot). is_object_spot s.content) ss)
object_step s ss = cases s.content
  where
    cases : (k : Content) → length (cond (is_object_spot k) (s ∷ filter (λ (s : Spot). is_object_spot s.content) ss) (filter (λ (s : Spot). is_object_spot s.content) ss)) ≡ content_objects k + length (filter (λ (s : Spot). is_object_spot s.content) ss)
    cases (Content.Object vehicle) = omega arith
    cases (Content.Value range) = omega arith
    cases (Content.Phase kind members) = omega arith

objects_among : (ss : List Spot) → length (filter (λ (s : Spot). is_object_spot s.content) ss) ≡ total spot_objects ss
objects_among [] = refl
objects_among (s ∷ ss) = object_step s ss ∙ ap (λ n. spot_objects s + n) (objects_among ss)

pub objects_are : (scene : Scene) → object_count scene ≡ total spot_objects scene.spots
objects_are scene = objects_among scene.spots

-- ---- slots

-- the slots of four lists
abbrev four : ℕ → List ChoiceSpot → List PhaseSpot → List ValueSpot → List Path → ℕ
four samples cs ps vs hs = length cs + total (λ (p : PhaseSpot). 2) ps + length vs + total (λ (h : Path). samples) hs

slot_step : (samples : ℕ) (path : Path) (k : Content) (cs : List ChoiceSpot) (ps : List PhaseSpot) (vs : List ValueSpot) (hs : List Path)
    → four samples (cons_option (choice_spot path k) cs) (cons_option (phase_spot path k) ps) (cons_option (value_spot path k) vs) (cons_option (vehicle_spot path k) hs)
    ≡ content_slots samples k + four samples cs ps vs hs
slot_step samples path (Content.Object true) cs ps vs hs = omega arith
slot_step samples path (Content.Object false) cs ps vs hs = omega arith
slot_step samples path (Content.Value range) cs ps vs hs = omega arith
slot_step samples path (Content.Phase PhaseKind.OneOf members) cs ps vs hs = omega arith
slot_step samples path (Content.Phase PhaseKind.Serial members) cs ps vs hs = omega arith
slot_step samples path (Content.Phase PhaseKind.Start members) cs ps vs hs = omega arith
slot_step samples path (Content.Phase PhaseKind.End members) cs ps vs hs = omega arith
slot_step samples path (Content.Phase PhaseKind.Equal members) cs ps vs hs = omega arith
slot_step samples path (Content.Phase PhaseKind.Any members) cs ps vs hs = omega arith
slot_step samples path (Content.Phase PhaseKind.Scenario members) cs ps vs hs = omega arith
slot_step samples path (Content.Phase PhaseKind.Action members) cs ps vs hs = omega arith
slot_step samples path (Content.Phase PhaseKind.Wait members) cs ps vs hs = omega arith

slots_among : (samples : ℕ) (ss : List Spot)
    → four samples (filter_map (λ (s : Spot). choice_spot s.path s.content) ss) (filter_map (λ (s : Spot). phase_spot s.path s.content) ss)
    (filter_map (λ (s : Spot). value_spot s.path s.content) ss) (filter_map (λ (s : Spot). vehicle_spot s.path s.content) ss)
    ≡ total (spot_slots samples) ss
slots_among samples [] = refl
slots_among samples (s ∷ ss) =
    slot_step samples s.path s.content _ _ _ _ ∙ ap (λ n. spot_slots samples s + n) (slots_among samples ss)

samples_length : (scene : Scene) (v : Path) → length (flat_map (sample_names v) (ticks_of scene.setting)) ≡ samples_of scene.setting.ticks
samples_length scene v =
    flat_length (sample_names v) (λ t. 3) (λ t. refl) (ticks_of scene.setting)
    ∙ threes (ticks_of scene.setting) ∙ ap (λ n. 3 * n) (length-range_with_len 0 (scene.setting.ticks + 1))
  where
    threes : (ts : List ℕ) → total (λ (t : ℕ). 3) ts ≡ 3 * length ts
    threes [] = refl
    threes (t ∷ ts) = let more = threes ts in omega arith

pub slots_are : (scene : Scene) → length (slot_names scene) ≡ total (spot_slots (samples_of scene.setting.ticks)) scene.spots
slots_are scene =
    let cs : List SlotName = map (λ (c : ChoiceSpot). SlotName.Choice c.path) (choices scene) in
    let ps : List SlotName = flat_map (λ (p : PhaseSpot). SlotName.Start p.path ∷ SlotName.End p.path ∷ []) (phases scene) in
    let vs : List SlotName = map (λ (v : ValueSpot). SlotName.Value v.path) (values scene) in
    let hs : List SlotName = flat_map (λ v. flat_map (sample_names v) (ticks_of scene.setting)) (vehicles scene) in
    let all : length (cs ++ ps ++ vs ++ hs) ≡ length cs + length ps + length vs + length hs =
    length-append (cs ++ ps ++ vs) hs ∙ ap (λ n. n + length hs) (length-append (cs ++ ps) vs ∙ ap (λ n. n + length vs) (length-append cs ps)) in
    let c : length cs ≡ length (choices scene) = length-map (choices scene) (λ (c : ChoiceSpot). SlotName.Choice c.path) in
    let v : length vs ≡ length (values scene) = length-map (values scene) (λ (v : ValueSpot). SlotName.Value v.path) in
    let p : length ps ≡ total (λ (p : PhaseSpot). 2) (phases scene) = flat_length (λ (p : PhaseSpot). SlotName.Start p.path ∷ SlotName.End p.path ∷ []) (λ p. 2) (λ p. refl) (phases scene) in
    let h : length hs ≡ total (λ (h : Path). samples_of scene.setting.ticks) (vehicles scene) =
    flat_length (λ v. flat_map (sample_names v) (ticks_of scene.setting)) (λ h. samples_of scene.setting.ticks) (samples_length scene) (vehicles scene) in
    all ∙ ap₂ (λ n m. n + m) (ap₂ (λ n m. n + m) (ap₂ (λ n m. n + m) c p) v) h ∙ slots_among (samples_of scene.setting.ticks) scene.spots

-- ---- rules

-- the rules of three lists
abbrev three : ℕ → List ValueSpot → List PhaseSpot → List Path → ℕ
three ticks vs ps hs = total (λ (v : ValueSpot). range_rules v.range) vs + length ps + total (λ (h : Path). ticks) hs

rule_step : (ticks : ℕ) (path : Path) (k : Content) (vs : List ValueSpot) (ps : List PhaseSpot) (hs : List Path)
    → three ticks (cons_option (value_spot path k) vs) (cons_option (phase_spot path k) ps) (cons_option (vehicle_spot path k) hs) ≡ content_rules ticks k + three ticks vs ps hs
rule_step ticks path (Content.Object true) vs ps hs = omega arith
rule_step ticks path (Content.Object false) vs ps hs = omega arith
rule_step ticks path (Content.Value range) vs ps hs = omega arith
rule_step ticks path (Content.Phase kind members) vs ps hs = omega arith

rules_among : (ticks : ℕ) (ss : List Spot)
    → three ticks (filter_map (λ (s : Spot). value_spot s.path s.content) ss) (filter_map (λ (s : Spot). phase_spot s.path s.content) ss) (filter_map (λ (s : Spot). vehicle_spot s.path s.content) ss)
    ≡ total (spot_rules ticks) ss
rules_among ticks [] = refl
rules_among ticks (s ∷ ss) = rule_step ticks s.path s.content _ _ _ ∙ ap (λ n. spot_rules ticks s + n) (rules_among ticks ss)

gap_length : (path : Path) (range : ValueRange) → length (typed_item path range) ≡ range_rules range
gap_length path (ValueRange.Between low high) = refl
gap_length path (ValueRange.Among numbers) = gap (has_gap numbers)
  where
    gap : (b : Bool) → length (cond b (OfTyped path numbers ∷ []) []) ≡ cond b 1 0
    gap true = refl
    gap false = refl
gap_length path ValueRange.Chars = refl

strength_length : (scene : Scene) (i : ℕ) (s : Strength) (o : Occurrence) → length (occurrence_item scene i s o) ≡ strength_rules s
strength_length scene i Strength.Hard o = refl
strength_length scene i Strength.Default o = refl
strength_length scene i Strength.Remove o = refl

occurrences_length : (scene : Scene) (i : ℕ) (os : List Occurrence) → length (occurrence_items scene i os) ≡ total (λ (o : Occurrence). strength_rules o.mark.strength) os
occurrences_length scene i [] = refl
occurrences_length scene i (o ∷ os) =
    length-append (occurrence_item scene i o.mark.strength o) (occurrence_items scene (i + 1) os)
    ∙ ap₂ (λ n m. n + m) (strength_length scene i o.mark.strength o) (occurrences_length scene (i + 1) os)

ticks_length : {X : Type 0} (scene : Scene) (f : ℕ → X) → length (map f (ticks_of scene.setting)) ≡ scene.setting.ticks + 1
ticks_length scene f = length-map-range_with_len f 0 (scene.setting.ticks + 1)

pub rules_are : (scene : Scene)
    → length (items scene)
    ≡ total (λ (o : Occurrence). strength_rules o.mark.strength) scene.occurrences + (total (spot_rules (scene.setting.ticks + 1)) scene.spots + total (λ (m : ModifierSpot). scene.setting.ticks + 1) scene.modifiers)
rules_are scene =
    let os : List Item = occurrence_items scene 0 scene.occurrences in
    let gs : List Item = flat_map (λ (v : ValueSpot). typed_item v.path v.range) (values scene) in
    let ps : List Item = map OfPhase (phases scene) in
    let ms : List Item = flat_map (λ m. map (OfModifier m) (ticks_of scene.setting)) scene.modifiers in
    let hs : List Item = flat_map (λ v. map (OfMotion v) (ticks_of scene.setting)) (vehicles scene) in
    let all : length (os ++ gs ++ ps ++ ms ++ hs) ≡ length os + length gs + length ps + length ms + length hs =
    length-append (os ++ gs ++ ps ++ ms) hs
    ∙ ap (λ n. n + length hs) (length-append (os ++ gs ++ ps) ms ∙ ap (λ n. n + length ms) (length-append (os ++ gs) ps ∙ ap (λ n. n + length ps) (length-append os gs))) in
    let o : length os ≡ total (λ (o : Occurrence). strength_rules o.mark.strength) scene.occurrences = occurrences_length scene 0 scene.occurrences in
    let g : length gs ≡ total (λ (v : ValueSpot). range_rules v.range) (values scene) =
    flat_length (λ (v : ValueSpot). typed_item v.path v.range) (λ v. range_rules v.range) (λ v. gap_length v.path v.range) (values scene) in
    let p : length ps ≡ length (phases scene) = length-map (phases scene) OfPhase in
    let m : length ms ≡ total (λ (m : ModifierSpot). scene.setting.ticks + 1) scene.modifiers =
    flat_length (λ m. map (OfModifier m) (ticks_of scene.setting)) (λ m. scene.setting.ticks + 1) (λ m. ticks_length scene (OfModifier m)) scene.modifiers in
    let h : length hs ≡ total (λ (h : Path). scene.setting.ticks + 1) (vehicles scene) =
    flat_length (λ v. map (OfMotion v) (ticks_of scene.setting)) (λ h. scene.setting.ticks + 1) (λ v. ticks_length scene (OfMotion v)) (vehicles scene) in
    let among = rules_among (scene.setting.ticks + 1) scene.spots in
    all ∙ omega (arith, o, g, p, m, h, among)

-- fewer constraints and modifiers have no more rules
total_of_filter : {X : Type 0} (f : X → ℕ) (test : X → Bool) (xs : List X) → total f (filter test xs) ≤ total f xs
total_of_filter f test [] = omega arith
total_of_filter {X} f test (x ∷ xs) = by (test x) (total_of_filter f test xs)
  where
    by : (b : Bool) → total f (filter test xs) ≤ total f xs → total f (cond b (x ∷ filter test xs) (filter test xs)) ≤ f x + total f xs
    by true h = omega (arith, h)
    by false h = omega (arith, h)

pub fewer_rules : (scene : Scene) → length (items (with_readable scene)) ≤ length (items scene)
fewer_rules scene =
    let ticks : ℕ = scene.setting.ticks + 1 in
    let rest : ℕ = total (spot_rules ticks) scene.spots in
    let kept = rules_are (with_readable scene) in
    let all = rules_are scene in
    let fewer = total_of_filter (λ (o : Occurrence). strength_rules o.mark.strength) (can_be_asked scene) scene.occurrences in
    let less = total_of_filter (λ (m : ModifierSpot). ticks) (can_apply scene) scene.modifiers in
    sums (length (items (with_readable scene))) (length (items scene)) _ _ rest _ _ kept all fewer less
  where
    sums : (n m a b r c d : ℕ) → n ≡ a + (r + c) → m ≡ b + (r + d) → a ≤ b → c ≤ d → n ≤ m
    sums n m a b r c d p q h k = omega (arith, p, q, h, k)

-- ---- many spots

spot_counts : (samples : ℕ) (k : Content) → 1 ≤ content_objects k + content_slots samples k
spot_counts samples (Content.Object vehicle) = omega arith
spot_counts samples (Content.Value range) = omega arith
spot_counts samples (Content.Phase kind members) = one_or_other (is_one_of kind)
  where
    one_or_other : (b : Bool) → 1 ≤ 0 + cond b 3 2
    one_or_other true = omega arith
    one_or_other false = omega arith

-- each spot is an object or has a slot
pub spots_counted : (samples : ℕ) (ss : List Spot) → length ss ≤ total spot_objects ss + total (spot_slots samples) ss
spots_counted samples [] = omega arith
spots_counted samples (s ∷ ss) =
    let here : 1 ≤ spot_objects s + spot_slots samples s = spot_counts samples s.content in
    let later : length ss ≤ total spot_objects ss + total (spot_slots samples) ss = spots_counted samples ss in
    omega arith

-- The number of the slot of each name, by the place of what it belongs to.
use Rattle.std.proofs.Common.{◌≡◌, ℕ, zero, suc, ◌+◌, ◌*◌, ◌<◌, ◌≤◌, refl, ap, ap₂, ◌∙◌, List, [], ◌∷◌, ◌++◌, Bool, true, false, ◌&&◌, cond, Option, Some, None, length, arith, length-append}
use Rattle.std.specs.Prelude.{unwrap_or, option_map, nat_eq}
use Rattle.std.specs.Option.{option_or}
use Rattle.std.specs.List.{range_with_len}
use Rattle.std.proofs.lemmas.List.{length-map}
use Rattle.std.proofs.Math.Nat.{add-mul}
use Rattle.osc_base.specs.declared.path.Path.{Path}
use Rattle.osc_base.specs.declared.listing.SlotName.{SlotName}
use Rattle.osc_base.specs.Paths.{same_path}
use Rattle.osc_base.specs.SlotNames.{same_slot}
use Rattle.osc_base.proofs.PathEquality.{path_flip}
use Rattle.path_index.specs.Places.{first_place}
use Rattle.flat_shapes.specs.composition.declared.spot.ChoiceSpot.{ChoiceSpot}
use Rattle.flat_shapes.specs.composition.declared.spot.ValueSpot.{ValueSpot}
use Rattle.flat_shapes.specs.composition.declared.spot.PhaseSpot.{PhaseSpot}
use Rattle.flat_shapes.specs.composition.Scenes.{Scene, choices, values, phases, vehicles}
use Rattle.flat_shapes.specs.composition.Slots.{ticks_of, sample_names, slot_names}
use Rattle.flat_shapes.specs.field_flatten.Ends.{slot_in}
use Rattle.flat_shapes.proofs.of_field_flatten.Tests.{two_ways, number_self}
use Rattle.scene_slots.specs.NameRows.{choice_names, phase_names, value_names, block, track_names}
use Rattle.scene_slots.specs.Numbers.{track_length, first_phase, first_value, first_sample, past, slot_after}
use Rattle.scene_slots.specs.Places.{choice_place, phase_place, value_place, vehicle_place}
use Rattle.scene_slots.proofs.FirstPlaces.{place_append, place_map, place_same, place_shift, position_is}

-- ---- lengths

phases_length : (ps : List PhaseSpot) → length (phase_names ps) ≡ length ps * 2
phases_length [] = refl
phases_length (p ∷ ps) = let rec = phases_length ps in omega (arith, rec)

block_length : (w : Path) (from n : ℕ) → length (block (range_with_len from n) w) ≡ n * 3
block_length w from zero = refl
block_length w from (suc n) = let rec = block_length w (from + 1) n in omega (arith, rec)

none : (k : ℕ) → 0 ≡ 0 * k
none k = omega arith

tracks_length : (from n : ℕ) (ws : List Path) → length (track_names (range_with_len from n) ws) ≡ length ws * (n * 3)
tracks_length from n [] = none (n * 3)
tracks_length from n (w ∷ ws) =
    length-append (block (range_with_len from n) w) (track_names (range_with_len from n) ws)
    ∙ ap₂ (λ a b. a + b) (block_length w from n) (tracks_length from n ws)
    ∙ more (length ws) (n * 3)
  where
    more : (a s : ℕ) → s + a * s ≡ (suc a) * s
    more a s = grind arith

-- ---- names of other sorts

module _ (test : SlotName → Bool) where
  no_choice : ((p : Path) → test (SlotName.Choice p) ≡ false) → (n : ℕ) (cs : List ChoiceSpot) → first_place test n (choice_names cs) ≡ None
  no_choice f n [] = refl
  no_choice f n (c ∷ cs) = ap (λ b. cond b (Some n) (first_place test (n + 1) (choice_names cs))) (f c.path) ∙ no_choice f (n + 1) cs

  no_phase : ((p : Path) → test (SlotName.Start p) ≡ false) → ((p : Path) → test (SlotName.End p) ≡ false) → (n : ℕ) (ps : List PhaseSpot) → first_place test n (phase_names ps) ≡ None
  no_phase f g n [] = refl
  no_phase f g n (p ∷ ps) =
      ap (λ b. cond b (Some n) (cond (test (SlotName.End p.path)) (Some (n + 1)) (first_place test (n + 1 + 1) (phase_names ps)))) (f p.path)
      ∙ ap (λ b. cond b (Some (n + 1)) (first_place test (n + 1 + 1) (phase_names ps))) (g p.path) ∙ no_phase f g (n + 1 + 1) ps

  no_value : ((p : Path) → test (SlotName.Value p) ≡ false) → (n : ℕ) (vs : List ValueSpot) → first_place test n (value_names vs) ≡ None
  no_value f n [] = refl
  no_value f n (v ∷ vs) = ap (λ b. cond b (Some n) (first_place test (n + 1) (value_names vs))) (f v.path) ∙ no_value f (n + 1) vs

  module _ (w : Path) (lane : (t : ℕ) → test (SlotName.Lane w t) ≡ false) (position : (t : ℕ) → test (SlotName.Position w t) ≡ false) (speed : (t : ℕ) → test (SlotName.Speed w t) ≡ false) where
    no_sample : (n : ℕ) (ticks : List ℕ) → first_place test n (block ticks w) ≡ None
    no_sample n [] = refl
    no_sample n (t ∷ ts) =
        (λ i. cond (lane t i) (Some n) (cond (position t i) (Some (n + 1)) (cond (speed t i) (Some (n + 1 + 1)) (first_place test (n + 1 + 1 + 1) (block ts w)))))
        ∙ no_sample (n + 1 + 1 + 1) ts

  no_track : ((p : Path) (t : ℕ) → test (SlotName.Lane p t) ≡ false) → ((p : Path) (t : ℕ) → test (SlotName.Position p t) ≡ false) → ((p : Path) (t : ℕ) → test (SlotName.Speed p t) ≡ false)
      → (n : ℕ) (ticks : List ℕ) (ws : List Path) → first_place test n (track_names ticks ws) ≡ None
  no_track f g h n ticks [] = refl
  no_track f g h n ticks (w ∷ ws) =
      place_append test n (block ticks w) (track_names ticks ws)
      ∙ ap₂ option_or (no_sample w (f w) (g w) (h w) n ticks) (no_track f g h (n + length (block ticks w)) ticks ws)

-- ---- names of one sort

module _ (p : Path) where
  flipped : {A : Type 0} (path_of : A → Path) (k : ℕ) (xs : List A) → first_place (λ x. same_path p (path_of x)) k xs ≡ first_place (λ x. same_path (path_of x) p) k xs
  flipped path_of k xs = place_same (λ x. same_path p (path_of x)) (λ x. same_path (path_of x) p) (λ x. path_flip p (path_of x)) k xs

  start_from : (b k : ℕ) (ps : List PhaseSpot) → first_place (same_slot (SlotName.Start p)) (b + k * 2) (phase_names ps) ≡ option_map (λ i. b + i * 2 + 0) (first_place (λ (q : PhaseSpot). same_path p q.path) k ps)
  start_from b k [] = refl
  start_from b k (q ∷ ps) = by (same_path p q.path) (start_from b (k + 1) ps)
    where
      by : (c : Bool) → first_place (same_slot (SlotName.Start p)) (b + (k + 1) * 2) (phase_names ps) ≡ option_map (λ i. b + i * 2 + 0) (first_place (λ (r : PhaseSpot). same_path p r.path) (k + 1) ps) →
          cond c (Some (b + k * 2)) (first_place (same_slot (SlotName.Start p)) (b + k * 2 + 1 + 1) (phase_names ps)) ≡ option_map (λ i. b + i * 2 + 0) (cond c (Some k) (first_place (λ (r : PhaseSpot). same_path p r.path) (k + 1) ps))
      by true h = let e : b + k * 2 ≡ b + k * 2 + 0 = omega arith in ap Some e
      by false h = let e : b + k * 2 + 1 + 1 ≡ b + (k + 1) * 2 = omega arith in ap (λ n. first_place (same_slot (SlotName.Start p)) n (phase_names ps)) e ∙ h

  end_from : (b k : ℕ) (ps : List PhaseSpot) → first_place (same_slot (SlotName.End p)) (b + k * 2) (phase_names ps) ≡ option_map (λ i. b + i * 2 + 1) (first_place (λ (q : PhaseSpot). same_path p q.path) k ps)
  end_from b k [] = refl
  end_from b k (q ∷ ps) = by (same_path p q.path) (end_from b (k + 1) ps)
    where
      by : (c : Bool) → first_place (same_slot (SlotName.End p)) (b + (k + 1) * 2) (phase_names ps) ≡ option_map (λ i. b + i * 2 + 1) (first_place (λ (r : PhaseSpot). same_path p r.path) (k + 1) ps) →
          cond c (Some (b + k * 2 + 1)) (first_place (same_slot (SlotName.End p)) (b + k * 2 + 1 + 1) (phase_names ps)) ≡ option_map (λ i. b + i * 2 + 1) (cond c (Some k) (first_place (λ (r : PhaseSpot). same_path p r.path) (k + 1) ps))
      by true h = refl
      by false h = let e : b + k * 2 + 1 + 1 ≡ b + (k + 1) * 2 = omega arith in ap (λ n. first_place (same_slot (SlotName.End p)) n (phase_names ps)) e ∙ h

-- the place of a sample in the block of its vehicle
module _ (test : SlotName → Bool) (w : Path) (t own : ℕ)
    (miss : (u m : ℕ) (rest : List SlotName) → nat_eq t u ≡ false → first_place test m (sample_names w u ++ rest) ≡ first_place test (m + 1 + 1 + 1) rest)
    (hit : (m : ℕ) (rest : List SlotName) → first_place test m (sample_names w t ++ rest) ≡ Some (m + own)) where
  in_block : (m from n d : ℕ) → t ≡ from + d → d < n → first_place test m (block (range_with_len from n) w) ≡ Some (m + (d * 3 + own))
  in_block m from zero d is small = absurd (omega arith)
  in_block m from (suc n) zero is small =
      let e : from ≡ t = omega (arith, is) in
      ap (λ u. first_place test m (sample_names w u ++ block (range_with_len (from + 1) n) w)) e ∙ hit m (block (range_with_len (from + 1) n) w)
      ∙ ap Some (let g : m + own ≡ m + (0 * 3 + own) = omega arith in g)
  in_block m from (suc n) (suc d) is small =
      let e : t ≡ from + 1 + d = omega (arith, is) in
      let f : m + 1 + 1 + 1 + (d * 3 + own) ≡ m + (suc d * 3 + own) = omega arith in
      miss from m (block (range_with_len (from + 1) n) w) (unlike is) ∙ in_block (m + 1 + 1 + 1) (from + 1) n d e (omega (arith, small)) ∙ ap Some f
    where
      unlike : t ≡ from + suc d → nat_eq t from ≡ false
      unlike i = grind arith

module _ (v : Path) (t : ℕ) where
  -- a test that finds the sample of that tick in the block of that vehicle alone
  record Finds (test : SlotName → Bool) (own : ℕ) : Type 0 where
    found : (w : Path) (n m : ℕ) → same_path v w ≡ true → t < n → first_place test m (block (range_with_len 0 n) w) ≡ Some (m + (t * 3 + own))
    others : (w : Path) (m : ℕ) (ticks : List ℕ) → same_path v w ≡ false → first_place test m (block ticks w) ≡ None

  unlike_path : (u : ℕ) (w : Path) → same_path v w ≡ false → nat_eq t u && same_path v w ≡ false
  unlike_path u w e = rw e (two_ways (nat_eq t u) (λ f. rw f refl) (λ f. rw f refl))

  unlike_tick : (u : ℕ) (w : Path) → nat_eq t u ≡ false → nat_eq t u && same_path v w ≡ false
  unlike_tick u w e = rw e refl

  alike : (w : Path) → same_path v w ≡ true → nat_eq t t && same_path v w ≡ true
  alike w e = rw (number_self t, e) refl

  lanes : Finds (same_slot (SlotName.Lane v t)) 0
  lanes = record {
    found = λ w n m same small. in_block (same_slot (SlotName.Lane v t)) w t 0
        (λ u k rest e. ap (λ b. cond b (Some k) (first_place (same_slot (SlotName.Lane v t)) (k + 1 + 1 + 1) rest)) (unlike_tick u w e))
        (λ k rest. ap (λ b. cond b (Some k) (first_place (same_slot (SlotName.Lane v t)) (k + 1 + 1 + 1) rest)) (alike w same) ∙ ap Some (let e : k ≡ k + 0 = omega arith in e))
        m 0 n t (let e : t ≡ 0 + t = omega arith in e) small;
    others = λ w m ticks e. no_sample (same_slot (SlotName.Lane v t)) w (λ u. unlike_path u w e) (λ u. refl) (λ u. refl) m ticks;
  }

  positions : Finds (same_slot (SlotName.Position v t)) 1
  positions = record {
    found = λ w n m same small. in_block (same_slot (SlotName.Position v t)) w t 1
        (λ u k rest e. ap (λ b. cond b (Some (k + 1)) (first_place (same_slot (SlotName.Position v t)) (k + 1 + 1 + 1) rest)) (unlike_tick u w e))
        (λ k rest. ap (λ b. cond b (Some (k + 1)) (first_place (same_slot (SlotName.Position v t)) (k + 1 + 1 + 1) rest)) (alike w same))
        m 0 n t (let e : t ≡ 0 + t = omega arith in e) small;
    others = λ w m ticks e. no_sample (same_slot (SlotName.Position v t)) w (λ u. refl) (λ u. unlike_path u w e) (λ u. refl) m ticks;
  }

  speeds : Finds (same_slot (SlotName.Speed v t)) 2
  speeds = record {
    found = λ w n m same small. in_block (same_slot (SlotName.Speed v t)) w t 2
        (λ u k rest e. ap (λ b. cond b (Some (k + 1 + 1)) (first_place (same_slot (SlotName.Speed v t)) (k + 1 + 1 + 1) rest)) (unlike_tick u w e))
        (λ k rest. ap (λ b. cond b (Some (k + 1 + 1)) (first_place (same_slot (SlotName.Speed v t)) (k + 1 + 1 + 1) rest)) (alike w same) ∙ ap Some (let e : k + 1 + 1 ≡ k + 2 = omega arith in e))
        m 0 n t (let e : t ≡ 0 + t = omega arith in e) small;
    others = λ w m ticks e. no_sample (same_slot (SlotName.Speed v t)) w (λ u. refl) (λ u. refl) (λ u. unlike_path u w e) m ticks;
  }

  -- among all vehicles
  among : (test : SlotName → Bool) (own n b k : ℕ) (ws : List Path) → Finds test own → t < n
      → first_place test (b + k * (n * 3)) (track_names (range_with_len 0 n) ws) ≡ option_map (λ i. b + i * (n * 3) + (t * 3 + own)) (first_place (λ (w : Path). same_path v w) k ws)
  among test own n b k [] f small = refl
  among test own n b k (w ∷ ws) f small =
      place_append test (b + k * (n * 3)) (block (range_with_len 0 n) w) (track_names (range_with_len 0 n) ws)
      ∙ by (same_path v w) refl (among test own n b (k + 1) ws f small)
    where
      longer : (a s : ℕ) → b + a * s + s ≡ b + (a + 1) * s
      longer a s = grind (arith, add-mul)

      by : (c : Bool) → same_path v w ≡ c →
          first_place test (b + (k + 1) * (n * 3)) (track_names (range_with_len 0 n) ws) ≡ option_map (λ i. b + i * (n * 3) + (t * 3 + own)) (first_place (λ (x : Path). same_path v x) (k + 1) ws) →
          option_or (first_place test (b + k * (n * 3)) (block (range_with_len 0 n) w)) (first_place test (b + k * (n * 3) + length (block (range_with_len 0 n) w)) (track_names (range_with_len 0 n) ws))
          ≡ option_map (λ i. b + i * (n * 3) + (t * 3 + own)) (cond c (Some k) (first_place (λ (x : Path). same_path v x) (k + 1) ws))
      by true e h = ap (λ o. option_or o (first_place test (b + k * (n * 3) + length (block (range_with_len 0 n) w)) (track_names (range_with_len 0 n) ws))) (f.found w n (b + k * (n * 3)) e small)
      by false e h =
          ap₂ option_or (f.others w (b + k * (n * 3)) (range_with_len 0 n) e)
          (ap (λ m. first_place test m (track_names (range_with_len 0 n) ws)) (ap (λ m. b + k * (n * 3) + m) (block_length w 0 n) ∙ longer k (n * 3)))
          ∙ h

-- ---- in a scene

module _ (scene : Scene) where
  abbrev cs : List SlotName
  cs = choice_names (choices scene)

  abbrev ps : List SlotName
  ps = phase_names (phases scene)

  abbrev vs : List SlotName
  vs = value_names (values scene)

  abbrev ts : List SlotName
  ts = track_names (ticks_of scene.setting) (vehicles scene)

  abbrev sum_of_lengths : ℕ
  sum_of_lengths = first_sample scene + length (vehicles scene) * track_length scene

  cs_length : length cs ≡ first_phase scene
  cs_length = length-map (choices scene) (λ (c : ChoiceSpot). SlotName.Choice c.path)

  cps_length : length (cs ++ ps) ≡ first_value scene
  cps_length = length-append cs ps ∙ ap₂ (λ a b. a + b) cs_length (phases_length (phases scene))

  cpvs_length : length (cs ++ ps ++ vs) ≡ first_sample scene
  cpvs_length = length-append (cs ++ ps) vs ∙ ap₂ (λ a b. a + b) cps_length (length-map (values scene) (λ (v : ValueSpot). SlotName.Value v.path))

  -- how many slots there are
  pub past_is : past scene ≡ sum_of_lengths
  past_is = length-append (cs ++ ps ++ vs) ts ∙ ap₂ (λ a b. a + b) cpvs_length (tracks_length 0 (scene.setting.ticks + 1) (vehicles scene))

  -- the place of a name, by its places in the four parts
  places : (test : SlotName → Bool)
      → first_place test 0 (slot_names scene)
      ≡ option_or (option_or (option_or (first_place test 0 cs) (first_place test (first_phase scene) ps)) (first_place test (first_value scene) vs)) (first_place test (first_sample scene) ts)
  places test =
      place_append test 0 (cs ++ ps ++ vs) ts
      ∙ ap₂ option_or
      (place_append test 0 (cs ++ ps) vs
      ∙ ap₂ option_or
      (place_append test 0 cs ps ∙ ap (λ n. option_or (first_place test 0 cs) (first_place test n ps)) (from_zero (length cs) (first_phase scene) cs_length))
      (ap (λ n. first_place test n vs) (from_zero (length (cs ++ ps)) (first_value scene) cps_length)))
      (ap (λ n. first_place test n ts) (from_zero (length (cs ++ ps ++ vs)) (first_sample scene) cpvs_length))
    where
      from_zero : (a b : ℕ) → a ≡ b → 0 + a ≡ b
      from_zero a b e = omega (arith, e)

  slot_is : (name : SlotName) → slot_in (slot_names scene) name ≡ unwrap_or (first_place (same_slot name) 0 (slot_names scene)) (past scene)
  slot_is name = position_is (same_slot name) (slot_names scene)

  -- a slot of one part, which the other parts don't have
  slot_by : (first each own : ℕ) (o : Option ℕ) → unwrap_or (option_map (λ i. first + i * each + own) o) (past scene) ≡ slot_after (past scene) first each own o
  slot_by first each own None = refl
  slot_by first each own (Some place) = refl

  only_first : (a b c d : Option ℕ) → b ≡ None → c ≡ None → d ≡ None → option_or (option_or (option_or a b) c) d ≡ a
  only_first None b c d p q r = rw (p, q, r) refl
  only_first (Some x) b c d p q r = refl

  only_second : (a b c d : Option ℕ) → a ≡ None → c ≡ None → d ≡ None → option_or (option_or (option_or a b) c) d ≡ b
  only_second a None c d p q r = rw (p, q, r) refl
  only_second a (Some x) c d p q r = rw p refl

  only_third : (a b c d : Option ℕ) → a ≡ None → b ≡ None → d ≡ None → option_or (option_or (option_or a b) c) d ≡ c
  only_third a b None d p q r = rw (p, q, r) refl
  only_third a b (Some x) d p q r = rw (p, q) refl

  only_fourth : (a b c d : Option ℕ) → a ≡ None → b ≡ None → c ≡ None → option_or (option_or (option_or a b) c) d ≡ d
  only_fourth a b c d p q r = rw (p, q, r) refl

  abbrev cp : (SlotName → Bool) → Option ℕ
  cp test = first_place test 0 cs

  abbrev pp : (SlotName → Bool) → Option ℕ
  pp test = first_place test (first_phase scene) ps

  abbrev vp : (SlotName → Bool) → Option ℕ
  vp test = first_place test (first_value scene) vs

  abbrev tp : (SlotName → Bool) → Option ℕ
  tp test = first_place test (first_sample scene) ts

  module _ (p : Path) where
    scaled : (first : ℕ) (o : Option ℕ) → option_map (λ i. first + i) o ≡ option_map (λ i. first + i * 1 + 0) o
    scaled first None = refl
    scaled first (Some i) = let e : first + i ≡ first + i * 1 + 0 = omega arith in ap Some e

    pub choice_number : slot_in (slot_names scene) (SlotName.Choice p) ≡ slot_after (past scene) 0 1 0 (choice_place scene p)
    choice_number =
        let test = same_slot (SlotName.Choice p) in
        let here : cp test ≡ option_map (λ i. 0 + i * 1 + 0) (choice_place scene p) =
        place_map test (λ (c : ChoiceSpot). SlotName.Choice c.path) 0 (choices scene)
        ∙ flipped p (λ (c : ChoiceSpot). c.path) 0 (choices scene)
        ∙ place_shift (λ (c : ChoiceSpot). same_path c.path p) 0 0 (choices scene) ∙ scaled 0 (choice_place scene p) in
        slot_is (SlotName.Choice p)
        ∙ ap (λ o. unwrap_or o (past scene))
        (places test
        ∙ only_first (cp test) (pp test) (vp test) (tp test) (no_phase test (λ q. refl) (λ q. refl) (first_phase scene) (phases scene)) (no_value test (λ q. refl) (first_value scene) (values scene))
        (no_track test (λ q t. refl) (λ q t. refl) (λ q t. refl) (first_sample scene) (ticks_of scene.setting) (vehicles scene)) ∙ here)
        ∙ slot_by 0 1 0 (choice_place scene p)

    at_first : (b each : ℕ) → b ≡ b + 0 * each
    at_first b each = omega arith

    phase_by : (test : SlotName → Bool) (own : ℕ) → ((q : Path) → test (SlotName.Choice q) ≡ false) → ((q : Path) → test (SlotName.Value q) ≡ false)
        → ((q : Path) (t : ℕ) → test (SlotName.Lane q t) ≡ false) → ((q : Path) (t : ℕ) → test (SlotName.Position q t) ≡ false) → ((q : Path) (t : ℕ) → test (SlotName.Speed q t) ≡ false)
        → first_place test (first_phase scene + 0 * 2) ps ≡ option_map (λ i. first_phase scene + i * 2 + own) (first_place (λ (q : PhaseSpot). same_path p q.path) 0 (phases scene))
        → unwrap_or (first_place test 0 (slot_names scene)) (past scene) ≡ slot_after (past scene) (first_phase scene) 2 own (phase_place scene p)
    phase_by test own f g h i j is =
        ap (λ o. unwrap_or o (past scene))
        (places test
        ∙ only_second (cp test) (pp test) (vp test) (tp test) (no_choice test f 0 (choices scene)) (no_value test g (first_value scene) (values scene)) (no_track test h i j (first_sample scene) (ticks_of scene.setting) (vehicles scene))
        ∙ ap (λ n. first_place test n ps) (at_first (first_phase scene) 2) ∙ is
        ∙ ap (option_map (λ i. first_phase scene + i * 2 + own)) (flipped p (λ (q : PhaseSpot). q.path) 0 (phases scene)))
        ∙ slot_by (first_phase scene) 2 own (phase_place scene p)

    pub start_number : slot_in (slot_names scene) (SlotName.Start p) ≡ slot_after (past scene) (first_phase scene) 2 0 (phase_place scene p)
    start_number = slot_is (SlotName.Start p)
        ∙ phase_by (same_slot (SlotName.Start p)) 0 (λ q. refl) (λ q. refl) (λ q t. refl) (λ q t. refl) (λ q t. refl) (start_from p (first_phase scene) 0 (phases scene))

    pub end_number : slot_in (slot_names scene) (SlotName.End p) ≡ slot_after (past scene) (first_phase scene) 2 1 (phase_place scene p)
    end_number = slot_is (SlotName.End p)
        ∙ phase_by (same_slot (SlotName.End p)) 1 (λ q. refl) (λ q. refl) (λ q t. refl) (λ q t. refl) (λ q t. refl) (end_from p (first_phase scene) 0 (phases scene))

    pub value_number : slot_in (slot_names scene) (SlotName.Value p) ≡ slot_after (past scene) (first_value scene) 1 0 (value_place scene p)
    value_number =
        let test = same_slot (SlotName.Value p) in
        let at : first_value scene ≡ first_value scene + 0 = omega arith in
        let here : vp test ≡ option_map (λ i. first_value scene + i * 1 + 0) (value_place scene p) =
        place_map test (λ (v : ValueSpot). SlotName.Value v.path) (first_value scene) (values scene)
        ∙ flipped p (λ (v : ValueSpot). v.path) (first_value scene) (values scene)
        ∙ ap (λ n. first_place (λ (v : ValueSpot). same_path v.path p) n (values scene)) at
        ∙ place_shift (λ (v : ValueSpot). same_path v.path p) (first_value scene) 0 (values scene) ∙ scaled (first_value scene) (value_place scene p) in
        slot_is (SlotName.Value p)
        ∙ ap (λ o. unwrap_or o (past scene))
        (places test
        ∙ only_third (cp test) (pp test) (vp test) (tp test) (no_choice test (λ q. refl) 0 (choices scene)) (no_phase test (λ q. refl) (λ q. refl) (first_phase scene) (phases scene))
        (no_track test (λ q t. refl) (λ q t. refl) (λ q t. refl) (first_sample scene) (ticks_of scene.setting) (vehicles scene)) ∙ here)
        ∙ slot_by (first_value scene) 1 0 (value_place scene p)

    module _ (t : ℕ) (small : t ≤ scene.setting.ticks) where
      sample_by : (test : SlotName → Bool) (own : ℕ) → Finds p t test own → ((q : Path) → test (SlotName.Choice q) ≡ false) → ((q : Path) → test (SlotName.Start q) ≡ false) → ((q : Path) → test (SlotName.End q) ≡ false)
          → ((q : Path) → test (SlotName.Value q) ≡ false)
          → unwrap_or (first_place test 0 (slot_names scene)) (past scene) ≡ slot_after (past scene) (first_sample scene) (track_length scene) (t * 3 + own) (vehicle_place scene p)
      sample_by test own finds f g h i =
          ap (λ o. unwrap_or o (past scene))
          (places test
          ∙ only_fourth (cp test) (pp test) (vp test) (tp test) (no_choice test f 0 (choices scene)) (no_phase test g h (first_phase scene) (phases scene)) (no_value test i (first_value scene) (values scene))
          ∙ ap (λ n. first_place test n ts) (at_first (first_sample scene) (track_length scene))
          ∙ among p t test own (scene.setting.ticks + 1) (first_sample scene) 0 (vehicles scene) finds (omega (arith, small))
          ∙ ap (option_map (λ i. first_sample scene + i * track_length scene + (t * 3 + own))) (flipped p (λ (v : Path). v) 0 (vehicles scene)))
          ∙ slot_by (first_sample scene) (track_length scene) (t * 3 + own) (vehicle_place scene p)

      pub lane_number : slot_in (slot_names scene) (SlotName.Lane p t) ≡ slot_after (past scene) (first_sample scene) (track_length scene) (t * 3 + 0) (vehicle_place scene p)
      lane_number = slot_is (SlotName.Lane p t) ∙ sample_by (same_slot (SlotName.Lane p t)) 0 (lanes p t) (λ q. refl) (λ q. refl) (λ q. refl) (λ q. refl)

      pub position_number : slot_in (slot_names scene) (SlotName.Position p t) ≡ slot_after (past scene) (first_sample scene) (track_length scene) (t * 3 + 1) (vehicle_place scene p)
      position_number = slot_is (SlotName.Position p t) ∙ sample_by (same_slot (SlotName.Position p t)) 1 (positions p t) (λ q. refl) (λ q. refl) (λ q. refl) (λ q. refl)

      pub speed_number : slot_in (slot_names scene) (SlotName.Speed p t) ≡ slot_after (past scene) (first_sample scene) (track_length scene) (t * 3 + 2) (vehicle_place scene p)
      speed_number = slot_is (SlotName.Speed p t) ∙ sample_by (same_slot (SlotName.Speed p t)) 2 (speeds p t) (λ q. refl) (λ q. refl) (λ q. refl) (λ q. refl)

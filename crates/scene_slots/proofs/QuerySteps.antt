-- What the queries of slots answer, step by step.
use Rattle.std.proofs.Common.{◌≡◌, ℕ, suc, ◌+◌, ◌*◌, ◌<◌, ◌≤◌, refl, sym, ap, ap₂, ◌∙◌, subst, Option, Some, None, IfSome, length, arith}
use Rattle.std.specs.Prelude.{cond, option_map, is_some, pos, ◌/◌, ◌||◌, true, false, Bool, List, [], ◌∷◌}
use Rattle.std.proofs.Math.Nat.{mul-le-mul_right}
use Rattle.std.specs.List.{list_any}
use Rattle.osc_base.specs.declared.path.Path.{Path}
use Rattle.osc_base.specs.declared.listing.SlotName.{SlotName}
use Rattle.osc_base.specs.Paths.{same_path}
use Rattle.path_index.specs.Places.{first_place}
use Rattle.flat_shapes.specs.composition.declared.spot.ChoiceSpot.{ChoiceSpot}
use Rattle.flat_shapes.specs.composition.declared.spot.ValueSpot.{ValueSpot}
use Rattle.flat_shapes.specs.composition.declared.spot.PhaseSpot.{PhaseSpot}
use Rattle.flat_shapes.specs.composition.Scenes.{Scene, choices, values, phases, vehicles, root_do, has_root_do}
use Rattle.flat_shapes.specs.composition.Slots.{slot_names}
use Rattle.flat_shapes.specs.box_eval.FlatRules.{FlatTerm, Whole, Slot, Less, times}
use Rattle.flat_shapes.specs.composition.Scenes.{Source, OfRun, OfPhase, OfValue}
use Rattle.flat_shapes.specs.field_flatten.Shapes.{Layout, read_term}
use Rattle.flat_shapes.specs.declared.slots.Found.{Found}
use Rattle.flat_shapes.specs.Founds.{found_term}
use Rattle.flat_shapes.specs.field_flatten.Ends.{slot_in}
use Rattle.flat_shapes.specs.field_flatten.Rules.{end_term}
use Rattle.scene_slots.specs.declared.track.Track.{Track}
use Rattle.scene_slots.specs.Tracks.{IsTrack, track_slot, track_by}
use Rattle.scene_slots.specs.Numbers.{track_length, first_phase, first_value, first_sample, past, slot_after}
use Rattle.scene_slots.specs.Places.{choice_place, phase_place, value_place, vehicle_place, end_slot}
use Rattle.scene_slots.proofs.FirstPlaces.{place_within}
use Rattle.scene_slots.proofs.SlotNumbers.{past_is, choice_number, start_number, end_number, value_number, lane_number, position_number, speed_number}

module _ (scene : Scene) (p : Path) where
  -- ---- numbers

  pub choice_is : (all n : ℕ) (o : Option ℕ) → n ≡ slot_after all 0 1 0 o → all ≡ past scene → o ≡ choice_place scene p → n ≡ slot_in (slot_names scene) (SlotName.Choice p)
  choice_is all n o is q r = is ∙ ap₂ (λ a b. slot_after a 0 1 0 b) q r ∙ sym (choice_number scene p)

  pub start_is : (all first n : ℕ) (o : Option ℕ) → n ≡ slot_after all first 2 0 o → all ≡ past scene → first ≡ first_phase scene → o ≡ phase_place scene p → n ≡ slot_in (slot_names scene) (SlotName.Start p)
  start_is all first n o is q f r = is ∙ (λ i. slot_after (q i) (f i) 2 0 (r i)) ∙ sym (start_number scene p)

  pub end_is : (all first n : ℕ) (o : Option ℕ) → n ≡ slot_after all first 2 1 o → all ≡ past scene → first ≡ first_phase scene → o ≡ phase_place scene p → n ≡ slot_in (slot_names scene) (SlotName.End p)
  end_is all first n o is q f r = is ∙ (λ i. slot_after (q i) (f i) 2 1 (r i)) ∙ sym (end_number scene p)

  pub value_is : (all first n : ℕ) (o : Option ℕ) → n ≡ slot_after all first 1 0 o → all ≡ past scene → first ≡ first_value scene → o ≡ value_place scene p → n ≡ slot_in (slot_names scene) (SlotName.Value p)
  value_is all first n o is q f r = is ∙ (λ i. slot_after (q i) (f i) 1 0 (r i)) ∙ sym (value_number scene p)

  -- ---- a number that is there is below that of all

  module _ (most : ℕ) (few : past scene < most) where
    total : first_value scene + length (values scene) + length (vehicles scene) * track_length scene < most
    total = subst (λ n. n < most) (past_is scene) few

    pub choice_room : (o : Option ℕ) → o ≡ choice_place scene p → IfSome o (λ i. 0 + i * 1 + 0 < most)
    choice_room None is = tt
    choice_room (Some i) is = omega (arith, total, place_within (λ (c : ChoiceSpot). same_path c.path p) 0 i (choices scene) (sym is))

    pub phase_room : (own : ℕ) → own < 2 → (first : ℕ) → first ≡ first_phase scene → (o : Option ℕ) → o ≡ phase_place scene p → IfSome o (λ i. first + i * 2 + own < most)
    phase_room own small first f None is = tt
    phase_room own small first f (Some i) is = omega (arith, total, f, small, place_within (λ (q : PhaseSpot). same_path q.path p) 0 i (phases scene) (sym is))

    pub value_room : (first : ℕ) → first ≡ first_value scene → (o : Option ℕ) → o ≡ value_place scene p → IfSome o (λ i. first + i * 1 + 0 < most)
    value_room first f None is = tt
    value_room first f (Some i) is = omega (arith, total, f, place_within (λ (v : ValueSpot). same_path v.path p) 0 i (values scene) (sym is))

    -- the slots of a vehicle that is there
    track_room : (place : ℕ) → Some place ≡ vehicle_place scene p → first_sample scene + place * track_length scene + track_length scene < most
    track_room place is =
        let w = place_within (λ (v : Path). same_path v p) 0 place (vehicles scene) (sym is) in
        let more : suc place ≤ length (vehicles scene) = omega (arith, w) in
        let block : suc place * track_length scene ≤ length (vehicles scene) * track_length scene = mul-le-mul_right (track_length scene) more in
        let whole : suc place * track_length scene ≡ place * track_length scene + track_length scene = one_more place (track_length scene) in
        below (first_sample scene) (place * track_length scene) (track_length scene) (suc place * track_length scene) (length (vehicles scene) * track_length scene) total block whole
      where
        one_more : (a b : ℕ) → suc a * b ≡ a * b + b
        one_more a b = grind arith

        below : (f a b c d : ℕ) → f + d < most → c ≤ d → c ≡ a + b → f + a + b < most
        below f a b c d h k e = omega (arith, h, k, e)

    pub track_if : (first each : ℕ) (o : Option ℕ) → first ≡ first_sample scene → each ≡ track_length scene → o ≡ vehicle_place scene p → IfSome o (λ i. first + i * each + each < most)
    track_if first each None f e is = tt
    track_if first each (Some i) f e is = subst (λ n. n < most) (λ j. sym f j + i * sym e j + sym e j) (track_room i is)

    pub track_small : (all first each : ℕ) (o : Option ℕ) (track : Track) → track ≡ track_by all first each o → all ≡ past scene → first ≡ first_sample scene → each ≡ track_length scene → o ≡ vehicle_place scene p
        → track_slot track (scene.setting.ticks * 3 + 2) < most
    track_small all first each None track t a f e is = subst (λ n. n < most) (sym a ∙ ap (λ u. track_slot u (scene.setting.ticks * 3 + 2)) (sym t)) few
    track_small all first each (Some i) track t a f e is =
        subst (λ n. n < most) (ap (λ u. track_slot u (scene.setting.ticks * 3 + 2)) (sym t))
        (within (first + i * each) scene.setting.ticks (subst (λ n. n < most) (λ j. sym f j + i * sym e j + track_length scene) (track_room i is)))
      where
        within : (a t : ℕ) → a + (t + 1) * 3 < most → a + (t * 3 + 2) < most
        within a t h = omega (arith, h)

  -- ---- the slots of a vehicle

  pub track_is : (all first each : ℕ) (o : Option ℕ) (track : Track) → track ≡ track_by all first each o → all ≡ past scene → first ≡ first_sample scene → each ≡ track_length scene → o ≡ vehicle_place scene p
      → IsTrack scene p track
  track_is all first each None track t a f e is tick small =
      let own : (k : ℕ) → track_slot track (tick * 3 + k) ≡ slot_after (past scene) (first_sample scene) (track_length scene) (tick * 3 + k) (vehicle_place scene p) =
      λ k. ap (λ u. track_slot u (tick * 3 + k)) t ∙ a ∙ ap (slot_after (past scene) (first_sample scene) (track_length scene) (tick * 3 + k)) is in
      λ i. record {
        lane = (own 0 ∙ sym (lane_number scene p tick small)) i;
        position = (own 1 ∙ sym (position_number scene p tick small)) i;
        speed = (own 2 ∙ sym (speed_number scene p tick small)) i;
      }
  track_is all first each (Some place) track t a f e is tick small =
      let own : (k : ℕ) → track_slot track (tick * 3 + k) ≡ slot_after (past scene) (first_sample scene) (track_length scene) (tick * 3 + k) (vehicle_place scene p) =
      λ k. ap (λ u. track_slot u (tick * 3 + k)) t ∙ (λ i. f i + place * e i + (tick * 3 + k)) ∙ ap (slot_after (past scene) (first_sample scene) (track_length scene) (tick * 3 + k)) is in
      λ i. record {
        lane = (own 0 ∙ sym (lane_number scene p tick small)) i;
        position = (own 1 ∙ sym (position_number scene p tick small)) i;
        speed = (own 2 ∙ sym (speed_number scene p tick small)) i;
      }

-- ---- how many slots there are

module _ (scene : Scene) (a b v w t : ℕ) (cs : a ≡ length (choices scene)) (bs : b ≡ length (phases scene)) (vs : v ≡ length (values scene)) (ws : w ≡ length (vehicles scene)) (ts : t ≡ scene.setting.ticks) where
  pub counted : a + b * 2 + v + w * ((t + 1) * 3) ≡ past scene
  counted = (λ i. cs i + bs i * 2 + vs i + ws i * ((ts i + 1) * 3)) ∙ sym (past_is scene)

  pub counted_few : (most : ℕ) → past scene < most → a + b * 2 + v + w * ((t + 1) * 3) < most
  counted_few most few = subst (λ n. n < most) (sym counted) few

-- ---- the run's end

-- the end of the run, by its slot
abbrev end_by : Option ℕ → FlatTerm
end_by None = Whole (pos 0)
end_by (Some slot) = Slot slot

module _ (scene : Scene) where
  has_place : (test : PhaseSpot → Bool) (n : ℕ) (ps : List PhaseSpot) → list_any test ps ≡ is_some (first_place test n ps)
  has_place test n [] = refl
  has_place test n (q ∷ qs) = by (test q) (has_place test (n + 1) qs)
    where
      by : (b : Bool) → list_any test qs ≡ is_some (first_place test (n + 1) qs) → b || list_any test qs ≡ is_some (cond b (Some n) (first_place test (n + 1) qs))
      by true h = refl
      by false h = h

  abbrev whole_slot : ℕ
  whole_slot = slot_in (slot_names scene) (SlotName.End root_do)

  abbrev placed : Option ℕ → FlatTerm
  placed o = end_by (option_map (λ i. first_phase scene + i * 2 + 1) o)

  abbrev ended : Bool → FlatTerm
  ended b = cond b (Slot whole_slot) (Whole (pos 0))

  pub end_term_is : (o : Option ℕ) → o ≡ end_slot scene → end_by o ≡ end_term scene (slot_in (slot_names scene))
  end_term_is o is = ap end_by is ∙ by (phase_place scene root_do) refl
    where
      by : (place : Option ℕ) → place ≡ phase_place scene root_do → placed (phase_place scene root_do) ≡ ended (has_root_do scene)
      by None e = ap placed (sym e) ∙ ap ended (sym (has_place (λ (q : PhaseSpot). same_path q.path root_do) 0 (phases scene) ∙ ap is_some (sym e)))
      by (Some place) e =
          ap placed (sym e) ∙ ap Slot (sym (end_number scene root_do ∙ ap (slot_after (past scene) (first_phase scene) 2 1) (sym e)))
          ∙ ap ended (sym (has_place (λ (q : PhaseSpot). same_path q.path root_do) 0 (phases scene) ∙ ap is_some (sym e)))

-- ---- what is read

module _ (at : Layout) (path : Path) (found : Found) where
  abbrev IsRead : Source → Type 0
  IsRead source = (per e : ℕ) → found_term at.tick found per e ≡ read_term at path per source e

  pub read_value : (slot : ℕ) (source : Source) → found ≡ Found.Value slot → slot ≡ at.slot (SlotName.Value path) → source ≡ OfValue → IsRead source
  read_value slot source is s o per e =
      ap (λ f. found_term at.tick f per e) is ∙ ap (λ n. times (e / per) (Slot n)) s ∙ ap (λ r. read_term at path per r e) (sym o)

  pub read_phase : (start end : ℕ) (phase : Path) (source : Source) → found ≡ Found.Phase start end → start ≡ at.slot (SlotName.Start phase) → end ≡ at.slot (SlotName.End phase) → source ≡ OfPhase phase → IsRead source
  read_phase start end phase source is s t o per e =
      ap (λ f. found_term at.tick f per e) is ∙ ap₂ (λ n m. times (e / per * at.tick) (Less (Slot m) (Slot n))) s t ∙ ap (λ r. read_term at path per r e) (sym o)

  pub read_run : (end : Option ℕ) (source : Source) → found ≡ Found.Run end → end_by end ≡ at.end → source ≡ OfRun → IsRead source
  read_run None source is s o per e =
      ap (λ f. found_term at.tick f per e) is ∙ ap (λ t. times (e / per * at.tick) t) s ∙ ap (λ r. read_term at path per r e) (sym o)
  read_run (Some slot) source is s o per e =
      ap (λ f. found_term at.tick f per e) is ∙ ap (λ t. times (e / per * at.tick) t) s ∙ ap (λ r. read_term at path per r e) (sym o)

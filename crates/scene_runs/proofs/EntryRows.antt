-- Rows of entries, and the run that they make.
use Rattle.std.proofs.Common.{◌≡◌, ℕ, zero, suc, ◌+◌, ◌*◌, ◌<◌, ◌≤◌, refl, sym, ap, ap₂, ◌∙◌, subst, Bool, true, false, cond, List, [], ◌∷◌, ◌++◌, map, length, get_or, arith}
use Rattle.std.specs.Prelude.{filter, flat_map, ℤ}
use Rattle.std.specs.List.{list_all, range_with_len}
use Rattle.osc_base.specs.declared.path.Path.{Path}
use Rattle.osc_base.specs.declared.listing.SlotName.{SlotName}
use Rattle.scene_slots.specs.composition.declared.spot.ChoiceSpot.{ChoiceSpot}
use Rattle.scene_slots.specs.composition.declared.spot.ValueSpot.{ValueSpot}
use Rattle.scene_slots.specs.composition.declared.spot.PhaseSpot.{PhaseSpot}
use Rattle.scene_slots.specs.composition.declared.run.Choice.{Choice}
use Rattle.scene_slots.specs.composition.declared.run.Span.{Span}
use Rattle.scene_slots.specs.composition.declared.run.Value.{Value}
use Rattle.scene_slots.specs.composition.declared.run.Trace.{Trace}
use Rattle.scene_slots.specs.composition.Scenes.{Scene, choices, values, phases, vehicles}
use Rattle.scene_slots.specs.field_flatten.Points.{stands, choice_of, span_of, end_named, run_named}
use Rattle.scene_slots.proofs.of_field_flatten.Tests.{left_of, right_of}
use Rattle.scene_slots.specs.declared.track.Track.{Track}
use Rattle.scene_slots.specs.Tracks.{track_slot}
use Rattle.scene_runs.specs.Entries.{choice_entry, span_entry, value_entry, value_named, trace_entry, trace_named}

-- what holds of all holds of each
pub item_of : {A : Type 0} (p : A → Bool) (xs : List A) (i : ℕ) (x : A) → i < length xs → x ≡ get_or xs i x → list_all p xs ≡ true → p x ≡ true
item_of p [] i x less is h = absurd (omega (arith, less))
item_of p (y ∷ ys) zero x less is h = subst (λ z. p z ≡ true) (sym is) (left_of (p y) (list_all p ys) h)
item_of p (y ∷ ys) (suc i) x less is h = item_of p ys i x (omega (arith, less)) is (right_of (p y) (list_all p ys) h)

-- an entry for each that is kept
kept : {A B : Type 0} (p : A → Bool) (f : A → B) (xs : List A) → flat_map (λ x. cond (p x) (f x ∷ []) []) xs ≡ map f (filter p xs)
kept p f [] = refl
kept p f (x ∷ xs) = by (p x) (kept p f xs)
  where
    by : (b : Bool) → flat_map (λ y. cond (p y) (f y ∷ []) []) xs ≡ map f (filter p xs) → cond b (f x ∷ []) [] ++ flat_map (λ y. cond (p y) (f y ∷ []) []) xs ≡ map f (cond b (x ∷ filter p xs) (filter p xs))
    by true h = ap (λ ys. f x ∷ ys) h
    by false h = h

-- up to one tick more
module _ {X : Type 0} (f : ℕ → X) where
  tick_more : (a n j : ℕ) → a + n ≡ j → map f (range_with_len a (suc n)) ≡ map f (range_with_len a n) ++ f j ∷ []
  tick_more a zero j is = ap (λ m. f m ∷ []) (omega (arith, is))
  tick_more a (suc n) j is = ap (λ xs. f a ∷ xs) (tick_more (a + 1) n j (omega (arith, is)))

  pub one_tick_more : (now new : List X) (t : ℕ) (x : X) → now ≡ map f (range_with_len 0 t) → new ≡ now ++ x ∷ [] → x ≡ f t → new ≡ map f (range_with_len 0 (t + 1))
  one_tick_more now new t x is pushed made =
      let e : t + 1 ≡ suc t = omega arith in
      let z : 0 + t ≡ t = omega arith in
      pushed ∙ ap₂ (λ xs y. xs ++ y ∷ []) is made ∙ sym (ap (λ n. map f (range_with_len 0 n)) e ∙ tick_more 0 t t z)

-- the slots of a vehicle at a tick that isn't past the last
pub track_room : (track : Track) (tick ticks most : ℕ) → tick ≤ ticks → track_slot track (ticks * 3 + 2) < most → track_slot track (tick * 3 + 2) < most
track_room (Track.Found first) tick ticks most small room = omega (arith, small, room)
track_room (Track.Missing past) tick ticks most small room = room

-- the run that these entries make
pub run_made : (scene : Scene) (at : SlotName → ℤ) (end tick : ℕ) (cs : List Choice) (ps : List Span) (ts : List Trace) (vs : List Value)
    → (cspots : List ChoiceSpot) (pspots : List PhaseSpot) (tspots : List Path) (vspots : List ValueSpot)
    → end ≡ end_named scene at → tick ≡ scene.setting.tick
    → cs ≡ flat_map (choice_entry scene at) cspots → ps ≡ flat_map (span_entry scene at) pspots → ts ≡ flat_map (trace_entry scene at end) tspots → vs ≡ flat_map (value_entry scene at) vspots
    → cspots ≡ choices scene → pspots ≡ phases scene → tspots ≡ vehicles scene → vspots ≡ values scene
    → record { choices = cs; end = end; phases = ps; tick = tick; traces = ts; values = vs } ≡ run_named scene at
run_made scene at end tick cs ps ts vs cspots pspots tspots vspots ended ticked c p t v cis pis tis vis = λ i. record {
  choices = (c ∙ ap (flat_map (choice_entry scene at)) cis ∙ kept (λ (x : ChoiceSpot). stands scene at x.path) (λ x. choice_of at x.path) (choices scene)) i;
  end = ended i;
  phases = (p ∙ ap (flat_map (span_entry scene at)) pis ∙ kept (λ (x : PhaseSpot). stands scene at x.path) (λ x. span_of at x.path) (phases scene)) i;
  tick = ticked i;
  traces = (t ∙ ap (flat_map (trace_entry scene at end)) tis ∙ kept (stands scene at) (trace_named at end) (vehicles scene) ∙ ap (λ n. map (trace_named at n) (filter (stands scene at) (vehicles scene))) ended) i;
  values = (v ∙ ap (flat_map (value_entry scene at)) vis ∙ kept (λ (x : ValueSpot). stands scene at x.path) (value_named scene at) (values scene)) i;
}

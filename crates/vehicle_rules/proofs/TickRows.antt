-- Rows of rules, tick by tick.
use Rattle.std.proofs.Common.{◌≡◌, ℕ, zero, suc, ◌+◌, ◌*◌, ◌≤◌, ◌<◌, sym, ap, ap₂, ◌∙◌, List, [], ◌∷◌, ◌++◌, map, arith}
use Rattle.std.specs.List.{range_with_len}
use Rattle.std.proofs.lemmas.List.{append_assoc, map-append}
use Rattle.box_eval.specs.declared.rule.Rule.{Rule}
use Rattle.box_eval.specs.FlatRules.{FlatRule, flat_rule}
use Rattle.rule_parts.specs.scene_slots.declared.track.Track.{Track}
use Rattle.rule_parts.specs.scene_slots.Tracks.{track_slot}

-- up to one tick more
module _ {X : Type 0} (f : ℕ → X) where
  tick_more : (a n j : ℕ) → a + n ≡ j → map f (range_with_len a (suc n)) ≡ map f (range_with_len a n) ++ f j ∷ []
  tick_more a zero j is = ap (λ m. f m ∷ []) (omega (arith, is))
  tick_more a (suc n) j is = ap (λ xs. f a ∷ xs) (tick_more (a + 1) n j (omega (arith, is)))

  to_tick : (t : ℕ) → map f (range_with_len 0 (t + 1)) ≡ map f (range_with_len 0 t) ++ f t ∷ []
  to_tick t =
      let e : t + 1 ≡ suc t = omega arith in
      let z : 0 + t ≡ t = omega arith in
      ap (λ n. map f (range_with_len 0 n)) e ∙ tick_more 0 t t z

-- the rules up to one tick more
pub one_more_tick : (old now new : List Rule) (f : ℕ → FlatRule) (t : ℕ) (rule : Rule) → map flat_rule now ≡ map flat_rule old ++ map f (range_with_len 0 t) → new ≡ now ++ rule ∷ []
    → flat_rule rule ≡ f t → map flat_rule new ≡ map flat_rule old ++ map f (range_with_len 0 (t + 1))
one_more_tick old now new f t rule is pushed made =
    ap (map flat_rule) pushed ∙ map-append flat_rule now (rule ∷ []) ∙ ap₂ (λ xs x. xs ++ x ∷ []) is made
    ∙ append_assoc (map flat_rule old) (map f (range_with_len 0 t)) (f t ∷ []) ∙ ap (λ xs. map flat_rule old ++ xs) (sym (to_tick f t))

-- the slots of a vehicle at a tick that isn't past the last
pub track_room : (track : Track) (tick ticks most : ℕ) → tick ≤ ticks → track_slot track (ticks * 3 + 2) < most → track_slot track (tick * 3 + 2) < most
track_room (Track.Found first) tick ticks most small room = omega (arith, small, room)
track_room (Track.Missing past) tick ticks most small room = room

-- What is known of a sound expression that is a value.
use Rattle.std.proofs.Common.{◌≡◌, ℕ, ◌*◌, ◌≤◌, ◌<◌, Bool, true, false, ◌&&◌, arith}
use Rattle.std.specs.Prelude.{nat_lt, nat_le}
use Rattle.osc_base.specs.Comparisons.{greatest_part}
use Rattle.scene_conditions.specs.expr_nodes.Kinds.{is_truth}
use Rattle.scene_conditions.specs.expr_nodes.Typed.{Typed, kind, scale, reach}
use Rattle.scene_conditions.specs.expr_nodes.Parts.{is_scalar}
use Rattle.scene_conditions.specs.expr_nodes.Sound.{is_sound, each_read}
use Rattle.scene_conditions.specs.composition.Scenes.{Scene, source}
use Rattle.scene_conditions.specs.composition.Invariants.{is_read, is_expression}
use Rattle.scene_slots.specs.field_flatten.Rules.{layout}
use Rattle.scene_slots.specs.field_flatten.Seen.{has_values}
use Rattle.scene_slots.proofs.of_field_flatten.Tests.{left_of, right_of}
use Rattle.scene_slots.specs.flat_shapes.Room.{is_small, has_room}
use Rattle.scene_slots.proofs.of_flat_shapes.Rooms.{room_law}

small_is : (n : ℕ) → n ≤ greatest_part → is_small n ≡ true
small_is n h = by n greatest_part h
  where
    by : (a b : ℕ) → a ≤ b → nat_le a b ≡ true
    by a b k = grind arith

pub not_above : (n : ℕ) → nat_lt greatest_part n ≡ false → n ≤ greatest_part
not_above n h = by greatest_part n h
  where
    by : (a b : ℕ) → nat_lt a b ≡ false → b ≤ a
    by a b k = grind arith

-- what is known of a sound value
pub record Known (t : Typed) : Type 0 where
  pub above : 0 < scale t
  pub small : reach t ≤ greatest_part
  pub unit : is_truth (kind t) ≡ true → scale t ≡ 1
  pub room : (e k : ℕ) → e ≡ scale t * k → 0 < k → reach t * k ≤ greatest_part → e ≤ greatest_part → has_room e t ≡ true

pub known : (scene : Scene) (t : Typed) → is_expression scene t ≡ true → has_values t ≡ true → Known t
known scene t h v =
    let sound = left_of (is_sound t) (each_read (λ i path per. is_read scene i path per (source scene path)) t)
    (right_of (is_scalar t) (is_sound t && each_read (λ i path per. is_read scene i path per (source scene path)) t) h) in
    let r = room_law greatest_part (omega arith) small_is not_above (layout scene) t sound v in
    record { above = r.above; small = r.small; unit = r.unit; room = r.room }

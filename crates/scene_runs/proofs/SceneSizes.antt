-- How many ticks and slots an expanded scene has.
use Rattle.std.proofs.Common.{◌≡◌, ℕ, ◌≤◌, ◌<◌, ◌^◌, true, arith}
use Rattle.std.specs.Prelude.{nat_lt}
use Rattle.scene_slots.specs.composition.Scenes.{Scene}
use Rattle.scene_slots.specs.field_flatten.Exactness.{IsExpanded}
use Rattle.scene_slots.specs.flat_shapes.Room.{longest_tick}
use Rattle.scene_slots.proofs.of_field_flatten.of_composition.Settings.{setting_is}
use Rattle.scene_slots.specs.Numbers.{past}

less : (n m : ℕ) → nat_lt n m ≡ true → n < m
less n m h = grind arith

module _ (scene : Scene) (expanded : IsExpanded scene) where
  pub few_ticks : scene.setting.ticks ≤ 600
  few_ticks = (setting_is scene.setting expanded.is_scene.setting).few_ticks

  pub short_tick : scene.setting.tick ≤ longest_tick
  short_tick = (setting_is scene.setting expanded.is_scene.setting).short_tick

  pub few_slots : past scene < 2 ^ 32
  few_slots = less (past scene) (2 ^ 32) expanded.is_scene.few_slots

-- A run within the limits of its scene, so that each number that an expression reads is within reach.
use Rattle.std.specs.Prelude.{◌≡◌, true, length, nat_le}
use Rattle.std.specs.List.{list_all}
use Rattle.expr_value.specs.expr_nodes.Sizes.{field_reach}
use Rattle.field_flatten.specs.composition.declared.run.Run.{Run}
use Rattle.field_flatten.specs.composition.Scenes.{Scene}
use Rattle.field_flatten.specs.composition.Claims.{Claim, end_claim, bounds_claims}
use Rattle.field_flatten.specs.composition.Invariants.{IsScene}
use Rattle.field_flatten.specs.Exactness.{is_narrow_range}

-- What the check of a run needs of a scene: what holds of every scene; a text's number, which is its place, is at most what a field may hold; and
-- no part of a comparison with an end of a modifier's range passes the limit of fractions. All three hold of a scene that is `IsExpanded` and `IsLimited`.
pub record IsCheckable (scene : Scene) : Type 0 where
  pub is_scene : IsScene scene
  pub few_texts : nat_le (length scene.texts) field_reach ≡ true
  pub narrow_ranges : list_all is_narrow_range scene.modifiers ≡ true

-- the scene can be checked; the run ends when it is to end, and everything in it is in range
pub record IsWithin (scene : Scene) (run : Run) : Type 0 where
  pub is_scene : IsScene scene
  pub few_texts : nat_le (length scene.texts) field_reach ≡ true
  pub narrow_ranges : list_all is_narrow_range scene.modifiers ≡ true
  pub ended : (end_claim scene run).holds ≡ true
  pub bounded : list_all (λ (c : Claim). c.holds) (bounds_claims scene run) ≡ true

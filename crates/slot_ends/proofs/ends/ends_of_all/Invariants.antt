use Rattle.std.proofs.Common.{◌≡◌, map, take}
use Rattle.scene_slots.specs.composition.SeenScenes.{seen_scene}
use Rattle.scene_slots.specs.field_flatten.Ends.{ends_of}
use Rattle.slot_ends.proofs.ends.ends_of_all.Given as goal

abbrev pub invariant-names : goal.invariant-names
invariant-names l = l.pairs ≡ map (ends_of (seen_scene l.scene)) (take l.name-index l.names)

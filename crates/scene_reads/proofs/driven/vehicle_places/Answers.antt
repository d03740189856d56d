use Rattle.std.proofs.Common.{◌∙◌, ap, map}
use Rattle.composition.specs.Scenes.{vehicles}
use Rattle.composition.specs.SeenScenes.{seen_scene}
use Rattle.composition.specs.path_index.Places.{place_at}
use Rattle.scene_reads.specs.Vehicles.{vehicle_path}
use Rattle.scene_reads.proofs.DrivenPaths.{driven_at}
use Rattle.scene_reads.proofs.driven.vehicle_places.Goals as goal

pub returns : goal.returns
returns c = λ path.
    driven_at path c.as_slice.result.now (vehicles (seen_scene c.args.scene.now)) (place_at c.in_ok-places.places path)
    (ap (map vehicle_path) c.as_slice.ensures.value ∙ c.in_ok-vehicles.ensures ∙ c.vehicles.ensures) (c.in_ok-places.ensures.places path)

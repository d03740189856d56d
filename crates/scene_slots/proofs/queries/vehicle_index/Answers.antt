use Rattle.std.proofs.Common.{◌∙◌, sym, ap, subst, map, IfOk, List}
use Rattle.osc_base.specs.declared.path.Path.{Path}
use Rattle.osc_base.specs.Paths.{same_path}
use Rattle.std.proofs.lemmas.Result.{IfOk-weaker}
use Rattle.path_index.specs.Places.{Places}
use Rattle.scene_slots.specs.declared.queries.Vehicle.{Vehicle}
use Rattle.scene_slots.proofs.FirstPlaces.{place_map}
use Rattle.scene_slots.proofs.queries.vehicle_index.Goals as goal

pub returns : goal.returns
returns c =
    subst (λ (ws : List Path). IfOk c.of.result (λ t. Places t (λ p. p) (λ v. v) ws)) (ap (map (λ (v : Vehicle). v.path)) c.as_slice.ensures.value ∙ c.in_ok-vehicles.ensures ∙ c.vehicles.ensures)
    (IfOk-weaker c.of.result _ _ (λ t places q. places q ∙ sym (place_map (λ (v : Path). same_path v q) (λ (v : Vehicle). v.path) 0 c.as_slice.result.now)) c.of.ensures.places)

use Rattle.std.proofs.Common.{◌∙◌, sym, ap, refl, []}
use Rattle.std.specs.Option.{option_map_or}
use Rattle.composition.specs.declared.part.Spot.{Spot}
use Rattle.composition.specs.SeenScenes.{seen_scene}
use Rattle.composition.proofs.Sources.{guards_of}
use Rattle.composition.proofs.scene.Scene.guards.Goals as goal

pub returns-in-Some : goal.returns-in-Some
returns-in-Some c =
    c.as_slice.ensures ∙ ap (λ o. option_map_or (λ (s : Spot). s.guards) o []) c.in-Some.ensures
    ∙ sym (guards_of (seen_scene c.args.self.now) c.args.self.now.spots refl c.args.path.now)

pub returns-in-None : goal.returns-in-None
returns-in-None c =
    ap (λ o. option_map_or (λ (s : Spot). s.guards) o []) c.in-None.ensures
    ∙ sym (guards_of (seen_scene c.args.self.now) c.args.self.now.spots refl c.args.path.now)

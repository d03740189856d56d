use Rattle.std.proofs.Common.{◌∙◌, ap, ℕ, List, bytes_eq}
use Rattle.std.specs.List.{position}
use Rattle.composition.proofs.TextPlaces.{place_is}
use Rattle.composition.proofs.scene.Scene.text_place.Goals as goal

pub returns : goal.returns
returns c =
    c.place.ensures
    ∙ place_is (bytes_eq c.as_str.result.now) c.args.self.now.texts
    ∙ ap (λ (text : List ℕ). position (bytes_eq text) c.args.self.now.texts) c.as_str.ensures

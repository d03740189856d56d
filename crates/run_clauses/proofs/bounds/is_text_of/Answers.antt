use Rattle.std.proofs.Common.{◌∙◌, sym, ap, bytes_eq}
use Rattle.std.specs.Prelude.{is_some}
use Rattle.run_entries.specs.composition.SeenScenes.{seen_scene}
use Rattle.run_entries.proofs.of_composition.TextPlaces.{any_is}
use Rattle.run_clauses.proofs.bounds.is_text_of.Goals as goal

pub returns : goal.returns
returns c = c.is_some.ensures ∙ ap is_some c.text_place.ensures ∙ sym (any_is (bytes_eq c.args.text.now) (seen_scene c.args.scene.now).texts)

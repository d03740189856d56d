use Rattle.std.proofs.Common.{◌∙◌, ap}
use Rattle.std.specs.Prelude.{flat_map}
use Rattle.std.proofs.lemmas.Result.{IfOk-weaker}
use Rattle.type_heads.specs.UnitsPlaced.{units_placed}
use Rattle.type_heads.proofs.FileLists.{units_among}
use Rattle.type_heads.proofs.units.unit_entries.Goals as goal

pub returns : goal.returns
returns c = IfOk-weaker c.units_among.result _ _ (λ units is. is ∙ ap (flat_map units_placed) c.as_slice.ensures.value ∙ units_among c.args.declarations.now.placed.items) c.units_among.ensures

use Rattle.std.proofs.Common.{◌≡◌, ◌∙◌, Some, rules, ap, option_map, bytes_eq}
use Rattle.std.specs.Prelude.{find}
use Rattle.string_texts.specs.type_heads.Table.{TableUnit}
use Rattle.string_texts.specs.type_heads.Told.{Told}
use Rattle.string_texts.specs.type_heads.Shown.{shown_unit, unit_parts}
use Rattle.type_model.proofs.SoundUnits.{unit_found}
use Rattle.type_model.proofs.types.Types.unit.Goals as goal

pub returns-in-Some : goal.returns-in-Some
returns-in-Some c =
    let is : Some c.in-Some.unit.now ≡ find (λ (u : TableUnit). bytes_eq u.name c.args.name.now) c.self.inside.units = search rules in
    unit_found c.self.inside.units c.args.name.now c.in-Some.unit.now (option_map shown_unit c.unit.result) (c.self.invariant.sound_units c.args.name.now) is c.unit.ensures
    ∙ ap (λ (told : Told). option_map unit_parts (find (λ (u : TableUnit). bytes_eq u.name c.args.name.now) told.table.units)) c.self.view_is

use Rattle.std.proofs.Common.{◌∙◌, ap, List, [], ◌∷◌, Option, None, false}
use Rattle.std.specs.Option.{option_map_or}
use Rattle.type_members.specs.osc_base.declared.fault.FaultCode.{FaultCode}
use Rattle.type_members.specs.osc_base.FaultRows.{FaultRow, first_from, row}
use Rattle.type_members.specs.units_si.declared.units.Exponents.{Exponents}
use Rattle.type_members.specs.type_heads.Table.{form, named}
use Rattle.type_members.specs.type_heads.Units.{exponents_of}
use Rattle.type_members.specs.type_heads.HeadingFaults.{bracket_rows, differ, is_physical, kind_row, unknown_row}
use Rattle.fault_sets.proofs.RowSteps.{two}
use Rattle.heading_faults.proofs.declared.with_unit_declaration.Goals as goal

pub returns : goal.returns
returns c =
    let later : Option Exponents → List FaultRow = λ x.
    unknown_row c.args.heads.now c.args.unit.now.of ∷ kind_row c.args.heads.now is_physical c.args.unit.now.of
    ∷ row c.args.unit.now.name.place FaultCode.UnitClash (option_map_or (λ t. differ x (form c.args.heads.now t)) (named c.args.heads.now None c.args.unit.now.of.text) false) ∷ [] in
    two (bracket_rows [] c.args.unit.now.bases) (later (exponents_of c.args.unit.now.bases)) c.args.first c.in_ok-first.first c.with_unit.result
    (c.in_ok-first.ensures ∙ ap (λ bs. first_from c.args.first (bracket_rows [] bs)) c.as_slice-bases.ensures)
    (c.with_unit.ensures ∙ ap (λ x. first_from c.in_ok-first.first (later x)) (c.exponents-own.ensures ∙ ap exponents_of c.as_slice-bases.ensures))

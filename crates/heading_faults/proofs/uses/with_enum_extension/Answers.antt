use Rattle.std.proofs.Common.{[], ◌∷◌}
use Rattle.type_members.specs.type_heads.Table.{form, is_enum}
use Rattle.type_members.specs.type_heads.HeadingFaults.{meant_row, name_rows}
use Rattle.fault_sets.proofs.RowSteps.{two}
use Rattle.heading_faults.proofs.uses.with_enum_extension.Goals as goal

pub returns : goal.returns
returns c =
    two (name_rows c.args.heads.now c.args.extension.now.name.first c.args.extension.now.name.second)
    (meant_row c.args.heads.now (λ t. is_enum (form c.args.heads.now t)) c.args.extension.now.name ∷ [])
    c.args.first c.with_name-first.result c.with_no_enum.result c.with_name-first.ensures c.with_no_enum.ensures

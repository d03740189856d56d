use Rattle.std.proofs.Common.{◌∷◌, flat_map, map}
use Rattle.type_members.specs.dsl_tree.Views.{member_tree}
use Rattle.type_members.specs.type_heads.Table.{form, has_members}
use Rattle.type_members.specs.type_heads.HeadingFaults.{meant_row, member_rows, name_rows}
use Rattle.fault_sets.proofs.RowSteps.{two}
use Rattle.heading_faults.proofs.uses.with_extension.Goals as goal

pub returns : goal.returns
returns c =
    two (name_rows c.args.heads.now c.args.extension.now.name.first c.args.extension.now.name.second)
    (meant_row c.args.heads.now (λ t. has_members (form c.args.heads.now t)) c.args.extension.now.name ∷ flat_map (member_rows c.args.heads.now) (map member_tree c.args.extension.now.members))
    c.args.first c.with_name-first.result c.with_more.result c.with_name-first.ensures c.with_more.ensures

use Rattle.std.proofs.Common.{◌∙◌, ap, [], ◌++◌, flat_map, map}
use Rattle.std.specs.Option.{option_map_or}
use Rattle.type_members.specs.osc_base.FaultRows.{first_from}
use Rattle.type_members.specs.dsl_tree.declared.parts.Ident.{Ident}
use Rattle.type_members.specs.dsl_tree.Views.{compound_tree, member_tree}
use Rattle.type_members.specs.type_heads.HeadingFaults.{heir_rows, member_rows, owner_rows}
use Rattle.fault_sets.proofs.RowSteps.{two}
use Rattle.heading_faults.proofs.uses.with_compound.Goals as goal

pub returns : goal.returns
returns c =
    two
    (option_map_or (λ (second : Ident). owner_rows c.args.heads.now c.args.declared.now.name.first) c.args.declared.now.name.second []
    ++ option_map_or (heir_rows c.args.heads.now (compound_tree c.args.declared.now)) c.args.declared.now.heir [])
    (flat_map (member_rows c.args.heads.now) (map member_tree c.args.declared.now.members))
    c.args.first c.with_heading-first.result c.with_members.result c.with_heading-first.ensures
    (c.with_members.ensures ∙ ap (λ ms. first_from c.with_heading-first.result (flat_map (member_rows c.args.heads.now) (map member_tree ms))) c.as_slice.ensures)

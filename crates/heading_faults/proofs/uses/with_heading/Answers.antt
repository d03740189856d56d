use Rattle.std.proofs.Common.{[]}
use Rattle.std.specs.Option.{option_map_or}
use Rattle.type_members.specs.dsl_tree.declared.parts.Ident.{Ident}
use Rattle.type_members.specs.dsl_tree.Views.{compound_tree}
use Rattle.type_members.specs.type_heads.HeadingFaults.{heir_rows, owner_rows}
use Rattle.fault_sets.proofs.RowSteps.{two}
use Rattle.heading_faults.proofs.uses.with_heading.Goals as goal

pub returns : goal.returns
returns c =
    two (option_map_or (λ (second : Ident). owner_rows c.args.heads.now c.args.declared.now.name.first) c.args.declared.now.name.second [])
    (option_map_or (heir_rows c.args.heads.now (compound_tree c.args.declared.now)) c.args.declared.now.heir [])
    c.args.first c.with_own_owner-first.result c.with_heir.result c.with_own_owner-first.ensures c.with_heir.ensures

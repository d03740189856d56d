use Rattle.fault_sets.proofs.RowSteps.{two}
use Rattle.type_members.specs.type_heads.HeadingFaults.{name_rows}
use Rattle.heading_faults.proofs.heirs.with_base.Goals as goal

pub returns : goal.returns
returns c = two (name_rows c.args.heads.now c.args.heir.now.base.first c.args.heir.now.base.second) _ c.args.first c.with_name-first.result c.with_meaning.result c.with_name-first.ensures c.with_meaning.ensures

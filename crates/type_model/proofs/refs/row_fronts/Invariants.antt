use Rattle.std.proofs.Common.{◌≡◌, ◌++◌, drop}
use Rattle.type_tables.specs.type_members.Shared.{fronts_in}
use Rattle.type_model.proofs.refs.row_fronts.Given as goal

abbrev pub invariant-loop-row : goal.invariant-loop-row
invariant-loop-row l = l.all.items ++ fronts_in (drop l.row-index l.rows) ≡ fronts_in l.rows

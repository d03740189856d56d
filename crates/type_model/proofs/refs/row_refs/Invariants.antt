use Rattle.std.proofs.Common.{◌≡◌, ◌++◌, drop, map}
use Rattle.type_tables.specs.type_members.Listed.{seen_row}
use Rattle.type_model.specs.RowRefs.{ref_of}
use Rattle.type_model.proofs.refs.row_refs.Given as goal

abbrev pub invariant-loop-row : goal.invariant-loop-row
invariant-loop-row l = l.all.items ++ map (map ref_of) (map seen_row (drop l.row-index l.rows)) ≡ map (map ref_of) (map seen_row l.rows)

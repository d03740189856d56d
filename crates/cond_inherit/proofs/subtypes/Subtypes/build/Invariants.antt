use Rattle.std.proofs.Common.{◌≡◌, ℕ, [], ◌++◌, drop, map, slice_index_or}
use Rattle.std.specs.Prelude.{filter_map}
use Rattle.type_model.specs.type_heads.Table.{numbers_from}
use Rattle.cond_inherit.specs.SubtypeConditions.{condition_under, conditions_on, seen_condition}
use Rattle.cond_inherit.proofs.subtypes.Subtypes.build.Given as goal

abbrev pub invariant-loop-number : goal.invariant-loop-number
invariant-loop-number l = (b : ℕ) → map seen_condition (slice_index_or l.rows.items b []) ++ filter_map (condition_under l.types b) (numbers_from l.number (drop l.number l.types.table.heads))
    ≡ conditions_on l.types b

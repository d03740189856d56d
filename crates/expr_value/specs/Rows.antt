-- Rows of parts, and what is known of a count.
use Rattle.std.specs.Prelude.{◌≡◌, ℕ, ℤ, ◌*ℤ◌, ◌&&◌, ◌||◌}
use Rattle.expr_nodes.specs.osc_base.declared.path.Path.{Path}
use Rattle.expr_nodes.specs.declared.node.Join.{Join}
use Rattle.expr_nodes.specs.Typed.{Typed}
use Rattle.expr_nodes.specs.Sizes.{Size, size, unit_size, joined, multiplied}
use Rattle.expr_nodes.specs.Seen.{seen_size}
use Rattle.expr_value.specs.declared.count.Count.{Count}
use Rattle.expr_value.specs.Counted.{counted, sum_count, truth_count, is_full}

-- the size of two parts, joined
abbrev pub join_size : Join → Size → Size → Size
join_size Join.Sum a b = joined a b
join_size Join.Times a b = multiplied a b
join_size Join.And a b = unit_size
join_size Join.Or a b = unit_size

-- the count of two parts, joined
abbrev pub join_count : Join → ℕ → ℤ → ℕ → ℤ → ℤ
join_count Join.Sum s n t m = sum_count s n t m
join_count Join.Times s n t m = n *ℤ m
join_count Join.And s n t m = truth_count (is_full s n && is_full t m)
join_count Join.Or s n t m = truth_count (is_full s n || is_full t m)

-- this is the count of an expression
pub record IsCount (held : Path → ℤ) (t : Typed) (c : Count) : Type 0 where
  pub sized : seen_size c.size ≡ size t
  pub same : c.count ≡ counted held t

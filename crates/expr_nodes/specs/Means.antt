-- When a typed expression, such as one whose rows of operators are balanced, means what another does.
use Rattle.std.specs.Prelude.{◌≡◌, ℤ, true, Option}
use Rattle.type_model.specs.osc_base.declared.path.Path.{Path}
use Rattle.expr_nodes.specs.Typed.{Typed, info, reads}
use Rattle.expr_nodes.specs.Value.{value}
use Rattle.expr_nodes.specs.Sound.{is_sound}

-- it is sound, has the same kind and size, reads the same paths in the same order, and has the same value whatever these hold
pub record Means (t other : Typed) : Type 0 where
  pub sound : is_sound t ≡ true
  pub same_info : info t ≡ info other
  pub same_reads : reads t ≡ reads other
  pub same_value : (held : Path → Option ℤ) → value held t ≡ value held other

-- What is known of values by the definitions alone.
use Rattle.std.specs.Prelude.{◌≡◌, ℤ, pos, ◌≤ℤ◌, true}
use Rattle.expr_nodes.specs.osc_base.declared.path.Path.{Path}
use Rattle.expr_nodes.specs.Typed.{Typed}
use Rattle.expr_nodes.specs.Value.{worth}
use Rattle.expr_nodes.specs.Sound.{is_sound}

-- the value of a sound expression has a denominator above 0, whatever its paths hold
abbrev pub WorthsAreFractions : Type 0
WorthsAreFractions = (held : Path → ℤ) (t : Typed) → is_sound t ≡ true → pos 1 ≤ℤ (worth held t).denominator

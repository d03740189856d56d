-- What is held at the paths that an expression reads.
use Rattle.std.specs.Prelude.{ℕ, ℤ, pos, Bool, true, not, nat_lt, Option, is_some, unwrap_or, unsigned_abs}
use Rattle.std.specs.Option.{option_map_or}
use Rattle.std.specs.List.{list_all}
use Rattle.expr_nodes.specs.osc_base.declared.path.Path.{Path}
use Rattle.expr_nodes.specs.Typed.{Typed, Info, reads}

-- a number that is held is within the reach of what reads it
abbrev pub in_reach : (Path → Option ℤ) → Info → Path → ℕ → Bool
in_reach told i path per = option_map_or (λ n. not (nat_lt i.reach (unsigned_abs n))) (told path) true

-- the number that a path holds, or 0
abbrev pub known : (Path → Option ℤ) → Path → ℤ
known told path = unwrap_or (told path) (pos 0)

-- each path that an expression reads holds a number
abbrev pub are_held : (Path → Option ℤ) → Typed → Bool
are_held told t = list_all (λ p. is_some (told p)) (reads t)

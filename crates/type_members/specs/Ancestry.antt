-- Lines of types that inherit from one another.
use Rattle.std.specs.Prelude.{ℕ, zero, suc, List, Option, Some, None, ⊤}
use Rattle.type_heads.specs.Table.{TypeHead, base}

-- there are d types from o on, each the base of the one before
abbrev pub HasEnd : List TypeHead → Option ℕ → ℕ → Type 0
HasEnd heads None zero = ⊤
HasEnd heads None (suc d) = ⊥
HasEnd heads (Some t) zero = ⊥
HasEnd heads (Some t) (suc d) = HasEnd heads (base heads t) d

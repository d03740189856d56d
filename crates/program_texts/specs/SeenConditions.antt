-- Conditions, one conditional subtype at a time.
use Rattle.std.specs.Prelude.{ℕ, ◌∷◌, [], ◌++◌, List, flat_map, option_to_list}
use Rattle.osc_base.specs.declared.path.Path.{Path}
use Rattle.osc_base.specs.Paths.{then_name}
use Rattle.program_calls.specs.type_heads.Conditions.{Condition, condition}
use Rattle.program_calls.specs.type_heads.Members.{field}
use Rattle.program_calls.specs.type_heads.Types.{Field, Types}
use Rattle.program_calls.specs.cond_inherit.Conditions.{conditions_within}
use Rattle.program_calls.specs.composition.declared.guard.Guard.{Guard}

-- the conditions that a field is under
abbrev pub conditions_of_field : ℕ → Types → ℕ → List ℕ → List Condition
conditions_of_field steps ts t name = flat_map (λ (f : Field). conditions_within steps ts t f.under) (option_to_list (field ts t name))

-- a condition after those that its field is under
abbrev pub with_earlier : ℕ → Types → ℕ → Condition → List Condition
with_earlier steps ts t c = conditions_of_field steps ts t c.field ++ c ∷ []

-- the condition of a conditional subtype, after those that its field is under
abbrev pub conditions_after : ℕ → Types → ℕ → ℕ → List Condition
conditions_after steps ts t subtype = flat_map (with_earlier steps ts t) (option_to_list (condition ts subtype))

-- the guard of a condition on an object
abbrev pub guard_of : Path → Condition → Guard
guard_of object c = Guard.Value (then_name object c.field) c.value

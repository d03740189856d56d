-- Under which values of an object's fields a member is there.
use Rattle.std.specs.Prelude.{ℕ, zero, suc, ◌&&◌, Bool, cond, List, [], ◌∷◌, ◌++◌, length, bytes_eq, flat_map, filter_map, option_to_list}
use Rattle.std.specs.List.{list_any}
use Rattle.std.specs.Ordering.{int_eq}
use Rattle.type_model.specs.type_heads.Types.{Types}
use Rattle.type_model.specs.type_heads.Members.{field}
use Rattle.type_model.specs.type_heads.Conditions.{Condition, condition}

-- two conditions ask for one value of one field
abbrev pub same_condition : Condition → Condition → Bool
same_condition c d = bytes_eq c.field d.field && int_eq c.value d.value

-- each condition once, at its first place
abbrev pub once_after : List Condition → List Condition → List Condition
once_after seen [] = []
once_after seen (c ∷ cs) = cond (list_any (same_condition c) seen) (once_after seen cs) (c ∷ once_after (c ∷ seen) cs)

-- The conditions of conditional subtypes in an object of type t, each after those that its own field is under. The fields of a chain of
-- conditions belong to different types, so there are at most as many steps as types.
abbrev pub conditions_within : ℕ → Types → ℕ → List ℕ → List Condition
conditions_within zero ts t under = []
conditions_within (suc steps) ts t under =
    flat_map (λ (c : Condition). flat_map (λ f. conditions_within steps ts t f.under) (option_to_list (field ts t c.field)) ++ c ∷ []) (filter_map (condition ts) under)

-- the conditions under which a member of an object of type t is there, given the conditional subtypes that the member is under
abbrev pub conditions : Types → ℕ → List ℕ → List Condition
conditions ts t under = once_after [] (conditions_within (length ts.table.heads) ts t under)

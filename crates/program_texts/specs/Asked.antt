-- Conditions that are gathered, each once, and the conditional subtypes that are done.
use Rattle.std.specs.Prelude.{◌≡◌, ℕ, ◌≤◌, Bool, true, false, cond, List, [], ◌∷◌, ◌++◌, Option, Some, map, nat_eq, nat_le}
use Rattle.std.specs.Option.{option_map_or}
use Rattle.std.specs.List.{list_all, list_any}
use Rattle.indexmap.specs.IndexMap.{get}
use Rattle.program_calls.specs.type_heads.Conditions.{Condition}
use Rattle.program_calls.specs.type_heads.Types.{Types}
use Rattle.program_calls.specs.cond_inherit.Conditions.{same_condition}
use Rattle.program_calls.specs.cond_inherit.SubtypeConditions.{seen_condition}
use Rattle.program_texts.specs.SeenConditions.{conditions_after}
use Rattle.program_texts.specs.declared.asked.AskedConditions.{AskedConditions}

-- one of them asks for the same as a condition
abbrev pub asks : List Condition → Condition → Bool
asks kept c = list_any (same_condition c) kept

-- a condition that is put at the end, unless it is asked for before
abbrev pub once_more : List Condition → Condition → List Condition
once_more kept c = cond (asks kept c) [] (c ∷ [])

-- conditions that are put at the end, one by one
abbrev pub adds : List Condition → List Condition → List Condition
adds kept [] = kept
adds kept (c ∷ cs) = adds (kept ++ once_more kept c) cs

-- the conditions that are kept
abbrev pub seen_kept : AskedConditions → List Condition
seen_kept a = map seen_condition a.kept.items

-- with how many steps a conditional subtype was done
abbrev pub steps_done : AskedConditions → ℕ → Option ℕ
steps_done a subtype = get nat_eq a.done subtype

-- it was done with so many steps or more
abbrev pub is_done : Option ℕ → ℕ → Bool
is_done most steps = option_map_or (nat_le steps) most false

-- all conditions of subtypes that are done are asked for
abbrev pub Covers : Types → ℕ → List Condition → (ℕ → Option ℕ) → Type 0
Covers ts t kept done = (subtype steps most : ℕ) → done subtype ≡ Some most → steps ≤ most → list_all (asks kept) (conditions_after steps ts t subtype) ≡ true

-- some conditions came in, and what is done is still asked for
unfoldable pub IsGathered : Types → ℕ → AskedConditions → AskedConditions → List Condition → Type 0
IsGathered ts t old new cs =
    Covers ts t (seen_kept old) (steps_done old) → (seen_kept new ≡ adds (seen_kept old) cs) × Covers ts t (seen_kept new) (steps_done new)

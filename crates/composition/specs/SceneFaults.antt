-- The faults of the named scenario: there is none, or what it expands to is too large.
use Rattle.std.specs.Prelude.{ℕ, ◌+◌, ◌*◌, ◌||◌, Bool, true, false, cond, List, [], ◌∷◌, Option, Some, None, length, filter, sum_by, nat_lt, option_and_then}
use Rattle.expr_nodes.specs.osc_base.declared.fault.Place.{Place}
use Rattle.expr_nodes.specs.osc_base.declared.fault.FaultCode.{FaultCode}
use Rattle.expr_nodes.specs.osc_base.FaultRows.{FaultRow, row}
use Rattle.cond_inherit.specs.type_heads.Table.{form, named, is_scenario}
use Rattle.cond_inherit.specs.type_heads.Types.{Types}
use Rattle.cond_inherit.specs.type_heads.Members.{body}
use Rattle.composition.specs.declared.setting.Setting.{Setting}
use Rattle.composition.specs.Scenes.{Content, Spot, Scene}
use Rattle.composition.specs.Slots.{slot_names}
use Rattle.composition.specs.Items.{items}
use Rattle.composition.specs.Expansion.{Expansion, expansion}
use Rattle.composition.specs.Expanded.{givens_of, modifiers_of, scene_from}

-- the most objects, and the most slots
abbrev pub most_slots : ℕ
most_slots = 65536

-- the most rules
abbrev pub most_rules : ℕ
most_rules = 262144

-- the most copied tokens
abbrev pub most_tokens : ℕ
most_tokens = 4194304

-- ---- counts

-- the spot is an object
abbrev pub is_object_spot : Content → Bool
is_object_spot (Content.Object vehicle) = true
is_object_spot _ = false

-- the number of objects
abbrev pub object_count : Scene → ℕ
object_count scene = length (filter (λ (s : Spot). is_object_spot s.content) scene.spots)

-- the tokens of each constraint's source, and those between a modifier's brackets once for each tick
abbrev pub token_count : Expansion → Setting → ℕ
token_count tree setting = sum_by (λ g. g.tokens) (givens_of tree) + (setting.ticks + 1) * sum_by (λ g. g.tokens) (modifiers_of tree)

-- one of the counts passes its limit
abbrev pub passes : Expansion → Scene → Bool
passes tree scene =
    nat_lt most_slots (object_count scene)
    || (nat_lt most_slots (length (slot_names scene))
    || (nat_lt most_rules (length (items scene))
    || nat_lt most_tokens (token_count tree scene.setting)))

-- a scenario is too large under a setting
abbrev pub is_too_large : Types → ℕ → Setting → Bool
is_too_large ts t setting = let tree = expansion ts t in passes tree (scene_from ts setting tree)

-- ---- faults

-- the scenario of that name, with its owner if it has one
abbrev pub named_scenario : Types → Option (List ℕ) → List ℕ → Option ℕ
named_scenario ts owner name = option_and_then (λ t. cond (is_scenario (form ts.table.heads t)) (Some t) None) (named ts.table.heads owner name)

-- the faults of a scenario that is there or isn't
abbrev pub rows_of : Types → Place → Setting → Option ℕ → List FaultRow
rows_of ts end setting None = row end FaultCode.NoScenario true ∷ []
rows_of ts end setting (Some t) = row (body ts.bodies t).place FaultCode.TooMany (is_too_large ts t setting) ∷ []

-- the faults of the scenario that is named; `end` is the place after the main file
abbrev pub scene_rows : Types → Place → Option (List ℕ) → List ℕ → Setting → List FaultRow
scene_rows ts end owner name setting = rows_of ts end setting (named_scenario ts owner name)

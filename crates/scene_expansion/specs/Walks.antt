-- The nodes of works that are laid out and of those that are left.
use Rattle.std.specs.Prelude.{ℕ, List, ◌∷◌, [], ◌++◌, map, flat_map, reverse}
use Rattle.program_calls.specs.type_heads.Types.{Types}
use Rattle.program_calls.specs.composition.declared.setting.Setting.{Setting}
use Rattle.program_calls.specs.composition.Scenes.{Binding, ModifierSpot, Scene}
use Rattle.program_calls.specs.composition.Expansion.{GivenModifier}
use Rattle.program_calls.specs.composition.Expanded.{modifier_of}
use Rattle.scene_expansion.specs.declared.work.Work.{Work as OwnWork}
use Rattle.scene_texts.specs.expansion_laws.Nodes.{Node}
use Rattle.scene_texts.specs.expansion_laws.Laid.{spots_laid, bindings_laid}
use Rattle.scene_texts.specs.expansion_laws.Works.{Work}
use Rattle.scene_texts.specs.expansion_laws.WorkNodes.{node_of, nodes_for, closed_for}
use Rattle.scene_expansion.specs.SeenWorks.{seen_work}

-- the nodes of works that are laid out
abbrev pub nodes_done : Types → List OwnWork → List Node
nodes_done ts done = map (node_of ts) (map seen_work done)

-- those, and then the nodes of what is left, the last of which is laid out first
abbrev pub nodes_before : Types → List OwnWork → List OwnWork → List Node
nodes_before ts done left = nodes_done ts done ++ flat_map (nodes_for ts) (map seen_work (reverse left))

-- the nodes of what is left, and then those that are laid out, the last one first
abbrev pub nodes_after : Types → List OwnWork → List OwnWork → List Node
nodes_after ts done left = flat_map (closed_for ts) (map seen_work left) ++ nodes_done ts (reverse done)

-- the nodes of a work and of those in it, each before those in it
abbrev pub whole_before : Types → Work → List Work → List Node
whole_before ts root parts = node_of ts root ∷ flat_map (nodes_for ts) parts

-- each after those in it
abbrev pub whole_after : Types → Work → List Work → List Node
whole_after ts root parts = flat_map (closed_for ts) parts ++ node_of ts root ∷ []

-- a modifier at its home
abbrev pub modifier_at : List Binding → GivenModifier → ModifierSpot
modifier_at bindings g = modifier_of bindings g.modifier

-- the scene of parts without their constraints and modifiers
abbrev pub bare_scene : Setting → List (List ℕ) → List Node → Scene
bare_scene setting texts nodes = record {
  spots = spots_laid nodes;
  bindings = bindings_laid nodes;
  occurrences = [];
  modifiers = [];
  setting = setting;
  texts = texts;
}

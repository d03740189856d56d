-- What is there in a run.
use Rattle.std.specs.Prelude.{◌&&◌, Bool, false, cond, List, [], ◌∷◌, ◌++◌, Option, flat_map, nat_eq, option_to_list, ℤ}
use Rattle.std.specs.Option.{option_map_or}
use Rattle.std.specs.List.{list_any, list_all}
use Rattle.expr_nodes.specs.osc_base.declared.path.Path.{Path}
use Rattle.expr_nodes.specs.osc_base.declared.mark.Strength.{Strength}
use Rattle.expr_nodes.specs.osc_base.declared.mark.Mark.{Mark}
use Rattle.expr_nodes.specs.osc_base.Paths.{same_path}
use Rattle.expr_nodes.specs.osc_base.Comparisons.{same_number}
use Rattle.expr_nodes.specs.Typed.{Typed, reads}
use Rattle.composition.specs.declared.guard.Guard.{Guard}
use Rattle.composition.specs.declared.run.Held.{Held}
use Rattle.composition.specs.declared.run.Run.{Run}
use Rattle.composition.specs.RunParts.{choice_in, held_in}
use Rattle.composition.specs.Scenes.{Scene, Occurrence, ModifierSpot, guards}

-- ---- conditions

-- it holds this number
abbrev pub is_number : ℤ → Held → Bool
is_number n (Held.Number m) = same_number m n
is_number n (Held.Chars text) = false

-- a condition is met if the run's entry for its path says so; without an entry it isn't met
abbrev pub is_met : Run → Guard → Bool
is_met run (Guard.Choice phase member) = option_map_or (nat_eq member) (choice_in run phase) false
is_met run (Guard.Value path value) = option_map_or (is_number value) (held_in run path) false

-- all conditions are met
abbrev pub are_met : Run → List Guard → Bool
are_met run conditions = list_all (is_met run) conditions

-- one condition
abbrev pub same_guard : Guard → Guard → Bool
same_guard (Guard.Choice a m) (Guard.Choice b n) = nat_eq m n && same_path a b
same_guard (Guard.Value a v) (Guard.Value b w) = same_number v w && same_path a b
same_guard _ _ = false

-- each of them once, at its first place, without those that stand before
abbrev pub once_after : List Guard → List Guard → List Guard
once_after before [] = []
once_after before (g ∷ gs) = cond (list_any (same_guard g) before) (once_after before gs) (g ∷ once_after (g ∷ before) gs)

-- each condition once, at its first place
abbrev pub once : List Guard → List Guard
once conditions = once_after [] conditions

-- ---- spots, constraints and modifiers

-- what stands at a path is there
abbrev pub is_there : Scene → Run → Path → Bool
is_there scene run path = are_met run (guards scene path)

-- the paths that an expression reads, if there is one
abbrev pub read_by : Option Typed → List Path
read_by typed = flat_map reads (option_to_list typed)

-- a removed target counts as read
abbrev pub removed : Mark → List Path
removed mark = only_removed mark.strength (option_to_list mark.target)
  where
    only_removed : Strength → List Path → List Path
    only_removed Strength.Hard paths = []
    only_removed Strength.Default paths = []
    only_removed Strength.Remove paths = paths

-- the conditions under which a constraint is there: those of its holder, those that its member is under, and those of each path that it reads
abbrev pub presence : Scene → Occurrence → List Guard
presence scene o = once (guards scene o.holder ++ o.under ++ flat_map (guards scene) (read_by o.typed ++ removed o.mark))

-- the conditions under which a modifier is there: those of its phase, of its vehicles, and of each path that it reads
abbrev pub modifier_presence : Scene → ModifierSpot → List Guard
modifier_presence scene m = once (flat_map (guards scene) (m.phase ∷ m.own ∷ option_to_list m.other ++ read_by m.low ++ read_by m.high))

-- a constraint is there
abbrev pub is_asked : Scene → Run → Occurrence → Bool
is_asked scene run o = are_met run (presence scene o)

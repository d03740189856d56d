-- The first constraint that fails.
use Rattle.std.specs.Prelude.{ℕ, ◌+◌, ◌&&◌, Bool, true, false, cond, not, List, [], ◌∷◌, Option, Some, None, find}
use Rattle.std.specs.Option.{option_map_or}
use Rattle.osc_base.specs.declared.mark.Strength.{Strength}
use Rattle.scene_conditions.specs.keep_rules.Overriding.{overriders, is_default}
use Rattle.scene_conditions.specs.composition.declared.run.Run.{Run}
use Rattle.scene_conditions.specs.composition.Scenes.{Scene, Occurrence, marks}
use Rattle.scene_conditions.specs.composition.There.{is_asked}
use Rattle.scene_conditions.specs.composition.Items.{is_satisfied, is_overridden}
use Rattle.scene_conditions.specs.composition.Invariants.{is_expression}
use Rattle.expr_nodes.specs.Typed.{Typed}

-- a constraint asks for something in every run in which it is there
abbrev pub is_hard_one : Strength → Bool
is_hard_one Strength.Hard = true
is_hard_one Strength.Default = false
is_hard_one Strength.Remove = false

-- a constraint is there, and it isn't true
abbrev pub is_untrue : Scene → Run → Occurrence → Bool
is_untrue scene run o = is_asked scene run o && not (is_satisfied scene run o)

-- a hard constraint is there, and it isn't true
abbrev pub fails_hard : Scene → Run → Occurrence → Bool
fails_hard scene run o = is_hard_one o.mark.strength && is_untrue scene run o

-- the first such constraint
abbrev pub first_hard : Scene → Run → List Occurrence → Option Occurrence
first_hard scene run os = find (fails_hard scene run) os

-- constraint i is a default that isn't overridden, is there, and isn't true
abbrev pub fails_default : Scene → Run → ℕ → Occurrence → Bool
fails_default scene run i o = (is_default o.mark.strength && not (is_overridden scene run (overriders (marks scene) i))) && is_untrue scene run o

-- the first such constraint, of those from number i on
abbrev pub first_default : Scene → Run → ℕ → List Occurrence → Option Occurrence
first_default scene run i [] = None
first_default scene run i (o ∷ os) = cond (fails_default scene run i o) (Some o) (first_default scene run (i + 1) os)

-- if there is an expression, it is sound, and reads what the scene has
abbrev pub is_sound_part : Scene → Option Typed → Bool
is_sound_part scene typed = option_map_or (is_expression scene) typed true

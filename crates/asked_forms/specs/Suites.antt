-- The rules that ask a run for other choices than those of runs that were found.
use Rattle.std.specs.Prelude.{◌&&◌, Bool, true, false, not, cond, nat_eq, List, [], ◌∷◌, Option, None, Some, map, option_map, pos}
use Rattle.std.specs.Option.{option_map_or}
use Rattle.std.specs.List.{list_all}
use Rattle.osc_base.specs.declared.path.Path.{Path}
use Rattle.osc_base.specs.declared.listing.SlotName.{SlotName}
use Rattle.osc_base.specs.Paths.{same_path}
use Rattle.box_eval.specs.FlatRules.{FlatRule, Slot, Whole, Equal, Always, Not, all_of}
use Rattle.field_flatten.specs.composition.declared.run.Run.{Run}
use Rattle.field_flatten.specs.composition.declared.run.Choice.{Choice}
use Rattle.field_flatten.specs.composition.declared.spot.ChoiceSpot.{ChoiceSpot}
use Rattle.field_flatten.specs.composition.Scenes.{Scene, choices, guards}
use Rattle.field_flatten.specs.Shapes.{Layout}
use Rattle.field_flatten.specs.Rules.{layout, presence_rules}
use Rattle.field_flatten.specs.Exactness.{IsExpanded}
use Rattle.asked_forms.specs.AskedForms.{Say}

-- ---- a run has other choices

abbrev pub same_choice : Choice → Choice → Bool
same_choice a b = nat_eq a.member b.member && same_path a.path b.path

-- the same choices in the same order
abbrev pub same_choices : List Choice → List Choice → Bool
same_choices [] [] = true
same_choices (a ∷ others) (b ∷ more) = same_choice a b && same_choices others more
same_choices _ _ = false

-- a run has other choices than these
abbrev pub has_other : List Choice → Run → Bool
has_other before run = not (same_choices run.choices before)

-- a run has other choices than each of some runs
abbrev pub has_others : List (List Choice) → Run → Bool
has_others past run = list_all (λ before. has_other before run) past

-- ---- the rules

-- what stands at a path is there
abbrev pub there : Scene → Layout → Path → FlatRule
there scene at path = all_of (presence_rules at (guards scene path))

-- What is asked of each choice of a scene, in order, if the choices at a point are to be these: one that is listed is there and has its member, and
-- another isn't there. None if the list has something that is no choice of the scene, or not in this order.
abbrev pub choice_parts : Scene → Layout → List ChoiceSpot → List Choice → Option (List FlatRule)
choice_parts scene at [] [] = Some []
choice_parts scene at [] (c ∷ cs) = None
choice_parts scene at (s ∷ ss) [] = option_map (λ later. Not (there scene at s.path) ∷ later) (choice_parts scene at ss [])
choice_parts scene at (s ∷ ss) (c ∷ cs) =
    cond (same_path s.path c.path)
    (option_map (λ later. there scene at s.path ∷ Equal (Slot (at.slot (SlotName.Choice s.path))) (Whole (pos c.member)) ∷ later) (choice_parts scene at ss cs))
    (option_map (λ later. Not (there scene at s.path) ∷ later) (choice_parts scene at ss (c ∷ cs)))

-- the choices are others; choices that no run of the scene has say nothing
abbrev pub other_rule : Scene → Layout → List Choice → FlatRule
other_rule scene at cs = option_map_or (λ parts. Not (all_of parts)) (choice_parts scene at (choices scene) cs) Always

-- the choices are others than those of each of some runs
abbrev pub past_rules : Scene → List (List Choice) → List FlatRule
past_rules scene past = map (other_rule scene (layout scene)) past

-- the rules of some runs say that a run has other choices than each of them
abbrev pub PastRulesSay : Type 0
PastRulesSay = (scene : Scene) (past : List (List Choice)) → IsExpanded scene → Say scene (past_rules scene past) (has_others past)

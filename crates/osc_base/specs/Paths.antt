-- Tests of paths, and paths made of others.
use Rattle.std.specs.Prelude.{ℕ, ◌&&◌, Bool, true, false, cond, List, [], ◌∷◌, ◌++◌, Option, Some, None, nat_eq, bytes_eq, codes}
use Rattle.osc_base.specs.declared.path.Path.{Path}
use Rattle.osc_base.specs.declared.path.Step.{Step}
use Rattle.osc_base.specs.declared.path.Step.TheVariants.{Name, Index, Member}

-- the path of these steps
abbrev pub path_of : List Step → Path
path_of steps = record { steps = steps }

-- the path of the named scenario
abbrev pub root : Path
root = path_of []

-- two steps are equal: they have an equal name, or an equal role and number
abbrev pub same_step : Step → Step → Bool
same_step (Name a) (Name b) = bytes_eq a b
same_step (Index a) (Index b) = nat_eq a b
same_step (Member a) (Member b) = nat_eq a b
same_step _ _ = false

-- two lists of steps are equal, step by step
abbrev pub same_steps : List Step → List Step → Bool
same_steps [] [] = true
same_steps (a ∷ more) (b ∷ others) = same_step a b && same_steps more others
same_steps _ _ = false

-- one path
abbrev pub same_path : Path → Path → Bool
same_path a b = same_steps a.steps b.steps

-- the path with a step more
abbrev pub then_name : Path → List ℕ → Path
then_name path name = path_of (path.steps ++ Name name ∷ [])

-- an element of the list at a path
abbrev pub then_index : Path → ℕ → Path
then_index path number = path_of (path.steps ++ Index number ∷ [])

-- a member of the phase at a path
abbrev pub then_member : Path → ℕ → Path
then_member path number = path_of (path.steps ++ Member number ∷ [])

-- where the duration of a phase is read, and that of the named scenario
abbrev pub then_duration : Path → Path
then_duration path = then_name path (codes "duration")

-- where the phase of a scenario's `do` stands
abbrev pub then_do : Path → Path
then_do path = then_name path (codes "do")

-- the steps after a prefix, if the path begins with it
abbrev pub steps_after : List Step → List Step → Option (List Step)
steps_after [] steps = Some steps
steps_after (a ∷ more) [] = None
steps_after (a ∷ more) (b ∷ others) = cond (same_step a b) (steps_after more others) None

-- the path without its last step, if that is `duration`
abbrev pub timed_part : List Step → Option (List Step)
timed_part [] = None
timed_part (Name name ∷ []) = cond (bytes_eq name (codes "duration")) (Some []) None
timed_part (Index number ∷ []) = None
timed_part (Member number ∷ []) = None
timed_part (step ∷ next ∷ later) = step_before step (timed_part (next ∷ later))
  where
    step_before : Step → Option (List Step) → Option (List Step)
    step_before s None = None
    step_before s (Some steps) = Some (s ∷ steps)

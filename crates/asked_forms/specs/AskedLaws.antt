-- Laws on forms that ask less than their scene, or more.
use Rattle.std.specs.Prelude.{◌≡◌, ℕ, ◌&&◌, ◌++◌, Bool, true, List, []}
use Rattle.box_eval.specs.declared.flat.Flat.{Flat}
use Rattle.box_eval.specs.FlatRules.{FlatRule}
use Rattle.field_flatten.specs.composition.declared.run.Run.{Run}
use Rattle.field_flatten.specs.composition.Scenes.{Scene}
use Rattle.field_flatten.specs.composition.Claims.{is_instance}
use Rattle.field_flatten.specs.Exactness.{IsExpanded}
use Rattle.asked_forms.specs.AskedForms.{all_kept, IsFormFor, is_instance_for, Say, IsExactFor}

-- the points of a form that keeps some hard constraints, and has rules that say something more, are the instances of which that is so
abbrev pub FormsAreExactFor : Type 0
FormsAreExactFor =
    (scene : Scene) (keeps : ℕ → Bool) (more : List FlatRule) (is_so : Run → Bool) (flat : Flat)
    → IsExpanded scene → Say scene more is_so → IsFormFor scene keeps more flat → IsExactFor scene keeps is_so flat

-- with all hard constraints kept, an instance is what it is in the scene
abbrev pub AllKeptIsInstance : Type 0
AllKeptIsInstance = (scene : Scene) (run : Run) → is_instance_for scene all_kept run ≡ is_instance scene run

-- an instance stays one if fewer hard constraints are kept
abbrev pub FewerKeptStay : Type 0
FewerKeptStay =
    (scene : Scene) (fewer more : ℕ → Bool) (run : Run) → ((n : ℕ) → fewer n ≡ true → more n ≡ true)
    → is_instance_for scene more run ≡ true → is_instance_for scene fewer run ≡ true

-- two rows of further rules say what both say
abbrev pub BothAreSaid : Type 0
BothAreSaid =
    (scene : Scene) (first second : List FlatRule) (is_first is_second : Run → Bool)
    → Say scene first is_first → Say scene second is_second → Say scene (first ++ second) (λ run. is_first run && is_second run)

-- no further rules say nothing
abbrev pub NothingIsSaid : Type 0
NothingIsSaid = (scene : Scene) → Say scene [] (λ run. true)

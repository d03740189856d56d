-- With which runs nothing is wrong.
use Rattle.std.specs.Prelude.{◌≡◌, None}
use Rattle.run_check.specs.composition.declared.run.Run.{Run}
use Rattle.run_check.specs.composition.Scenes.{Scene}
use Rattle.run_check.specs.composition.Claims.{IsInstance}
use Rattle.run_check.specs.Answers.{first_wrong}

-- nothing is wrong with a run exactly if it is an instance of the scene
pub record IsRightAlone (scene : Scene) (run : Run) : Type 0 where
  pub instance_if_right : first_wrong scene run ≡ None → IsInstance scene run
  pub right_if_instance : IsInstance scene run → first_wrong scene run ≡ None

-- the same of each scene and each run
abbrev pub InstancesAloneAreRight : Type 0
InstancesAloneAreRight = (scene : Scene) (run : Run) → IsRightAlone scene run

use Rattle.run_check.specs.composition.Claims.{claims}
use Rattle.instance_check.proofs.FirstClaims.{all_hold, none_fails}
use Rattle.instance_check.proofs.laws.instances_alone_are_right.Goals as goal

pub returns : goal.returns
returns c = λ scene run. record { instance_if_right = all_hold (claims scene run); right_if_instance = none_fails (claims scene run) }

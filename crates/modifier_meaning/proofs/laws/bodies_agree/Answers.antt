use Rattle.modifier_meaning.proofs.Bodies.{bodies_agree}
use Rattle.modifier_meaning.proofs.laws.bodies_agree.Goals as goal

pub returns : goal.returns
returns c = bodies_agree

use Rattle.std.proofs.Common.{◌∙◌}
use Rattle.std.proofs.lemmas.Result.{IfOk-weaker}
use Rattle.type_heads.proofs.BodyLists.{gathered_bodies}
use Rattle.type_heads.proofs.body.bodies.Goals as goal

pub returns : goal.returns
returns c = IfOk-weaker c.own_bodies.result _ _ (λ bodies is. is ∙ gathered_bodies c.args.declarations.now c.requires) c.own_bodies.ensures

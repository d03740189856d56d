use Rattle.std.proofs.Common.{◌∙◌, ap}
use Rattle.std.proofs.lemmas.Result.{IfOk-weaker}
use Rattle.type_heads.specs.DeclaredTypes.{program_of}
use Rattle.type_heads.specs.HeadsGrouped.{all_heads}
use Rattle.type_heads.proofs.HeadLists.{program_heads}
use Rattle.type_heads.proofs.heads.Heads.build.Goals as goal

pub returns : goal.returns
returns c = IfOk-weaker c.of-2.result _ _ (λ heads is. is ∙ ap all_heads c.in_ok-declarations.ensures.all ∙ program_heads (program_of c.args.program.now)) c.of-2.ensures

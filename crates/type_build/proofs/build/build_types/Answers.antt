use Rattle.std.proofs.lemmas.Result.{IfErr-weaker, IfOk-weaker}
use Rattle.type_model.specs.type_heads.DeclaredTypes.{program_of}
use Rattle.type_build.proofs.build.build_types.Goals as goal

pub with_heads-requires-clause-program : goal.with_heads-requires-clause-program
with_heads-requires-clause-program c = (program_of c.args.program.now, c.in_ok-declarations.ensures.all)

pub returns-clause-types : goal.returns-clause-types
returns-clause-types c = IfOk-weaker c.with_heads.result _ _ (λ types are. (are (program_of c.args.program.now) c.in_ok-declarations.ensures.all).0) c.with_heads.ensures.types

pub returns-clause-sound : goal.returns-clause-sound
returns-clause-sound c =
    IfOk-weaker c.with_heads.result _ _
    (λ types are. ((are (program_of c.args.program.now) c.in_ok-declarations.ensures.all).1, (are (program_of c.args.program.now) c.in_ok-declarations.ensures.all).2))
    c.with_heads.ensures.types

pub returns-clause-fault : goal.returns-clause-fault
returns-clause-fault c = IfErr-weaker c.with_heads.result _ _ (λ stop at f is. at f is (program_of c.args.program.now) c.in_ok-declarations.ensures.all) c.with_heads.ensures.fault

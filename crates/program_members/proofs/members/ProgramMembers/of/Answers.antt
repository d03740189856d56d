use Rattle.std.proofs.lemmas.Result.{IfOk-weaker}
use Rattle.type_members.specs.type_heads.DeclaredTypes.{program_of}
use Rattle.type_members.specs.type_heads.Gathered.{all_of}
use Rattle.program_members.proofs.ProgramLists.{are_members}
use Rattle.program_members.proofs.members.ProgramMembers.of.Goals as goal

pub returns : goal.returns
returns c =
    IfOk-weaker c.declared_members.result _ _
    (are_members (program_of c.args.program.now) (all_of c.in_ok-declarations.declarations) c.in_ok-declarations.ensures.all c.in_ok-heads.heads c.in_ok-heads.ensures
    c.library_of.result c.library_of.ensures)
    c.declared_members.ensures

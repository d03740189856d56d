use Rattle.std.proofs.Common.{◌∙◌}
use Rattle.std.proofs.lemmas.Result.{IfOk-weaker}
use Rattle.string_texts.specs.type_heads.DeclaredTypes.{program_of}
use Rattle.string_texts.specs.type_heads.Gathered.{all_of}
use Rattle.type_model.proofs.TypeParts.{program_lists}
use Rattle.type_model.proofs.lists.member_lists.Goals as goal

pub returns : goal.returns
returns c =
    IfOk-weaker c.declared_lists.result _ _
    (λ lists is. is ∙ program_lists (program_of c.args.program.now) (all_of c.in_ok-declarations.declarations) c.in_ok-declarations.ensures.all c.in_ok-heads.heads c.in_ok-heads.ensures)
    c.declared_lists.ensures

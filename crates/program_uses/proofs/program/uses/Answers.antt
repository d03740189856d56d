use Rattle.std.proofs.Common.{◌∙◌, ap, map}
use Rattle.std.proofs.lemmas.Result.{IfOk-weaker}
use Rattle.expr_nodes.specs.type_heads.Bodied.{seen_body}
use Rattle.expr_nodes.specs.type_heads.DeclaredTypes.{program_of, types_of}
use Rattle.expr_nodes.specs.type_heads.Told.{Told}
use Rattle.program_uses.proofs.program.uses.Goals as goal

pub returns : goal.returns
returns c =
    IfOk-weaker c.first_use_fault.result _ _
    (λ f is. is (types_of (program_of c.args.program.now))
    (ap (λ (t : Told). t.table) c.requires.built)
    c.in_ok-members.ensures.same_library
    (ap (map seen_body) c.as_slice-bodies.ensures.value ∙ c.in_ok-members.ensures.same_bodies)
    c.in_ok-members.ensures.same_lists)
    c.first_use_fault.ensures

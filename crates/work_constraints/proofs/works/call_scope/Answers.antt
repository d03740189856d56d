use Rattle.std.proofs.Common.{◌∙◌, None, ap, map}
use Rattle.text_constraints.specs.composition.Calls.{scope_at}
use Rattle.scene_expansion.specs.program_calls.PlacedPhases.{seen_turn}
use Rattle.work_constraints.proofs.works.call_scope.Goals as goal

pub returns : goal.returns
returns c = λ ts labelled.
    c.scope_at.ensures ts labelled ∙ ap (λ way. scope_at ts c.args.call.now.holder None (map seen_turn way)) c.as_slice.ensures

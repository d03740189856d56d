use Rattle.std.proofs.Common.{◌∙◌, sym}
use Rattle.std.proofs.lemmas.Result.{IfErr-weaker, IfOk-weaker}
use Rattle.type_build.proofs.refusing.refuse_members.Goals as goal

pub returns-clause-sound : goal.returns-clause-sound
returns-clause-sound c = IfOk-weaker c.refuse.result _ _ (λ _ none ts parts. sym (c.in_ok-found.ensures ts parts.0 parts.1 parts.2) ∙ none) c.refuse.ensures.sound

pub returns-clause-fault : goal.returns-clause-fault
returns-clause-fault c = IfErr-weaker c.refuse.result _ _ (λ stop at f is ts parts. sym (c.in_ok-found.ensures ts parts.0 parts.1 parts.2) ∙ at f is) c.refuse.ensures.fault

use Rattle.std.proofs.Common.{◌∙◌, ap, map, subst, sym}
use Rattle.std.proofs.lemmas.Result.{IfErr-weaker, IfOk-weaker}
use Rattle.type_model.specs.type_heads.Bodied.{seen_body}
use Rattle.type_model.specs.type_members.Listed.{AreSubtypes}
use Rattle.type_build.proofs.refusing.refuse_headings.Goals as goal

pub first_heading_fault-requires-clause-same_bodies : goal.first_heading_fault-requires-clause-same_bodies
first_heading_fault-requires-clause-same_bodies c = ap (map seen_body) c.as_slice.ensures.value ∙ c.requires.same_bodies.0

pub first_heading_fault-requires-clause-same_subtypes : goal.first_heading_fault-requires-clause-same_subtypes
first_heading_fault-requires-clause-same_subtypes c =
    subst (λ bs. AreSubtypes c.args.heads.now (map seen_body bs) c.args.bodies.now.subtypes) (sym c.as_slice.ensures.value) c.requires.same_bodies.1

pub returns-clause-sound : goal.returns-clause-sound
returns-clause-sound c = IfOk-weaker c.refuse.result _ _ (λ _ none p same. sym (c.in_ok-found.ensures p same) ∙ none) c.refuse.ensures.sound

pub returns-clause-fault : goal.returns-clause-fault
returns-clause-fault c = IfErr-weaker c.refuse.result _ _ (λ stop at f is p same. sym (c.in_ok-found.ensures p same) ∙ at f is) c.refuse.ensures.fault

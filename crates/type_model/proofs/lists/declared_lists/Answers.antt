use Rattle.std.proofs.Common.{◌∙◌, ap, map}
use Rattle.std.proofs.lemmas.Result.{IfOk-weaker}
use Rattle.string_texts.specs.type_heads.Bodied.{seen_body}
use Rattle.string_texts.specs.type_heads.Members.{members_of}
use Rattle.string_texts.specs.type_heads.Table.{all_types}
use Rattle.type_model.proofs.lists.declared_lists.Goals as goal

pub returns : goal.returns
returns c =
    IfOk-weaker c.build.result _ _
    (λ lists is. is ∙ ap (λ bs. map (members_of c.args.heads.now bs) (all_types c.args.heads.now)) (ap (map seen_body) c.as_slice.ensures.value ∙ c.in_ok-bodies.ensures.0))
    c.build.ensures

use Rattle.std.proofs.Common.{◌∙◌, ◌<◌, ◌^◌, ap, arith, [], ◌∷◌, length}
use Rattle.std.specs.Prelude.{flat_map, fold}
use Rattle.std.proofs.lemmas.Result.{IfOk-weaker}
use Rattle.string_texts.specs.type_heads.Texts.{with_text}
use Rattle.string_texts.specs.Ordered.{placed_texts}
use Rattle.type_model.proofs.TypeParts.{texts_placed}
use Rattle.type_model.proofs.parts.all_texts.Goals as goal

pub returns-clause-texts : goal.returns-clause-texts
returns-clause-texts c =
    IfOk-weaker c.texts.result _ _
    (λ texts is. is ∙ ap (λ ps. fold with_text ([] ∷ []) (flat_map placed_texts ps)) c.as_slice.ensures.value ∙ texts_placed c.args.declarations.now.placed.items)
    c.texts.ensures.texts

pub returns-clause-few : goal.returns-clause-few
returns-clause-few c = IfOk-weaker c.texts.result _ _ (λ texts small. let less : length texts.items < 2 ^ 32 = omega arith in less) c.texts.ensures.few

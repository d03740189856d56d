use Rattle.std.proofs.Common.{◌∙◌, ap, map}
use Rattle.std.proofs.lemmas.Result.{IfOk-weaker}
use Rattle.box_eval.specs.FlatRules.{Equal, Slot, Whole, any_of}
use Rattle.scene_rules.proofs.enums.member_rule.Goals as goal

pub returns : goal.returns
returns c =
    IfOk-weaker c.any.result _ _
    (λ r h. h ∙ ap any_of (c.in_ok-equal_row.ensures ∙ ap (λ s. map (λ n. Equal (Slot s) (Whole n)) c.args.numbers.now) c.value.ensures))
    c.any.ensures

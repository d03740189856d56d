use Rattle.std.proofs.Common.{◌∙◌, [], ap}
use Rattle.program_calls.specs.cond_inherit.Conditions.{conditions_within, once_after}
use Rattle.program_texts.specs.SeenTexts.{types_in}
use Rattle.program_texts.proofs.AskedOnce.{gathered_all}
use Rattle.program_texts.proofs.texts.ProgramTexts.conditions.Goals as goal

pub returns : goal.returns
returns c =
    gathered_all (types_in c.args.self.now) c.args.of c.new-asked.result c.gather.new.into (conditions_within c.count.result (types_in c.args.self.now) c.args.of c.args.under.now)
    c.new-asked.ensures.kept c.new-asked.ensures.done c.in_ok-gather.ensures
    ∙ ap (λ n. once_after [] (conditions_within n (types_in c.args.self.now) c.args.of c.args.under.now)) c.count.ensures

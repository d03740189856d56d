use Rattle.std.proofs.Common.{◌∙◌, ap}
use Rattle.program_calls.specs.type_heads.Told.{Told}
use Rattle.program_calls.specs.cond_inherit.SubtypeConditions.{condition_at}
use Rattle.program_texts.specs.SeenTexts.{types_in}
use Rattle.program_texts.proofs.TypeRows.{condition_is}
use Rattle.program_texts.proofs.texts.ProgramTexts.condition.Goals as goal

pub returns : goal.returns
returns c = c.in_ok-found.ensures ∙ ap (λ (t : Told). condition_at t c.args.of) c.args.self.now.told_is ∙ condition_is (types_in c.args.self.now) c.args.of

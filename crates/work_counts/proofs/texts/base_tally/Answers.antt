use Rattle.std.proofs.Common.{◌∙◌, ap}
use Rattle.program_texts.specs.SeenTexts.{types_in}
use Rattle.work_counts.specs.Amounts.{kept}
use Rattle.work_counts.proofs.HeirForms.{base_none}
use Rattle.work_counts.proofs.texts.base_tally.Goals as goal

pub returns-in-None : goal.returns-in-None
returns-in-None c = c.none.ensures ∙ ap kept (base_none (types_in c.args.texts.now) c.args.of c.args.base c.in-None.ensures)

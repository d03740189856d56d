use Rattle.std.proofs.Common.{◌∙◌}
use Rattle.program_uses.proofs.UsedTexts.{has_texts}
use Rattle.program_uses.proofs.used.texts_of.Goals as goal

pub returns : goal.returns
returns c = λ ts library bodies same.
    has_texts ts (record { library = c.args.library; fields = c.in_ok-fields.fields; dos = c.in_ok-dos.dos; bodies = c.args.bodies }) library bodies (c.in_ok-fields.ensures ∙ same) c.in_ok-dos.ensures

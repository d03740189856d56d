use Rattle.std.proofs.Common.{append_assoc, ◌∙◌}
use Rattle.made_programs.proofs.text.made_line.Goals as goal

pub returns : goal.returns
returns c = c.of.ensures ∙ c.in_ok-format.ensures.ok ∙ simp append_assoc

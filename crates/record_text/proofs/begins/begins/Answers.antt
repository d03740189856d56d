use Rattle.std.proofs.Common.{sym, ◌∙◌}
use Rattle.record_text.proofs.FirstBytes.{differs}
use Rattle.record_text.proofs.begins.begins.Goals as goal

pub returns-then-differ_first : goal.returns-then-differ_first
returns-then-differ_first c = sym (differs c.args.text.now c.args.word.now (sym c.differ_first.ensures ∙ c.if-differ_first.true))

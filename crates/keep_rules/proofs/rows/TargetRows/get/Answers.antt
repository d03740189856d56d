use Rattle.std.proofs.Common.{◌∙◌, ap}
use Rattle.path_index.proofs.Keys.{found_by}
use Rattle.keep_rules.proofs.RowLaws.{row_of}
use Rattle.keep_rules.proofs.rows.TargetRows.get.Goals as goal

pub returns-in-Some : goal.returns-in-Some
returns-in-Some c = c.as_slice.ensures ∙ ap row_of (c.in-Some.ensures.value ∙ found_by c.args.self.now.rows c.args.target.now)

pub returns-in-None : goal.returns-in-None
returns-in-None c = ap row_of (c.in-None.ensures.value ∙ found_by c.args.self.now.rows c.args.target.now)

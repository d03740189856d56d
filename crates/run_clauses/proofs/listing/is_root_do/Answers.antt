use Rattle.std.proofs.Common.{◌∙◌}
use Rattle.run_clauses.proofs.RootDo.{do_is}
use Rattle.run_clauses.proofs.listing.is_root_do.Goals as goal

pub returns : goal.returns
returns c = c.is_do.ensures ∙ do_is c.args.path.now.steps

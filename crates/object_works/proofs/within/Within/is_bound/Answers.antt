use Rattle.std.proofs.Common.{◌∙◌}
use Rattle.object_works.proofs.BoundPaths.{bound_at}
use Rattle.object_works.proofs.within.Within.is_bound.Goals as goal

pub returns : goal.returns
returns c = c.is_some.ensures ∙ bound_at c.args.path.now c.args.self.now.bindings.now c.get.result (c.get.ensures ∙ c.args.self.now.places c.args.path.now)

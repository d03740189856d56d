use Rattle.std.proofs.Common.{◌∙◌, arith}
use Rattle.bound_trail.specs.History.{present}
use Rattle.seeded_search.proofs.Searches.{low_values}
use Rattle.seeded_search.proofs.searching.point_of.Goals as goal

pub returns : goal.returns
returns c = c.of.ensures ∙ low_values (present c.args.trail.now) c.loop-slot.values.items c.loop-slot.invariant.0 (λ k less. c.loop-slot.invariant.1 k (omega (arith, less, c.len-slot-end.ensures, c.loop-slot-test.false)))

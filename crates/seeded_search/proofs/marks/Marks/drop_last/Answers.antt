use Rattle.std.proofs.Common.{arith}
use Rattle.seeded_search.proofs.MarkLists.{last_below, mark_less}
use Rattle.seeded_search.proofs.marks.Marks.drop_last.Goals as goal

pub index_mut-requires : goal.index_mut-requires
index_mut-requires c = omega (arith, c.self.inside.flags.ok.0, last_below _ _ _ c.self.invariant c.in-Some.number _ (c.in-Some.ensures.items))

pub invariant_of-self : goal.invariant_of-self
invariant_of-self c = mark_less _ _ _ c.self.invariant c.in-Some.number _ (c.in-Some.ensures.items) _ c.pop.ensures.capacity

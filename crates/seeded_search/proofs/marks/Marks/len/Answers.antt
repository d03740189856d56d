use Rattle.std.proofs.Common.{ap, arith}
use Rattle.seeded_search.specs.Rooms.{Marked}
use Rattle.seeded_search.proofs.MarkLists.{marks_few}
use Rattle.seeded_search.proofs.marks.Marks.len.Goals as goal

pub overflow_cast-result : goal.overflow_cast-result
overflow_cast-result c = omega (arith, c.len.ensures, marks_few _ _ _ c.self.invariant, ap (λ (m : Marked). m.bound) c.self.view_is)

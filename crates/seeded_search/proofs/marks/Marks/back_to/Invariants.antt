use Rattle.std.proofs.Common.{◌≡◌, ◌≤◌, length, take}
use Rattle.seeded_search.proofs.marks.Marks.back_to.Given as goal

abbrev pub invariant-loop-self : goal.invariant-loop-self
invariant-loop-self l = (l.self ≡ record l.initial.self { listed = take (length l.self.listed) l.initial.self.listed }) × (l.count ≤ length l.self.listed)

abbrev pub decreases-loop-self : goal.decreases-loop-self
decreases-loop-self l = length l.self.listed

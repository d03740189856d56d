use Rattle.std.proofs.Common.{◌≡◌, ◌++◌, take}
use Rattle.seeded_search.proofs.picks.Picks.add.Given as goal

abbrev pub invariant-loop-pick : goal.invariant-loop-pick
invariant-loop-pick l = l.self ≡ record l.initial.self { items = l.initial.self.items ++ take l.pick-index l.picks }

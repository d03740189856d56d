use Rattle.std.proofs.Common.{◌≡◌, ◌-◌, map, length}
use Rattle.std.specs.List.{range_with_len}
use Rattle.search_plans.specs.Plans.{open_entry, all_free, free}
use Rattle.search_plans.proofs.choice.first_free.Given as goal

abbrev pub invariant-loop-slot : goal.invariant-loop-slot
invariant-loop-slot g l = open_entry (all_free (g.E.Ends.ends l.ends)) (g.E.Ends.ends l.ends) ≡ open_entry (map free (range_with_len l.slot (l.slot-end - l.slot))) (g.E.Ends.ends l.ends)

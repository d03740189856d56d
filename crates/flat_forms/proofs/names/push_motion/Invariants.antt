use Rattle.std.proofs.Common.{◌≡◌, ◌++◌, map}
use Rattle.osc_base.specs.declared.listing.RuleName.{RuleName}
use Rattle.std.specs.List.{range_with_len}
use Rattle.flat_forms.proofs.names.push_motion.Given as goal

abbrev pub invariant-ticks : goal.invariant-ticks
invariant-ticks l = l.names ≡ l.fn.names ++ map (RuleName.Motion l.vehicle) (range_with_len 0 l.tick)

use Rattle.std.proofs.Common.{◌≡◌, ◌++◌, map}
use Rattle.osc_base.specs.declared.listing.RuleName.{RuleName}
use Rattle.std.specs.List.{range_with_len}
use Rattle.flat_forms.proofs.names.push_modifier.Given as goal

abbrev pub invariant-ticks : goal.invariant-ticks
invariant-ticks l = l.names ≡ l.fn.names ++ map (RuleName.Modifier l.modifier.place) (range_with_len 0 l.tick)

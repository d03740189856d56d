use Rattle.std.proofs.Common.{◌≡◌, take}
use Rattle.rule_parts.proofs.conditions.copied.Given as goal

abbrev pub invariant-rules : goal.invariant-rules
invariant-rules l = l.copies.items ≡ take l.rule-index l.row

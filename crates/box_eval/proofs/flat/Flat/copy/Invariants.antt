use Rattle.std.proofs.Common.{◌≡◌, take}
use Rattle.box_eval.proofs.flat.Flat.copy.Given as goal

abbrev pub invariant-loop-rule : goal.invariant-loop-rule
invariant-loop-rule l = (l.rules ≡ take l.rule-index l.rule-items) × (l.bounds ≡ l.self.bounds)

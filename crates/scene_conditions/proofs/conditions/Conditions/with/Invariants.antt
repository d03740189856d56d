use Rattle.std.proofs.Common.{◌≡◌, drop}
use Rattle.scene_conditions.specs.SeenConditions.{seen_conditions}
use Rattle.scene_conditions.specs.Gathered.{with_all}
use Rattle.scene_conditions.proofs.conditions.Conditions.with.Given as goal

abbrev pub invariant-guards : goal.invariant-guards
invariant-guards l = with_all (seen_conditions l.met) (drop l.guard-index l.guards) ≡ with_all (seen_conditions l.fn.self) l.guards

use Rattle.std.proofs.Common.{◌≡◌, ◌++◌, drop, map}
use Rattle.object_works.specs.composition.SeenParts.{seen_binding}
use Rattle.work_parts.proofs.bindings.push_copies.Given as goal

abbrev pub invariant-loop-binding : goal.invariant-loop-binding
invariant-loop-binding l = map seen_binding l.bindings ++ map seen_binding (drop l.binding-index l.more) ≡ map seen_binding l.fn.bindings ++ map seen_binding l.more

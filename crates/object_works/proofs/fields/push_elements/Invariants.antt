use Rattle.std.proofs.Common.{◌≡◌, ◌++◌, ◌-◌, map}
use Rattle.std.specs.List.{range_with_len}
use Rattle.scene_expansion.specs.SeenWorks.{seen_work}
use Rattle.object_works.proofs.ElementSteps.{element_at}
use Rattle.object_works.proofs.fields.push_elements.Given as goal

abbrev pub invariant-loop-number : goal.invariant-loop-number
invariant-loop-number l =
    map seen_work l.into.items ++ map (element_at l.path l.guards l.range) (range_with_len l.number (l.length - l.number))
    ≡ map seen_work l.fn.into.items ++ map (element_at l.path l.guards l.range) (range_with_len 0 l.length)

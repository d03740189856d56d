use Rattle.std.proofs.Common.{◌≡◌, ◌++◌, drop, map}
use Rattle.dsl_tree.specs.Views.{phase_tree}
use Rattle.program_calls.specs.PlacedPhases.{members_placed, phases_from, seen_phase, seen_turn}
use Rattle.program_calls.proofs.phases.+phase_walk.Given as goal

abbrev pub invariant-push_members-loop-member : goal.invariant-push_members-loop-member
invariant-push_members-loop-member l =
    map seen_phase l.into.items ++ phases_from l.comp.kind l.place.path (map seen_turn l.place.way) l.number (map phase_tree (drop l.member-index l.comp.members))
    ≡ map seen_phase l.fn.into.items ++ members_placed l.place.path (map seen_turn l.place.way) l.comp

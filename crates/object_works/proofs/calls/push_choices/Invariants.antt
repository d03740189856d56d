use Rattle.std.proofs.Common.{◌≡◌, ◌++◌, drop, map}
use Rattle.scene_expansion.specs.program_calls.PlacedPhases.{seen_turn}
use Rattle.object_works.specs.Phases.{choice_of}
use Rattle.object_works.proofs.calls.push_choices.Given as goal

abbrev pub invariant-loop-turn : goal.invariant-loop-turn
invariant-loop-turn l = l.guards ++ map (choice_of l.object) (map seen_turn (drop l.turn-index l.way)) ≡ l.fn.guards ++ map (choice_of l.object) (map seen_turn l.way)

use Rattle.std.proofs.Common.{◌≡◌, ◌++◌}
use Rattle.search_laws.specs.Answers.{unknown_lines}
use Rattle.seeded_search.proofs.script.Script.push_unknowns.Given as goal

abbrev pub invariant-loop : goal.invariant-loop
invariant-loop l = l.self ≡ record l.initial.self { lines = l.initial.self.lines ++ unknown_lines l.counter }

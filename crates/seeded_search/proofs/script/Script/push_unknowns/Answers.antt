use Rattle.std.proofs.Common.{◌∙◌, ap, List, [], ◌∷◌, ◌++◌, length, arith, length-append}
use Rattle.search_laws.specs.record_trees.declared.record.Line.{Line}
use Rattle.search_laws.specs.record_trees.declared.record.Line.TheVariants as L
use Rattle.search_laws.specs.Answers.{unknown_lines}
use Rattle.seeded_search.specs.Rooms.{Page}
use Rattle.seeded_search.proofs.UnknownLines.{length_unknown, unknown_more}
use Rattle.seeded_search.proofs.script.Script.push_unknowns.Goals as goal

pub push-requires : goal.push-requires
push-requires c = omega (
  arith,
  c.requires,
  c.loop-test.true,
  ap (λ (p : Page). length p.lines) c.loop.invariant,
  ap (λ (p : Page). p.room) c.loop.invariant,
  length-append c.args.self.now.lines (unknown_lines c.loop.counter),
  length_unknown c.loop.counter,
)

pub loop-preserved : goal.loop-preserved
loop-preserved c = c.push.ensures ∙ (ap (λ (p : Page). record p { lines = p.lines ++ L.Unknown ∷ [] }) c.loop.invariant
    ∙ ap (λ (ls : List Line). record c.args.self.now { lines = ls }) (unknown_more c.args.self.now.lines c.loop.counter))

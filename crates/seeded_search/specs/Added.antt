-- What is written of a sum.
use Rattle.std.specs.Prelude.{List, [], ◌∷◌, ◌++◌, length}
use Rattle.search_laws.specs.linear_sums.declared.pick.Pick.{Pick}
use Rattle.search_laws.specs.record_trees.declared.record.Line.TheVariants as L
use Rattle.seeded_search.specs.declared.work.Work.{Work}

-- the line of a sum, and its rules
abbrev pub added : Work → List Pick → Work
added w picks = record w {
  script = record w.script { lines = w.script.lines ++ L.Sum (length picks) ∷ [] };
  picks = record w.picks { items = w.picks.items ++ picks };
}

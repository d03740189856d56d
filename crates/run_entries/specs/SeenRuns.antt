-- What the entries of a run stand for in the definitions.
use Rattle.composition.specs.declared.run.Run.{Run}
use Rattle.run_entries.specs.declared.entries.Entries.{Entries}

-- the run
abbrev pub seen_run : Entries → Run
seen_run e = e.run.now

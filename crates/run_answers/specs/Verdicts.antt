-- How a `no` line tells why a run is no instance.
use Rattle.std.specs.Prelude.{ℕ, List, [], ◌++◌, Option, Some, None, codes}
use Rattle.osc_base.specs.declared.fault.Place.{Place}
use Rattle.name_scope.specs.FileNumbers.{AddedFile}
use Rattle.run_texts.specs.composition.declared.clause.Clause.{Clause}
use Rattle.command_replies.specs.program_load.Loading.{name_at}
use Rattle.command_replies.specs.Replies.{at_place}

-- the word of a clause
abbrev pub clause_word : Clause → List ℕ
clause_word Clause.Listed = codes "listed"
clause_word Clause.End = codes "end"
clause_word Clause.Bounds = codes "bounds"
clause_word Clause.Hard = codes "hard"
clause_word Clause.Default = codes "default"
clause_word Clause.Arranged = codes "arranged"
clause_word Clause.Modifier = codes "modifier"
clause_word Clause.Motion = codes "motion"

-- a space and `FILE:LINE:COLUMN`, for what has a place in the source
abbrev pub place_text : List AddedFile → Option Place → List ℕ
place_text program None = []
place_text program (Some place) = codes " " ++ at_place (name_at program place.file) place

-- What `command` replies: a status, and the text that comes with it.
use Rattle.std.specs.Prelude.{ℕ, List, ◌++◌, codes}
use Rattle.std.specs.Fmt.{decimal}
use Rattle.osc_base.specs.declared.fault.Place.{Place}
use Rattle.osc_base.specs.declared.fault.Fault.{Fault}
use Rattle.osc_base.specs.FaultCodes.{number_of}
use Rattle.program_load.specs.declared.stop.Refusal.{Refusal}
use Rattle.command_replies.specs.declared.status.Status.{Status}
use Rattle.record_text.specs.record_trees.declared.record.Record.{Record}
use Rattle.record_text.specs.Text.{record_text}
use Rattle.command_replies.specs.Reply.{Answer}

-- the number with which the program ends
abbrev pub status_number : Status → ℕ
status_number Status.Done = 0
status_number Status.Refuted = 1
status_number Status.Undecided = 2
status_number Status.SourceRefused = 3
status_number Status.WordsRefused = 4
status_number Status.TextRefused = 5
status_number Status.FileUnusable = 6
status_number Status.SinkFailed = 7
status_number Status.OutOfMemory = 8

-- what was asked for
abbrev pub done : List ℕ → Answer
done text = record { status = Status.Done; text = text }

-- `words`
abbrev pub words_refused : Answer
words_refused = record { status = Status.WordsRefused; text = codes "words\n" }

-- `no CLAUSE PATH`, and a space and `FILE:LINE:COLUMN` if the clause is about a constraint or modifier
abbrev pub not_instance : List ℕ → List ℕ → List ℕ → Answer
not_instance clause path place = record { status = Status.Refuted; text = codes "no " ++ clause ++ codes " " ++ path ++ place ++ codes "\n" }

-- the record of a refutation
abbrev pub refutation : Record → Answer
refutation claim = record { status = Status.Refuted; text = record_text claim }

-- the record of a search that made all its cuts
abbrev pub undecided : Record → Answer
undecided claim = record { status = Status.Undecided; text = record_text claim }

-- `no LINE`
abbrev pub no_line : ℕ → Answer
no_line line = record { status = Status.Refuted; text = codes "no " ++ decimal line ++ codes "\n" }

-- `open CUTS`
abbrev pub open_cuts : ℕ → Answer
open_cuts cuts = record { status = Status.Undecided; text = codes "open " ++ decimal cuts ++ codes "\n" }

-- `text json`, `text POINTER` or `text LINE`
abbrev pub text_refused : List ℕ → Answer
text_refused what = record { status = Status.TextRefused; text = codes "text " ++ what ++ codes "\n" }

-- `FILE:LINE:COLUMN`
abbrev pub at_place : List ℕ → Place → List ℕ
at_place file place = file ++ codes ":" ++ decimal place.line ++ codes ":" ++ decimal place.column

-- `fault CODE FILE:LINE:COLUMN`
abbrev pub fault_of : List ℕ → Fault → Answer
fault_of file fault = record {
  status = Status.SourceRefused;
  text = codes "fault " ++ decimal (number_of fault.code) ++ codes " " ++ file ++ codes ":" ++ decimal fault.place.line ++ codes ":" ++ decimal fault.place.column ++ codes "\n";
}

-- `missing NAME`
abbrev pub missing_file : List ℕ → Answer
missing_file name = record { status = Status.FileUnusable; text = codes "missing " ++ name ++ codes "\n" }

-- `long NAME`
abbrev pub long_file : List ℕ → Answer
long_file name = record { status = Status.FileUnusable; text = codes "long " ++ name ++ codes "\n" }

-- `shelf NAME`
abbrev pub failed_shelf : List ℕ → Answer
failed_shelf name = record { status = Status.FileUnusable; text = codes "shelf " ++ name ++ codes "\n" }

-- the source files of this main file are refused
abbrev pub refused_source : List ℕ → Refusal → Answer
refused_source main Refusal.Missing = missing_file main
refused_source main (Refusal.Long name) = long_file name
refused_source main (Refusal.Faulty file fault) = fault_of file fault

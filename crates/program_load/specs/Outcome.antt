-- What `load` may answer.
use Rattle.std.specs.Prelude.{◌≡◌, ℕ, List, Result, Ok, Err}
use Rattle.outside_io.specs.declared.shelf.NamedBytes.{NamedBytes}
use Rattle.outside_io.specs.Counts.{Rises}
use Rattle.name_scope.specs.FileNumbers.{AddedFile}
use Rattle.program_load.specs.declared.stop.LoadStop.{LoadStop}
use Rattle.program_load.specs.Loading.{IsLoaded, IsStopped, IsTurn}

-- the answer that files allow
abbrev pub Allows : List NamedBytes → List ℕ → Result (List AddedFile) LoadStop → Type 0
Allows files main (Ok program) = IsLoaded files main program
Allows files main (Err (LoadStop.At refusal)) = IsStopped files main refusal
Allows files main (Err (LoadStop.Shelf name)) = IsTurn files main name
Allows files main (Err LoadStop.Memory) = Unit {0}

-- the shelf's count of faults rose, by one, exactly if the shelf is blamed
abbrev pub Counts : {A : Type 0} → Result A LoadStop → ℕ → ℕ → Type 0
Counts (Err (LoadStop.Shelf name)) before after = Rises before after
Counts _ before after = after ≡ before

-- What holds of the files that were taken so far.
use Rattle.std.proofs.Common.{◌≡◌, ◌∙◌, refl, sym, ap, subst, ℕ, ◌<◌, List, [], ◌∷◌, ◌++◌, length, slice_get, Option, Some, None, IfSome, Ok, Err, arith, length-append}
use Rattle.outside_io.specs.declared.shelf.NamedBytes.{NamedBytes}
use Rattle.outside_io.specs.Files.{SomeFiles, file_named}
use Rattle.name_scope.specs.declared.names.FileName.{FileName}
use Rattle.name_scope.specs.FileNumbers.{AddedFile, name_text, numbered_names, names_before, wanted_name}
use Rattle.name_scope.proofs.Numbering.{numbered_more, imports_stay}
use Rattle.program_load.specs.declared.stop.LoadStop.{LoadStop}
use Rattle.program_load.specs.declared.stop.Refusal.{Refusal}
use Rattle.program_load.specs.Loading.{source_of, next_name, IsTaken, AreTaken, IsStopped, StopsAt}
use Rattle.program_load.specs.Outcome.{Allows}
use Rattle.program_load.specs.Steps.{IsFound, Takes, Stops}
use Rattle.program_load.proofs.Distinct.{numbered_distinct}
use Rattle.program_load.proofs.Files.{called, keeps, all_stay, one_more, last_found, Which, old, last, which_file}

-- the name has a number that was taken
abbrev HasTurn : List AddedFile → List ℕ → Type 0
HasTurn program name = (k : ℕ) × (k < length program) × (slice_get (numbered_names program) k ≡ Some (FileName.Named name))

abbrev HaveTurns : List NamedBytes → List AddedFile → Type 0
HaveTurns files program = (name source : List ℕ) → file_named files name ≡ Some source → HasTurn program name

-- files that are told, or were fetched so far, in which the program was taken
pub record Loads (told : Option (List NamedBytes)) (main : List ℕ) (program : List AddedFile) : Type 0 where
  pub files : List NamedBytes
  pub all : IfSome told (λ all. all ≡ files)
  pub taken : AreTaken files main program
  pub fetched : told ≡ None → HaveTurns files program

none_taken : (told : Option (List NamedBytes)) (main : List ℕ) → Loads told main []
none_taken None main = record { files = []; all = tt; taken = tt; fetched = λ none name source h. absurd cc }
none_taken (Some all) main = record { files = all; all = refl; taken = tt; fetched = λ none. absurd cc }

-- the main file is the first
pub no_files : (told : Option (List NamedBytes)) (main : List ℕ) (program : List AddedFile) → program ≡ [] → Loads told main program
no_files told main program is = subst (Loads told main) (sym is) (none_taken told main)

pub main_first : (main : List ℕ) (program : List AddedFile) → program ≡ [] → next_name main program ≡ Some (FileName.Named main)
main_first main program is = ap (next_name main) is

-- ---- The turn of a name

data Turn (before : List AddedFile) (name : FileName) (text : List ℕ) : Type 0 where
  had : HasTurn before text → Turn before name text
  has : name ≡ FileName.Named text → Turn before name text

-- files in which the name whose turn it is has the source that was found
record Reaches (told : Option (List NamedBytes)) (main : List ℕ) (before : List AddedFile) (name : FileName) (found : Option (List ℕ)) : Type 0 where
  files : List NamedBytes
  all : IfSome told (λ all. all ≡ files)
  taken : AreTaken files main before
  there : source_of files name ≡ found
  fetched : told ≡ None → (text source : List ℕ) → file_named files text ≡ Some source → Turn before name text

-- a name whose turn it is had none before
new_name : (main : List ℕ) (before : List AddedFile) (text : List ℕ) → next_name main before ≡ Some (FileName.Named text) → HasTurn before text → ⊥
new_name main [] text next turn = absurd (omega (arith, turn.1))
new_name main (first ∷ others) text next turn =
    let same : turn.0 ≡ length (first ∷ others) = numbered_distinct (first ∷ others) turn.0 (length (first ∷ others)) (FileName.Named text) turn.2 next in
    absurd (omega (arith, same, turn.1))

not_fetched : (main : List ℕ) (before : List AddedFile) (text : List ℕ) (files : List NamedBytes) (o : Option (List ℕ)) → file_named files text ≡ o →
    next_name main before ≡ Some (FileName.Named text) → HaveTurns files before → o ≡ None
not_fetched main before text files None is next turns = refl
not_fetched main before text files (Some source) is next turns = absurd (new_name main before text next (turns text source is))

found_all : (all files : List NamedBytes) (name : FileName) (found : Option (List ℕ)) → all ≡ files → IsFound (Some all) name found → source_of files name ≡ found
found_all all files FileName.Library found same h = sym h
found_all all files (FileName.Named text) found same h = subst (λ fs. file_named fs text ≡ found) same h

reaches : (told : Option (List NamedBytes)) (main : List ℕ) (before : List AddedFile) (name : FileName) (found : Option (List ℕ)) → Loads told main before →
    next_name main before ≡ Some name → IsFound told name found → Reaches told main before name found
reaches (Some all) main before name found l next h =
    record { files = l.files; all = l.all; taken = l.taken; there = found_all all l.files name found l.all h; fetched = λ none. absurd cc }
reaches None main before FileName.Library found l next h =
    record { files = l.files; all = tt; taken = l.taken; there = sym h; fetched = λ none text source is. had (l.fetched none text source is) }
reaches None main before (FileName.Named text) None l next h =
    record {
      files = l.files;
      all = tt;
      taken = l.taken;
      there = not_fetched main before text l.files (file_named l.files text) refl next (l.fetched refl);
      fetched = λ none other source is. had (l.fetched none other source is);
    }
reaches None main before (FileName.Named text) (Some source) l next h =
    record {
      files = l.files ++ called text source ∷ [];
      all = tt;
      taken = all_stay l.files (l.files ++ called text source ∷ []) main [] before (keeps l.files (called text source ∷ [])) l.taken;
      there = last_found l.files text source (not_fetched main before text l.files (file_named l.files text) refl next (l.fetched refl));
      fetched = λ none other bytes is. by other bytes (which_file l.files text source other bytes is);
    }
  where
    by : (other bytes : List ℕ) → Which l.files text other bytes → Turn before (FileName.Named text) other
    by other bytes (old is) = had (l.fetched refl other bytes is)
    by other bytes (last same) = has (ap FileName.Named same)

-- ---- One more

-- the numbers before a file's imports
at_turn : (main : List ℕ) (before : List AddedFile) (text : List ℕ) (added : AddedFile) → next_name main before ≡ Some (FileName.Named text) → added.name ≡ text →
    slice_get (names_before before added.name) (length before) ≡ Some (FileName.Named text)
at_turn main [] text added next is = ap (λ n. Some (FileName.Named n)) is
at_turn main (first ∷ others) text added next is = next

at_number : (before : List AddedFile) (added : AddedFile) (k : ℕ) (name : FileName) → k < length before → slice_get (numbered_names before) k ≡ Some name →
    slice_get (names_before before added.name) k ≡ Some name
at_number [] added k name below is = absurd (omega (arith, below))
at_number (first ∷ others) added k name below is = is

stays : (before : List AddedFile) (added : AddedFile) (k : ℕ) (name : FileName) → slice_get (names_before before added.name) k ≡ Some name →
    slice_get (numbered_names (before ++ added ∷ [])) k ≡ Some name
stays before added k name is =
    ap (λ names. slice_get names k) (numbered_more before added) ∙ imports_stay (names_before before added.name) added.file.imports k name is

had_turn : (main : List ℕ) (before : List AddedFile) (name : FileName) (added : AddedFile) (text : List ℕ) → next_name main before ≡ Some name → added.name ≡ name_text name →
    Turn before name text → HasTurn (before ++ added ∷ []) text
had_turn main before name added text next is (had turn) =
    let more = length-append before (added ∷ []) in
    (turn.0, omega (arith, more, turn.1), stays before added turn.0 (FileName.Named text) (at_number before added turn.0 (FileName.Named text) turn.1 turn.2))
had_turn main before name added text next is (has same) =
    let more = length-append before (added ∷ []) in
    (length before, omega (arith, more), stays before added (length before) (FileName.Named text) (at_turn main before text added (next ∙ ap Some same) (is ∙ ap name_text same)))

more_by : (told : Option (List NamedBytes)) (main : List ℕ) (before : List AddedFile) (name : FileName) (added : AddedFile) (found : Option (List ℕ)) → next_name main before ≡ Some name →
    (r : Reaches told main before name found) → IsTaken r.files before name added → Loads told main (before ++ added ∷ [])
more_by told main before name added found next r t = record {
  files = r.files;
  all = r.all;
  taken = one_more r.files main [] before name added r.taken next t;
  fetched = λ none text source is. had_turn main before name added text next t.called (r.fetched none text source is);
}

pub more : (told : Option (List NamedBytes)) (main : List ℕ) (before : List AddedFile) (name : FileName) (after : List AddedFile) → Loads told main before →
    next_name main before ≡ Some name → Takes told before name after → Loads told main after
more told main before name after l next t =
    let r = reaches told main before name t.taken.0 l next t.taken.1 in
    subst (Loads told main) (sym t.grown) (more_by told main before name t.added t.taken.0 next r (t.taken.2 r.files r.there))

-- after the main file the next file is the one that is wanted
begun_by : (main : List ℕ) (before : List AddedFile) (added : AddedFile) → next_name main (before ++ added ∷ []) ≡ wanted_name (before ++ added ∷ [])
begun_by main [] added = refl
begun_by main (first ∷ others) added = refl

pub begun : (told : Option (List NamedBytes)) (main : List ℕ) (before : List AddedFile) (name : FileName) (after : List AddedFile) → Takes told before name after →
    next_name main after ≡ wanted_name after
begun told main before name after t = subst (λ xs. next_name main xs ≡ wanted_name xs) (sym t.grown) (begun_by main before t.added)

-- ---- The answers

stopped : (told : Option (List NamedBytes)) (main : List ℕ) (before : List AddedFile) (name : FileName) (stop : Refusal) → Loads told main before → next_name main before ≡ Some name →
    (found : Option (List ℕ)) → IsFound told name found → ((files : List NamedBytes) → source_of files name ≡ found → StopsAt files before name stop) → SomeFiles told (λ files. IsStopped files main stop)
stopped told main before name stop l next found is stops =
    let r = reaches told main before name found l next is in
    (r.files, r.all, record { taken = before; are_taken = r.taken; name = name; next = next; stops = stops r.files r.there })

pub stop_allowed : (told : Option (List NamedBytes)) (main : List ℕ) (before : List AddedFile) (name : FileName) (stop : LoadStop) → Loads told main before → next_name main before ≡ Some name →
    Stops told before name stop → SomeFiles told (λ files. Allows files main (Err stop))
stop_allowed told main before name (LoadStop.At refusal) l next stops = stopped told main before name refusal l next stops.0 stops.1 stops.2
stop_allowed told main before name (LoadStop.Shelf text) l next stops =
    (l.files, l.all, record { taken = before; are_taken = l.taken; next = next ∙ ap Some stops })
stop_allowed told main before name LoadStop.Memory l next stops = (l.files, l.all, tt)

pub whole_allowed : (told : Option (List NamedBytes)) (main : List ℕ) (program : List AddedFile) → Loads told main program → next_name main program ≡ None →
    SomeFiles told (λ files. Allows files main (Ok program))
whole_allowed told main program l none = (l.files, l.all, record { taken = l.taken; whole = none })

-- What is read from what `export` writes of the run in a file. The laws have no premise on the run.
use Rattle.std.specs.Prelude.{◌≡◌, ◌≤◌, ℕ, true, not, List, Some, flat_map, map, length}
use Rattle.std.specs.List.{filter}
use Rattle.outside_io.specs.declared.shelf.NamedBytes.{NamedBytes}
use Rattle.outside_io.specs.Files.{file_named}
use Rattle.name_scope.specs.FileNumbers.{AddedFile}
use Rattle.run_texts.specs.composition.Scenes.{Scene}
use Rattle.run_texts.specs.composition.declared.run.Run.{Run}
use Rattle.instance_check.specs.run_check.RunText.{run_text}
use Rattle.run_exports.specs.CsvReader.{read_csv}
use Rattle.run_exports.specs.PageReader.{read_page}
use Rattle.run_exports.specs.Plain.{is_plain_road, is_plain_run}
use Rattle.run_exports.specs.RoundTrips.{lanes_of, trace_rows, trajectory}
use Rattle.run_exports.specs.XodrReader.{read_xodr}
use Rattle.run_exports.specs.XoscReader.{read_xosc}
use Rattle.run_exports.specs.XoscText.{is_left}
use Rattle.run_exports.specs.declared.forms.Form.{Form}
use Rattle.run_exports.specs.declared.road.Road.{Road}
use Rattle.command_replies.specs.Replies.{done}
use Rattle.run_answers.specs.Exports.{Exports}
use Rattle.run_answers.specs.RunFiles.{IsRun, run_limit}

-- each run that is read from a file has the program's own numbers, and vehicles whose paths have a text
abbrev pub ReadRunsArePlain : Type 0
ReadRunsArePlain = (bytes : List ℕ) (run : Run) → length bytes ≤ run_limit → IsRun bytes run → is_plain_run run ≡ true

-- What the readers find of a run in its text in a form. In a table it is all samples of its vehicles, each with its time. In OpenSCENARIO XML it is
-- a corner for each sample of the vehicles that aren't left. In OpenDRIVE it is the lanes, and in a page the run's own text.
abbrev pub IsReadBack : Form → Road → List ℕ → List ℕ → Run → Type 0
IsReadBack Form.Csv road left text run = read_csv text ≡ flat_map (trace_rows run.tick) run.traces
IsReadBack Form.Xosc road left text run = read_xosc text ≡ map (trajectory road run.tick) (filter (λ t. not (is_left left t)) run.traces)
IsReadBack Form.Xodr road left text run = read_xodr text ≡ lanes_of road
IsReadBack Form.Html road left text run = read_page text ≡ run_text run

-- a run that the file holds, of which this is said
pub record HoldsRun (texts : List NamedBytes) (file : List ℕ) (Says : Run → Type 0) : Type 0 where
  pub bytes : List ℕ
  pub run : Run
  pub there : file_named texts file ≡ Some bytes
  pub within : length bytes ≤ run_limit
  pub is : IsRun bytes run
  pub said : Says run

-- if `export` writes a text on a road in the program's own numbers, the readers find in it the run that the file holds
abbrev pub ExportsAreReadBack : Type 0
ExportsAreReadBack =
    (form : Form) (road : Road) (left : List ℕ) (texts : List NamedBytes) (file : List ℕ) (program : List AddedFile) (scene : Scene) (text : List ℕ)
    → is_plain_road road ≡ true → Exports form road left texts file program scene (done text) → HoldsRun texts file (IsReadBack form road left text)

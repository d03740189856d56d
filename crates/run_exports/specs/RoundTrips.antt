-- What is read from an exported run. No reader takes anything from a writer.
use Rattle.std.specs.Prelude.{◌≡◌, ℕ, ◌+◌, ◌<◌, ℤ, true, not, List, flat_map, map, replicate}
use Rattle.std.specs.List.{filter}
use Rattle.osc_base.specs.Path.{path_text}
use Rattle.osc_base.specs.declared.sample.Sample.{Sample}
use Rattle.run_check.specs.composition.declared.run.Trace.{Trace}
use Rattle.run_check.specs.composition.declared.run.Run.{Run}
use Rattle.run_check.specs.RunText.{run_text}
use Rattle.run_exports.specs.Timed.{timed}
use Rattle.run_exports.specs.Plain.{is_plain_run, is_plain_road}
use Rattle.run_exports.specs.World.{middle}
use Rattle.run_exports.specs.declared.road.Road.{Road}
use Rattle.run_exports.specs.CsvText.{csv_text}
use Rattle.run_exports.specs.CsvReader.{Row, read_csv}
use Rattle.run_exports.specs.XoscText.{is_left, xosc_text}
use Rattle.run_exports.specs.XoscReader.{Corner, Trajectory, read_xosc}
use Rattle.run_exports.specs.XodrText.{xodr_text}
use Rattle.run_exports.specs.XodrReader.{Lanes, read_xodr}
use Rattle.run_exports.specs.PageText.{page_text}
use Rattle.run_exports.specs.PageReader.{read_page}

-- ---- tables

abbrev pub sample_row : List ℕ → ℕ → Sample → Row
sample_row vehicle time s = record { time = time; vehicle = vehicle; lane = s.lane; position = s.position; speed = s.speed }

abbrev pub trace_rows : ℕ → Trace → List Row
trace_rows tick trace = timed (sample_row (path_text trace.path.steps)) tick 0 trace.samples

-- the rows of a run's table are all samples of its vehicles, each with its time
abbrev pub TablesAreReadBack : Type 0
TablesAreReadBack = (run : Run) → is_plain_run run ≡ true → read_csv (csv_text run) ≡ flat_map (trace_rows run.tick) run.traces

-- ---- OpenSCENARIO XML

abbrev pub corner : Road → ℕ → Sample → Corner
corner road time s = record { time = time; x = s.position; y = middle road s.lane }

abbrev pub trajectory : Road → ℕ → Trace → Trajectory
trajectory road tick trace = record { vehicle = path_text trace.path.steps; corners = timed (corner road) tick 0 trace.samples }

-- each vehicle that isn't left to the simulation has a corner for each of its samples: its time, its position, and the middle of its lane
abbrev pub TrajectoriesAreReadBack : Type 0
TrajectoriesAreReadBack =
    (road : Road) (left : List ℕ) (run : Run) → is_plain_road road ≡ true → is_plain_run run ≡ true
    → read_xosc (xosc_text road left run) ≡ map (trajectory road run.tick) (filter (λ t. not (is_left left t)) run.traces)

-- no two lanes have one middle
abbrev pub MiddlesTellLanes : Type 0
MiddlesTellLanes = (road : Road) (a b : ℤ) → 0 < road.lane_width → middle road a ≡ middle road b → a ≡ b

-- ---- OpenDRIVE

abbrev pub lanes_of : Road → Lanes
lanes_of road = record { length = road.metres + 100; widths = replicate road.lanes road.lane_width }

-- a road has its lanes, each of its width, and 100 m more than its length
abbrev pub RoadsAreReadBack : Type 0
RoadsAreReadBack = (road : Road) → is_plain_road road ≡ true → read_xodr (xodr_text road) ≡ lanes_of road

-- ---- pages

-- a page holds the run's own text
abbrev pub PagesAreReadBack : Type 0
PagesAreReadBack = (run : Run) → read_page (page_text run) ≡ run_text run

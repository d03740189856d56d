-- A run as an ASAM OpenSCENARIO XML file: each vehicle follows a line with a corner at each tick.
use Rattle.std.specs.Prelude.{ℕ, ◌*◌, Bool, cond, List, [], ◌∷◌, ◌++◌, codes, flat_map}
use Rattle.std.specs.List.{concat}
use Rattle.std.specs.Str.{bytes_eq}
use Rattle.osc_base.specs.Path.{path_text}
use Rattle.osc_base.specs.declared.sample.Sample.{Sample}
use Rattle.run_check.specs.composition.declared.run.Trace.{Trace}
use Rattle.run_check.specs.composition.declared.run.Run.{Run}
use Rattle.run_exports.specs.Decimals.{fixed, signed_fixed}
use Rattle.run_exports.specs.Timed.{timed}
use Rattle.run_exports.specs.World.{across}
use Rattle.run_exports.specs.declared.road.Road.{Road}
use Rattle.run_exports.specs.declared.xosc_parts.Part.{Part}
use Rattle.run_exports.specs.XoscParts.{part_text}

-- where a sample is in the world
abbrev pub along_part : Sample → List ℕ
along_part sample = codes "<WorldPosition x=\"" ++ signed_fixed 6 sample.position

abbrev pub across_part : Road → Sample → List ℕ
across_part road sample = codes "\" y=\"" ++ across road sample.lane ++ codes "\" z=\"0\" h=\"0\" p=\"0\" r=\"0\"/>"

unfoldable pub position_tag : Road → Sample → List ℕ
position_tag road sample = along_part sample ++ across_part road sample

-- ---- the vehicles

abbrev pub object_line : List ℕ → List ℕ
object_line vehicle = codes "    <ScenarioObject name=\"" ++ vehicle ++ codes "\">\n"

abbrev pub vehicle_line : List ℕ → List ℕ
vehicle_line vehicle = codes "      <Vehicle name=\"" ++ vehicle ++ codes "\" vehicleCategory=\"car\">\n"

unfoldable pub entity : Trace → List ℕ
entity trace = let vehicle = path_text trace.path.steps in object_line vehicle ++ vehicle_line vehicle ++ part_text Part.Vehicle

-- ---- where each starts, and how fast

abbrev pub private_line : List ℕ → List ℕ
private_line vehicle = codes "        <Private entityRef=\"" ++ vehicle ++ codes "\">\n"

abbrev pub place_line : Road → Sample → List ℕ
place_line road sample = codes "              <Position>" ++ position_tag road sample ++ codes "</Position>\n"

abbrev pub speed_line : Sample → List ℕ
speed_line sample = codes "                  <AbsoluteTargetSpeed value=\"" ++ signed_fixed 3 sample.speed ++ codes "\"/>\n"

unfoldable pub start_lines : Road → Sample → List ℕ
start_lines road sample =
    (part_text Part.Teleport ++ place_line road sample) ++ (part_text Part.Speed ++ speed_line sample ++ part_text Part.Started)

abbrev pub start_of : Road → List ℕ → List Sample → List ℕ
start_of road vehicle [] = []
start_of road vehicle (first ∷ later) = private_line vehicle ++ start_lines road first

unfoldable pub start : Road → Trace → List ℕ
start road trace = start_of road (path_text trace.path.steps) trace.samples

-- ---- the line that each follows

abbrev pub group_line : List ℕ → List ℕ
group_line vehicle = codes "        <ManeuverGroup name=\"" ++ vehicle ++ codes "\" maximumExecutionCount=\"1\">\n"

abbrev pub actor_line : List ℕ → List ℕ
actor_line vehicle =
    codes "          <Actors selectTriggeringEntities=\"false\"><EntityRef entityRef=\"" ++ vehicle ++ codes "\"/></Actors>\n"

abbrev pub trajectory_line : List ℕ → List ℕ
trajectory_line vehicle = codes "                <Trajectory name=\"" ++ vehicle ++ codes "\" closed=\"false\">\n"

-- a corner of the line: its time, and where it is
abbrev pub time_part : ℕ → List ℕ
time_part time = codes "                  <Vertex time=\"" ++ fixed 3 time

abbrev pub corner_part : Road → Sample → List ℕ
corner_part road sample = codes "\"><Position>" ++ position_tag road sample ++ part_text Part.Corner

unfoldable pub vertex_line : Road → ℕ → Sample → List ℕ
vertex_line road time sample = time_part time ++ corner_part road sample

abbrev pub group_of : Road → ℕ → List ℕ → List Sample → List ℕ
group_of road tick vehicle samples =
    (group_line vehicle ++ actor_line vehicle ++ part_text Part.Event)
    ++ (trajectory_line vehicle ++ part_text Part.Shape ++ concat (timed (vertex_line road) tick 0 samples) ++ part_text Part.Followed)

unfoldable pub group : Road → ℕ → Trace → List ℕ
group road tick trace = group_of road tick (path_text trace.path.steps) trace.samples

-- the vehicle of this path is left to whoever drives it in the simulation
abbrev pub is_left : List ℕ → Trace → Bool
is_left left trace = bytes_eq (path_text trace.path.steps) left

abbrev pub driven_group : Road → List ℕ → ℕ → Trace → List ℕ
driven_group road left tick trace = cond (is_left left trace) [] (group road tick trace)

-- ---- the file

-- when the run ends
abbrev pub end_line : ℕ → List ℕ
end_line time = codes "            <SimulationTimeCondition value=\"" ++ fixed 3 time ++ codes "\" rule=\"greaterOrEqual\"/>\n"

-- the vehicles; where they start; which line each follows; when the run ends
abbrev pub xosc_text : Road → List ℕ → Run → List ℕ
xosc_text road left run =
    (part_text Part.Head ++ flat_map entity run.traces)
    ++ (part_text Part.Storyboard ++ flat_map (start road) run.traces)
    ++ (part_text Part.Story ++ flat_map (driven_group road left run.tick) run.traces)
    ++ (part_text Part.Stop ++ end_line (run.end * run.tick) ++ part_text Part.End)

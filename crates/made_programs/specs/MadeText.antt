-- The text that `osc make N` makes: a program of N vehicles, which drive at once in each of N phases. And the line that the command
-- writes behind the run.
use Rattle.std.specs.Prelude.{ℕ, ◌+◌, ◌*◌, ◌%◌, ◌==◌, List, [], ◌++◌, codes, flat_map, if◌then◌else◌}
use Rattle.std.specs.Fmt.{decimal}
use Rattle.std.specs.List.{range_with_len}

-- the lines of each number below a count
abbrev pub for_each : ℕ → (ℕ → List ℕ) → List ℕ
for_each count lines = flat_map lines (range_with_len 0 count)

-- ---- Lines

-- the declaration of a vehicle
abbrev pub vehicle_line : ℕ → List ℕ
vehicle_line vehicle = codes "    v" ++ decimal vehicle ++ codes ": vehicle\n"

-- a vehicle drives
abbrev pub drive_line : ℕ → List ℕ
drive_line vehicle = codes "            v" ++ decimal vehicle ++ codes ".drive(duration: 0.5s) with:\n"

-- on one of three lanes, another one in the next phase
abbrev pub lane_line : ℕ → ℕ → List ℕ
lane_line phase vehicle = codes "                lane(" ++ decimal ((vehicle + phase) % 3 + 1) ++ codes ", at: start)\n"

-- each at a speed of its own
abbrev pub speed_line : ℕ → List ℕ
speed_line vehicle = codes "                speed(" ++ decimal (10 + vehicle) ++ codes "mps)\n"

-- each 20 m ahead of the one before
abbrev pub position_line : ℕ → List ℕ
position_line vehicle = codes "                position(" ++ decimal (20 * vehicle) ++ codes "m, at: start)\n"

-- ---- Blocks

-- where a vehicle starts: it is said in the first phase alone
abbrev pub start_lines : ℕ → ℕ → List ℕ
start_lines phase vehicle = if phase == 0 then position_line vehicle else []

-- what a vehicle does in a phase
abbrev pub drive_lines : ℕ → ℕ → List ℕ
drive_lines phase vehicle = drive_line vehicle ++ lane_line phase vehicle ++ speed_line vehicle ++ start_lines phase vehicle

-- a phase: all vehicles at once
abbrev pub phase_lines : ℕ → ℕ → List ℕ
phase_lines count phase = codes "        parallel:\n" ++ for_each count (drive_lines phase)

-- ---- The whole text

-- as many phases as vehicles
abbrev pub made_text : ℕ → List ℕ
made_text count =
    codes "import osc.standard\nscenario top:\n" ++ for_each count vehicle_line
    ++ codes "    do serial:\n" ++ for_each count (phase_lines count)

-- what is written behind the run: the phases of the run, its last tick, and that it was checked
abbrev pub made_line : ℕ → ℕ → ℕ → List ℕ
made_line count phases end =
    codes "make " ++ decimal count ++ codes " phases " ++ decimal phases ++ codes " end " ++ decimal end ++ codes " check yes\n"

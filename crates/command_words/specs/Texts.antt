-- The texts that `osc` writes if the words ask for help or for the version.
use Rattle.std.specs.Prelude.{ℕ, List, [], ◌∷◌, ◌++◌, codes}

-- these lines, each ended by a line feed
abbrev pub lined : List (List ℕ) → List ℕ
lined [] = []
lined (line ∷ rest) = line ++ 10 ∷ lined rest

-- what `osc` does, its commands, and the statuses of all of them
unfoldable pub general_help : List ℕ
general_help = lined (
    codes "osc reads a scenario of driving, written in a profile of OpenSCENARIO DSL 2.1,"
    ∷ codes "searches for a concrete run of it, and writes the run, or a proof that there is"
    ∷ codes "none within the bounds. It checks runs and such proofs."
    ∷ []
    ∷ codes "Usage:"
    ∷ codes "  osc generate FILE SCENARIO [OPTIONS]"
    ∷ codes "  osc check FILE SCENARIO RUN [OPTIONS]"
    ∷ codes "  osc export FILE SCENARIO RUN --as FORM [OPTIONS]"
    ∷ codes "  osc verify FILE SCENARIO RECORD [OPTIONS]"
    ∷ codes "  osc flat FILE SCENARIO [OPTIONS]"
    ∷ codes "  osc make N"
    ∷ codes "  osc migrate RUN"
    ∷ codes "  osc explain [CODE]"
    ∷ codes "  osc help [COMMAND]"
    ∷ codes "  osc --version"
    ∷ []
    ∷ codes "Commands:"
    ∷ codes "  generate   writes a run of a scenario; for its options: osc generate --help"
    ∷ codes "  check      says whether a run is an instance; its words: osc check --help"
    ∷ codes "  export     writes a run as csv, xosc, xodr or html: osc export --help"
    ∷ codes "  verify     says whether a record is right; its words: osc verify --help"
    ∷ codes "  flat       lists the slots and rules of a scenario: osc flat --help"
    ∷ codes "  make       writes a run of a made scenario with N vehicles: osc make --help"
    ∷ codes "  migrate    writes a run as text of form 2: osc migrate --help"
    ∷ codes "  explain    writes what a code means, for example 201, or lists all codes"
    ∷ codes "  help       writes this text, or the help of a command; --help and -h this text"
    ∷ codes "  --version  writes the version; so does -V"
    ∷ []
    ∷ codes "Statuses, and what osc writes to standard output:"
    ∷ codes "  0  success: what was asked for; of check and verify: yes"
    ∷ codes "  1  there is no instance: the record that shows it"
    ∷ codes "     of check and export: no CLAUSE PATH FILE:LINE:COLUMN"
    ∷ codes "     (only constraints and modifiers have a place)"
    ∷ codes "     of verify: no LINE, the first line that isn't accepted"
    ∷ codes "  2  undecided after all cuts: the record; of verify: open CUTS"
    ∷ codes "  3  the source is refused: fault CODE FILE:LINE:COLUMN"
    ∷ codes "     (an imported file that isn't there is fault 301)"
    ∷ codes "  4  the words are refused: words"
    ∷ codes "  5  the file of a run is no JSON: text json"
    ∷ codes "     its JSON is no run: text POINTER, the first place that differs"
    ∷ codes "     a record's text is none: text LINE, the first line that differs"
    ∷ codes "  6  the main file, a run or a record isn't there: missing FILE"
    ∷ codes "     a source is longer than 1048576 bytes, a run than 16777216, or a record"
    ∷ codes "     than 268435456: long FILE"
    ∷ codes "     a file can't be read: shelf FILE"
    ∷ codes "  7  standard output failed: a prefix of the text, or nothing"
    ∷ codes "  8  out of memory: nothing"
    ∷ codes "  9  the words can't be read, for example if one isn't UTF-8: nothing"
    ∷ [])

-- ---- Commands that read a scenario

-- what the help of such a command has of its own
pub record SceneHelp : Type 0 where
  -- what the command does
  pub does : List (List ℕ)
  pub usage : List ℕ
  -- its words after FILE and SCENARIO, and what all its words are called
  pub words : List (List ℕ)
  pub names : List ℕ
  -- its options after those of a setting
  pub options : List (List ℕ)
  -- what it writes
  pub writes : List (List ℕ)

-- the words and the options that these commands share
abbrev source_lines : List (List ℕ)
source_lines = codes "Words:"
    ∷ codes "  FILE       the source file"
    ∷ codes "  SCENARIO   the name of the scenario: NAME or ACTOR.NAME"
    ∷ []

abbrev setting_lines : List (List ℕ)
setting_lines = codes "Options, each at most once, as --ticks N or --ticks=N:"
    ∷ codes "  --ticks N  the last tick that a run may have: 1 to 600, default 100"
    ∷ codes "  --tick N   the length of a tick in milliseconds: 10 to 1000, default 100"
    ∷ codes "  --lanes N  the lanes of the road: 1 to 8, default 3"
    ∷ codes "  --road N   the length of the road in metres: 1 to 10000, default 1000"
    ∷ []

-- the help of a command that reads a scenario
abbrev pub scene_help : SceneHelp → List ℕ
scene_help own = lined (
    own.does
    ++ [] ∷ codes "Usage:" ∷ own.usage
    ∷ [] ∷ source_lines ++ own.words
    ++ [] ∷ setting_lines ++ own.options
    ++ codes "  -h, --help writes this text"
    ∷ [] ∷ (codes "After --, each word is " ++ own.names ++ codes ", even if it begins with -.")
    ∷ [] ∷ own.writes
    ++ [] ∷ codes "For the statuses: osc help" ∷ [])

-- the words and options of `generate`
unfoldable pub generate_help : List ℕ
generate_help = scene_help (record {
  does = codes "osc generate reads a source file and writes a run of one of its scenarios to"
      ∷ codes "standard output, as one line of JSON."
      ∷ [];
  usage = codes "  osc generate FILE SCENARIO [OPTIONS]";
  words = [];
  names = codes "FILE or SCENARIO";
  options = codes "  --seed N   the seed of what is drawn at random:"
      ∷ codes "             0 to 18446744073709551615, default 0"
      ∷ codes "  --cuts N   the most cuts of a search: 1 to 1000000, default 200000"
      ∷ codes "  --tries N  the most searches, each next one with the next seed, up to one that"
      ∷ codes "             is decided: 1 to 100, default 1"
      ∷ [];
  writes = codes "A source file with a scenario named top:"
      ∷ codes "  scenario top:"
      ∷ codes "      x: int"
      ∷ codes "      keep(x in [3..3])"
      ∷ []
      ∷ codes "The run is an instance of the scenario: osc check says yes to it. With status 1"
      ∷ codes "it writes a record in place of a run, which shows that there is no instance"
      ∷ codes "within the bounds. With status 2 it writes a record of a search that ended"
      ∷ codes "undecided: more tries or more cuts may help. osc verify reads both."
      ∷ [];
})

-- the words and options of `check`
unfoldable pub check_help : List ℕ
check_help = scene_help (record {
  does = codes "osc check reads a source file and a run, and says whether the run is an"
      ∷ codes "instance of one of the source's scenarios."
      ∷ [];
  usage = codes "  osc check FILE SCENARIO RUN [OPTIONS]";
  words = codes "  RUN        the file with the run, as osc generate writes it: JSON, at most"
      ∷ codes "             16777216 bytes"
      ∷ [];
  names = codes "FILE, SCENARIO or RUN";
  options = [];
  writes = codes "It writes yes if the run is an instance, and else no, the first clause that"
      ∷ codes "fails, its path, and its place in the source if it is about a constraint or a"
      ∷ codes "modifier."
      ∷ [];
})

-- the words and options of `export`
unfoldable pub export_help : List ℕ
export_help = scene_help (record {
  does = codes "osc export reads a source file and a run, checks the run as osc check does, and"
      ∷ codes "writes it in another form."
      ∷ [];
  usage = codes "  osc export FILE SCENARIO RUN --as FORM [OPTIONS]";
  words = codes "  RUN        the file with the run, as osc generate writes it: JSON, at most"
      ∷ codes "             16777216 bytes"
      ∷ [];
  names = codes "FILE, SCENARIO or RUN";
  options = codes "  --as FORM  the form, which must be given:"
      ∷ codes "             csv   a table: a line for each vehicle and tick"
      ∷ codes "             xosc  ASAM OpenSCENARIO XML 1.1, over the road in road.xodr"
      ∷ codes "             xodr  that road: ASAM OpenDRIVE 1.6"
      ∷ codes "             html  a page for a browser, which shows the run"
      ∷ codes "  --ego PATH only starts this vehicle in xosc: the simulator drives it"
      ∷ codes "  --lane-width MM"
      ∷ codes "             the width of a lane in millimetres: 1000 to 10000, default 3500"
      ∷ [];
  writes = codes "If the run is an instance, its text in this form is written. Else it writes no,"
      ∷ codes "and what osc check writes after it. The options of the setting are to be those"
      ∷ codes "with which the run was written."
      ∷ [];
})

-- the words and options of `verify`
unfoldable pub verify_help : List ℕ
verify_help = scene_help (record {
  does = codes "osc verify reads a source file and a record, and says whether the record is"
      ∷ codes "right about one of the source's scenarios."
      ∷ [];
  usage = codes "  osc verify FILE SCENARIO RECORD [OPTIONS]";
  words = codes "  RECORD     the file with the record, as osc generate writes it with status 1"
      ∷ codes "             or 2: at most 268435456 bytes"
      ∷ [];
  names = codes "FILE, SCENARIO or RECORD";
  options = [];
  writes = codes "It writes yes if the record shows that there is no instance within the bounds,"
      ∷ codes "and open CUTS if its lines are accepted and leave that undecided after so many"
      ∷ codes "cuts. Else it writes no LINE, the first line that isn't accepted. The options"
      ∷ codes "are to be those with which the record was written."
      ∷ [];
})

-- the words and options of `flat`
unfoldable pub flat_help : List ℕ
flat_help = scene_help (record {
  does = codes "osc flat reads a source file and lists the flat form of one of its scenarios:"
      ∷ codes "the slots that a run fills, and the rules that it meets."
      ∷ [];
  usage = codes "  osc flat FILE SCENARIO [OPTIONS]";
  words = [];
  names = codes "FILE or SCENARIO";
  options = [];
  writes = codes "It writes how many slots there are, and a line for each with the least and the"
      ∷ codes "greatest number that it can hold. Then it writes how many rules there are, and a"
      ∷ codes "line for each with the place or the path that it comes from."
      ∷ [];
})

-- ---- Other texts

-- the word of `make`
unfoldable pub make_help : List ℕ
make_help = lined (
    codes "osc make makes a scenario for N vehicles, and writes a run of it to standard"
    ∷ codes "output, as one line of JSON."
    ∷ []
    ∷ codes "Usage:"
    ∷ codes "  osc make N"
    ∷ []
    ∷ codes "Words:"
    ∷ codes "  N          the number of vehicles, and of the parallel blocks in which each of"
    ∷ codes "             them drives: 1 to 16"
    ∷ []
    ∷ codes "Options:"
    ∷ codes "  -h, --help writes this text"
    ∷ []
    ∷ codes "The run is searched with 5 * N ticks, 3 lanes, a road of 1000 metres, seed 0 and"
    ∷ codes "at most 200000 cuts. That it is an instance is proved. After it stands the line"
    ∷ []
    ∷ codes "  make N phases P end E check yes"
    ∷ []
    ∷ codes "where P is the number of phases of the run, and E is its end. Without a run, osc"
    ∷ codes "writes a record in place of both, as osc generate does."
    ∷ []
    ∷ codes "For the statuses: osc help"
    ∷ [])

-- the word of `migrate`
unfoldable pub migrate_help : List ℕ
migrate_help = lined (
    codes "osc migrate reads a run and writes it to standard output as text of form 2, as"
    ∷ codes "one line of JSON. It reads no source file."
    ∷ []
    ∷ codes "Usage:"
    ∷ codes "  osc migrate RUN"
    ∷ []
    ∷ codes "Words:"
    ∷ codes "  RUN        the file with the run, of form 1 or 2: JSON, at most"
    ∷ codes "             16777216 bytes"
    ∷ []
    ∷ codes "Options:"
    ∷ codes "  -h, --help writes this text"
    ∷ []
    ∷ codes "After --, each word is RUN, even if it begins with -."
    ∷ []
    ∷ codes "Text of form 2 tells the length of a tick in milliseconds. Text of form 1"
    ∷ codes "doesn't: its ticks have 100 milliseconds."
    ∷ []
    ∷ codes "For the statuses: osc help"
    ∷ [])

-- the program's name and version
unfoldable pub version_text : List ℕ
version_text = lined (codes "osc 0.1.0" ∷ [])

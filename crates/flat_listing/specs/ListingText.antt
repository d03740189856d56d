-- The text of a flat form: its slots with their ends, and its rules, each by its name.
use Rattle.std.specs.Prelude.{ℕ, List, [], ◌∷◌, ◌++◌, codes, flat_map, length}
use Rattle.std.specs.Fmt.{decimal, signed_decimal}
use Rattle.osc_base.specs.declared.fault.Place.{Place}
use Rattle.osc_base.specs.declared.path.Path.{Path}
use Rattle.osc_base.specs.declared.listing.SlotName.{SlotName}
use Rattle.osc_base.specs.declared.listing.RuleName.{RuleName}
use Rattle.osc_base.specs.Path.{path_text}
use Rattle.box_eval.specs.declared.bounds.Pair.{Pair}
use Rattle.name_scope.specs.FileNumbers.{AddedFile}
use Rattle.program_load.specs.Loading.{name_at}

-- a word and a path
abbrev pub at_path : List ℕ → Path → List ℕ
at_path word path = word ++ codes " " ++ path_text path.steps

-- a word, a path and a tick
abbrev pub at_tick : List ℕ → Path → ℕ → List ℕ
at_tick word path tick = word ++ codes " " ++ path_text path.steps ++ codes " " ++ decimal tick

-- a word, and `FILE:LINE:COLUMN`
abbrev pub at_place : List AddedFile → List ℕ → Place → List ℕ
at_place program word place = word ++ codes " " ++ name_at program place.file ++ codes ":" ++ decimal place.line ++ codes ":" ++ decimal place.column

-- ---- slots

-- what a slot holds
abbrev pub slot_text : SlotName → List ℕ
slot_text (SlotName.Choice path) = at_path (codes "choice") path
slot_text (SlotName.Start path) = at_path (codes "start") path
slot_text (SlotName.End path) = at_path (codes "end") path
slot_text (SlotName.Value path) = at_path (codes "value") path
slot_text (SlotName.Lane path tick) = at_tick (codes "lane") path tick
slot_text (SlotName.Position path tick) = at_tick (codes "position") path tick
slot_text (SlotName.Speed path tick) = at_tick (codes "speed") path tick

-- what a slot holds, and its least and its greatest value
abbrev pub slot_line : SlotName → Pair → List ℕ
slot_line name ends = slot_text name ++ codes " " ++ signed_decimal ends.low ++ codes " " ++ signed_decimal ends.high ++ codes "\n"

-- a line for each slot
abbrev pub slot_lines : List SlotName → List Pair → List ℕ
slot_lines [] ends = []
slot_lines (name ∷ names) [] = []
slot_lines (name ∷ names) (ends ∷ others) = slot_line name ends ++ slot_lines names others

-- ---- rules

-- what a rule says
abbrev pub rule_text : List AddedFile → RuleName → List ℕ
rule_text program (RuleName.Hard place) = at_place program (codes "hard") place
rule_text program (RuleName.Default place) = at_place program (codes "default") place
rule_text program (RuleName.Typed path) = at_path (codes "typed") path
rule_text program (RuleName.Arranged path) = at_path (codes "arranged") path
rule_text program (RuleName.Modifier place tick) = at_place program (codes "modifier") place ++ codes " " ++ decimal tick
rule_text program (RuleName.Motion path tick) = at_tick (codes "motion") path tick

-- the line of a rule
abbrev pub rule_line : List AddedFile → RuleName → List ℕ
rule_line program name = rule_text program name ++ codes "\n"

-- a line for each rule
abbrev pub rule_lines : List AddedFile → List RuleName → List ℕ
rule_lines program names = flat_map (rule_line program) names

-- ---- the listing

-- `WORD COUNT`
abbrev pub count_line : List ℕ → ℕ → List ℕ
count_line word count = word ++ codes " " ++ decimal count ++ codes "\n"

-- how many slots there are, and each with its ends; then how many rules there are, and each
abbrev pub listing_text : List AddedFile → List SlotName → List Pair → List RuleName → List ℕ
listing_text program slots ends rules =
    (count_line (codes "slots") (length slots) ++ slot_lines slots ends) ++ (count_line (codes "rules") (length rules) ++ rule_lines program rules)

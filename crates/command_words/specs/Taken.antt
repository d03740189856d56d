-- The commands of the code, and what was found for their words.
use Rattle.std.specs.Prelude.{codes, ⊤}
use Rattle.clap.specs.declared.parser.matches.Found.{Found}
use Rattle.command_words.specs.Parse.{HoldsNumber}
use Rattle.command_words.specs.Words.{Form, check_form, export_form, flat_form, generate_form, make_form, migrate_form, verify_form}
use Rattle.command_words.specs.declared.commands.CommandName.{CommandName}
use Rattle.command_words.specs.declared.commands.CommandName.TheVariants as command

-- the command of a name
abbrev pub form_of : CommandName → Form
form_of command.Generate = generate_form
form_of command.Check = check_form
form_of command.Export = export_form
form_of command.Verify = verify_form
form_of command.Flat = flat_form
form_of command.Make = make_form
form_of command.Migrate = migrate_form

-- each option of a setting holds a number in its range
pub record HoldsSetting (found : Found) : Type 0 where
  pub ticks : HoldsNumber found (codes "ticks") 1 600
  pub lanes : HoldsNumber found (codes "lanes") 1 8
  pub road : HoldsNumber found (codes "road") 1 10000
  pub tick : HoldsNumber found (codes "tick") 10 1000

-- each option of `generate` holds a number in its range
pub record HoldsGenerate (found : Found) : Type 0 where
  pub setting : HoldsSetting found
  pub seed : HoldsNumber found (codes "seed") 0 18446744073709551615
  pub cuts : HoldsNumber found (codes "cuts") 1 1000000
  pub tries : HoldsNumber found (codes "tries") 1 100

-- each option of `export` that has a number holds one in its range
pub record HoldsExport (found : Found) : Type 0 where
  pub setting : HoldsSetting found
  pub lane_width : HoldsNumber found (codes "lane-width") 1000 10000

-- each number of a command is in its range
abbrev pub HoldsNumbers : CommandName → Found → Type 0
HoldsNumbers command.Generate found = HoldsGenerate found
HoldsNumbers command.Check found = HoldsSetting found
HoldsNumbers command.Export found = HoldsExport found
HoldsNumbers command.Verify found = HoldsSetting found
HoldsNumbers command.Flat found = HoldsSetting found
HoldsNumbers command.Make found = HoldsNumber found (codes "N") 1 16
HoldsNumbers command.Migrate found = ⊤

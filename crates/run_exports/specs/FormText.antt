-- The text of a run in a form in which it leaves the tool.
use Rattle.std.specs.Prelude.{ℕ, List}
use Rattle.run_check.specs.composition.declared.run.Run.{Run}
use Rattle.run_exports.specs.declared.forms.Form.{Form}
use Rattle.run_exports.specs.declared.road.Road.{Road}
use Rattle.run_exports.specs.CsvText.{csv_text}
use Rattle.run_exports.specs.XoscText.{xosc_text}
use Rattle.run_exports.specs.XodrText.{xodr_text}
use Rattle.run_exports.specs.PageText.{page_text}

-- a run on a road in a form; the vehicle of the path `left` is left to a simulation
abbrev pub form_text : Form → Road → List ℕ → Run → List ℕ
form_text Form.Csv road left run = csv_text run
form_text Form.Xosc road left run = xosc_text road left run
form_text Form.Xodr road left run = xodr_text road
form_text Form.Html road left run = page_text run

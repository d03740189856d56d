-- What the lines of a header say.
use Rattle.std.specs.Prelude.{ℕ, Bool, false}
use Rattle.record_text.specs.declared.line.Form.{Form}
use Rattle.record_text.specs.declared.line.Form.TheVariants.{One}
use Rattle.record_text.specs.TextLines.{TextLine}
use Rattle.record_text.specs.TextLines as T

abbrev pub undecided_of : TextLine → Bool
undecided_of (T.Head undecided form) = undecided
undecided_of line = false

abbrev pub form_told : TextLine → Form
form_told (T.Head undecided form) = form
form_told line = One

abbrev pub number_of : TextLine → ℕ
number_of (T.Slots number) = number
number_of (T.Rules number) = number
number_of (T.Room number) = number
number_of line = 0

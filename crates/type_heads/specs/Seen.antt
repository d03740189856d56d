-- What the program's own types are seen as.
use Rattle.type_heads.specs.Form.{Form}
use Rattle.type_heads.specs.declared.form.OwnForm.{OwnForm}
use Rattle.type_heads.specs.declared.form.Form.{Form as Shown}

-- what a type is, as its head keeps it
abbrev pub kept_form : OwnForm → Form
kept_form OwnForm.Int = Form.Int
kept_form OwnForm.Uint = Form.Uint
kept_form OwnForm.Float = Form.Float
kept_form OwnForm.Truth = Form.Truth
kept_form OwnForm.Chars = Form.Chars
kept_form (OwnForm.Physical exponents) = Form.Physical exponents
kept_form (OwnForm.Enum members) = Form.Enum members
kept_form (OwnForm.Compound kind) = Form.Compound kind

-- what a type is
abbrev pub seen_form : Shown → Form
seen_form Shown.Int = Form.Int
seen_form Shown.Uint = Form.Uint
seen_form Shown.Float = Form.Float
seen_form Shown.Truth = Form.Truth
seen_form Shown.Chars = Form.Chars
seen_form (Shown.Physical exponents) = Form.Physical exponents
seen_form (Shown.Enum members) = Form.Enum members.now
seen_form (Shown.Compound kind) = Form.Compound kind

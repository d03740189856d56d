use Rattle.std.proofs.Common.{option_map}
use Rattle.program_calls.specs.SeenModifiers.{seen_form}
use Rattle.program_calls.proofs.ModifierFews.{form_each}
use Rattle.program_calls.proofs.modifier_forms.form_with.Goals as goal

pub returns : goal.returns
returns c =
    form_each c.args.name.now c.args.range c.args.other c.args.moment c.in_ok-range.range c.in_ok-other.other (option_map seen_form c.form_on_line.result)
    c.in_ok-range.ensures c.in_ok-other.ensures c.form_on_line.ensures

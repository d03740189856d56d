use Rattle.asked_forms.proofs.Pins.{pins_say}
use Rattle.asked_forms.proofs.laws.pins_say.Goals as goal

pub returns : goal.returns
returns c = pins_say

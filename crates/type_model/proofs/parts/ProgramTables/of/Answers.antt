use Rattle.type_model.proofs.parts.ProgramTables.of.Goals as goal

pub returns : goal.returns
returns c = record { units = c.in_ok-units.ensures; texts = c.in_ok-texts.ensures.texts; few = c.in_ok-texts.ensures.few; numbers = c.in_ok-numbers.ensures }

use Rattle.record_text.proofs.Putting.{part_more}
use Rattle.record_text.proofs.put.put_line.Goals as goal

pub returns-in-Some-clause-part : goal.returns-in-Some-clause-part
returns-in-Some-clause-part g c = part_more c.put.result _ _ _ _ c.put.ensures.part

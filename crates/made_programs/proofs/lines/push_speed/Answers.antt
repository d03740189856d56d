use Rattle.made_programs.proofs.lines.push_speed.Goals as goal

pub returns : goal.returns
returns c = rw c.from.ensures at c.write.ensures.bytes

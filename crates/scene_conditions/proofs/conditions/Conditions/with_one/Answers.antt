use Rattle.scene_conditions.proofs.Keys.{one_more}
use Rattle.scene_conditions.proofs.conditions.Conditions.with_one.Goals as goal

pub returns : goal.returns
returns c = one_more c.args.self.keys.keys c.insert.new.self.keys c.of.result c.args.guard.now c.in_ok-insert.ensures.keys c.of.ensures

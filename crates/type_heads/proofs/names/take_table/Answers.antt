use Rattle.std.proofs.Common.{None}
use Rattle.std.proofs.lemmas.Map.Text.{hash_map_updates_text}
use Rattle.type_heads.proofs.names.take_table.Goals as goal

pub returns-in-Some-clause-others : goal.returns-in-Some-clause-others
returns-in-Some-clause-others c = λ other. hash_map_updates_text c.args.owner.now c.args.owned.now c.swap_remove.new.self None c.swap_remove.ensures.updates other

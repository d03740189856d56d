use Rattle.std.proofs.Common.{sym}
use Rattle.std.proofs.lemmas.List.{take-map}
use Rattle.type_members.specs.Listed.{seen_listed}
use Rattle.type_members.proofs.listed.first_of.Goals as goal

pub returns-then-len-members : goal.returns-then-len-members
returns-then-len-members c = sym (take-map seen_listed c.args.len c.args.members.now)

use Rattle.std.proofs.Common.{◌∙◌, ap, map, sym}
use Rattle.std.proofs.lemmas.List.{drop-map, take_rest}
use Rattle.type_members.specs.Listed.{seen_listed}
use Rattle.type_members.proofs.listed.rest_of.Goals as goal

pub returns-then-from-members : goal.returns-then-from-members
returns-then-from-members c = ap (map seen_listed) (take_rest c.args.members.now c.args.from) ∙ sym (drop-map seen_listed c.args.from c.args.members.now)

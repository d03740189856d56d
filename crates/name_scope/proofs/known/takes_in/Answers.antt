use Rattle.name_scope.specs.Headings.{declarations}
use Rattle.name_scope.proofs.Places.{takes_first, takes_second}
use Rattle.name_scope.proofs.known.takes_in.Goals as goal

pub returns-then-declares_in : goal.returns-then-declares_in
returns-then-declares_in c = takes_first c.args.name.now (declarations c.args.sources.now) c.declares_in.result c.declares_in.ensures c.if-declares_in.true

pub returns-else-declares_in : goal.returns-else-declares_in
returns-else-declares_in c = takes_second c.args.name.now (declarations c.args.sources.now) c.declares_in.result c.declares_in-else-declares_in.result c.declares_in.ensures c.if-declares_in.false c.declares_in-else-declares_in.ensures

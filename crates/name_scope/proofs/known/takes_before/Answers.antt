use Rattle.name_scope.specs.Earlier.{earlier_of}
use Rattle.name_scope.proofs.Places.{takes_first, takes_second}
use Rattle.name_scope.proofs.known.takes_before.Goals as goal

pub returns-then-declares_before : goal.returns-then-declares_before
returns-then-declares_before c = takes_first c.args.name.now (earlier_of c.args.earlier) c.declares_before.result c.declares_before.ensures c.if-declares_before.true

pub returns-else-declares_before : goal.returns-else-declares_before
returns-else-declares_before c = takes_second c.args.name.now (earlier_of c.args.earlier) c.declares_before.result c.declares_before-else-declares_before.result c.declares_before.ensures c.if-declares_before.false c.declares_before-else-declares_before.ensures

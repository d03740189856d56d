use Rattle.std.proofs.Common.{◌∙◌, ap}
use Rattle.type_members.specs.type_heads.Bounds.{ascending}
use Rattle.type_tables.proofs.Ascending.{sorted_is}
use Rattle.type_tables.proofs.numbers.ascending.Goals as goal

pub returns : goal.returns
returns c =
    c.of.ensures ∙ sorted_is c.in_ok-numbers.numbers.items c.sort.new.self.items c.in_ok-sort.ensures.permutation c.in_ok-sort.ensures.sorted
    ∙ ap ascending c.in_ok-numbers.ensures

use Rattle.std.proofs.Common.{ℕ, List, subst}
use Rattle.type_tables.specs.Places.{Places}
use Rattle.type_tables.proofs.text_table.TextTable.of.Goals as goal

pub invariant_of-result : goal.invariant_of-result
invariant_of-result c = subst (λ (texts : List (List ℕ)). Places c.in_ok-places.places (λ (text : List ℕ). text) texts) c.as_slice.ensures.value c.in_ok-places.ensures

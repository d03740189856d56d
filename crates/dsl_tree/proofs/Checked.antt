-- The lists of each part pass their test.
use Rattle.std.proofs.Common.{◌≡◌, true, refl}
use Rattle.dsl_tree.specs.Grammar.{Part}
use Rattle.dsl_tree.specs.Lookahead.{is_predictive}
use Rattle.dsl_tree.proofs.EachPart.{each_part}

pub checked : (p : Part) → is_predictive p ≡ true
checked = each_part is_predictive refl

use Rattle.std.proofs.Common.{refl}
use Rattle.dsl_tree.proofs.Tops.{first_fault_at}
use Rattle.dsl_parser.proofs.Wholes.{token_at}
use Rattle.dsl_parser.proofs.parser.fault_at.Goals as goal

pub returns : goal.returns
returns c = first_fault_at _ _ c.requires _ _ _ (token_at _ _ _ c.requires c.index-tokens-at.is) refl c.code_at.ensures

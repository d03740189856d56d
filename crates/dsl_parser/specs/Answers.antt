-- What `parse` says of tokens that spell no tree.
use Rattle.std.specs.Prelude.{◌≡◌, ◌∷◌, ◌++◌}
use Rattle.osc_base.specs.{declared.fault.Fault.Fault}
use Rattle.dsl_tree.specs.{Language.IsViable, Language.fault_code}
use Rattle.dsl_cursor.specs.Words.{List, [], Token}

-- `FirstFault` of dsl_tree has two halves. The first: the spelling of some tree begins with the
-- tokens before the fault.
pub record HasViableFront (tokens : List Token) (fault : Fault) : Type 0 where
  pub front : List Token
  pub token : Token
  pub back : List Token
  pub split : tokens ≡ front ++ token ∷ back
  pub place : fault.place ≡ token.place
  pub code : fault.code ≡ fault_code token.kind
  pub viable : IsViable front

-- The second: none begins with them and the token at which the fault is.
pub record HasDeadToken (tokens : List Token) (fault : Fault) : Type 0 where
  pub front : List Token
  pub token : Token
  pub back : List Token
  pub split : tokens ≡ front ++ token ∷ back
  pub place : fault.place ≡ token.place
  pub code : fault.code ≡ fault_code token.kind
  pub dead : IsViable (front ++ token ∷ []) → ⊥

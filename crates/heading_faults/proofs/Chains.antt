-- Chains of tests, of which the first that fails decides.
use Rattle.std.proofs.Common.{◌≡◌, ◌∙◌, sym, ap, Bool, true, false, ◌&&◌}

-- this one fails
pub fails : (r a b : Bool) → r ≡ a → r ≡ false → false ≡ (a && b)
fails r a b is h = ap (λ c. c && b) (sym h ∙ is)

-- this one passes, and the others decide
pub passes : (r a b s : Bool) → r ≡ a → r ≡ true → s ≡ b → s ≡ (a && b)
passes r a b s is h more = more ∙ ap (λ c. c && b) (sym h ∙ is)

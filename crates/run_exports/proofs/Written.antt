-- What was written piece by piece.
use Rattle.std.proofs.Common.{◌≡◌, ◌∙◌, ap, ℕ, List, ◌++◌, append_assoc, Result, Ok, Err, OnOk}

-- two pieces
pub two_written : {E : Type 0} (r : Result (Unit {0}) E) (new first old a b : List ℕ) → first ≡ old ++ a → OnOk r (new ≡ first ++ b) → OnOk r (new ≡ old ++ (a ++ b))
two_written (Ok x) new first old a b one two = two ∙ ap (λ t. t ++ b) one ∙ append_assoc old a b
two_written (Err e) new first old a b one two = tt

-- three pieces
pub three_written : {E : Type 0} (r : Result (Unit {0}) E) (new second first old a b c : List ℕ) → first ≡ old ++ a → second ≡ first ++ b → OnOk r (new ≡ second ++ c)
    → OnOk r (new ≡ old ++ ((a ++ b) ++ c))
three_written r new second first old a b c one two three =
    two_written r new second old (a ++ b) c (two ∙ ap (λ t. t ++ b) one ∙ append_assoc old a b) three

-- Two lists that are put at the end of a list, one after the other.
use Rattle.std.proofs.Common.{◌≡◌, ap, ◌∙◌, List, ◌++◌, append_assoc, ℕ}

pub both_pushed : (old mid new xs ys : List ℕ) → mid ≡ old ++ xs → new ≡ mid ++ ys → new ≡ old ++ (xs ++ ys)
both_pushed old mid new xs ys one two = two ∙ (ap (λ l. l ++ ys) one ∙ append_assoc old xs ys)

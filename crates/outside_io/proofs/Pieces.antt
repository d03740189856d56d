-- Bytes taken and given piece by piece.
use Rattle.std.proofs.Common.{◌≡◌, ℕ, ◌+◌, ◌-◌, ◌≤◌, List, ◌++◌, length, take, drop, Option, Some, None, refl, ap, ◌∙◌, arith, append_assoc, take-add, length-drop}
use Rattle.std.specs.Io.KnownBytes.{append_known}
use Rattle.std.specs.List.{between}
use Rattle.std.proofs.lemmas.Slice.{between_to_end}

pub append_twice : (known : Option (List ℕ)) (xs ys : List ℕ) → append_known (append_known known xs) ys ≡ append_known known (xs ++ ys)
append_twice None xs ys = refl
append_twice (Some zs) xs ys = ap Some (append_assoc zs xs ys)

-- what is left of the bytes
left_over : (bytes : List ℕ) (done : ℕ) → between done (length bytes) bytes ≡ drop done bytes
left_over bytes done = between_to_end bytes done (length bytes) (omega arith)

-- one more piece of the bytes was appended
pub append_more : (before now after : Option (List ℕ)) (bytes : List ℕ) (done count : ℕ) → now ≡ append_known before (take done bytes)
    → after ≡ append_known now (take count (between done (length bytes) bytes)) → after ≡ append_known before (take (done + count) bytes)
append_more before now after bytes done count was more =
    more ∙ rw (was, left_over bytes done, append_twice before (take done bytes) (take count (drop done bytes)), ← take-add done count bytes) refl

-- a piece of what is left ends within the bytes
pub piece_within : (bytes : List ℕ) (done count : ℕ) → done ≤ length bytes → count ≤ length (between done (length bytes) bytes) → done + count ≤ length bytes
piece_within bytes done count within fits =
    let fact : count ≤ length bytes - done = rw (← length-drop done bytes, ← left_over bytes done) fits in omega arith

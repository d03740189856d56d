-- A text whose first byte isn't a word's doesn't begin with it.
use Rattle.std.proofs.Common.{◌≡◌, refl, sym, ℕ, Bool, true, false, ◌&&◌, List, [], ◌∷◌}
use Rattle.std.specs.Prelude.{not, nat_eq}
use Rattle.std.specs.List.{starts_with}
use Rattle.std.proofs.lemmas.Bool.{false≢true}
use Rattle.record_text.specs.Scan.{differ_first}

none_with : (a later : Bool) → not a ≡ true → a && later ≡ false
none_with true later h = absurd (false≢true h)
none_with false later h = refl

pub differs : (text word : List ℕ) → differ_first text word ≡ true → starts_with nat_eq text word ≡ false
differs [] word h = absurd (false≢true h)
differs (b ∷ text) [] h = absurd (false≢true h)
differs (b ∷ text) (c ∷ word) h = none_with (nat_eq c b) _ h

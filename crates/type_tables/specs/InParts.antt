-- What is looked for in parts, one after the other.
use Rattle.std.specs.Prelude.{List, [], ◌∷◌, Option, None}
use Rattle.std.specs.Option.{option_or}

-- the first that is found in some parts
abbrev pub first_found : {P X : Type 0} → (P → Option X) → List P → Option X
first_found find_in [] = None
first_found find_in (p ∷ ps) = option_or (find_in p) (first_found find_in ps)

-- The tokens of a forest.
use Rattle.std.proofs.Common.{◌≡◌, List, ◌∷◌, true, refl}
use Rattle.std.proofs.lemmas.Bool.{false≢true}
use Rattle.osc_base.specs.declared.fault.Place.{Place}
use Rattle.dsl_tree.specs.declared.token.Token.{Token}
use Rattle.dsl_tree.specs.Forest.{Forest, nil, seen, bare, sub, wrong, Spells}
use Rattle.dsl_tree.proofs.Tests.{is_whole, left_of, right_of}

-- the tokens of a forest, before others, when those whose places it doesn't hold stand at one place
abbrev pub leaves : Place → Forest → List Token → List Token
leaves p nil z = z
leaves p (seen place kind f) z = record { place = place; kind = kind } ∷ leaves p f z
leaves p (bare kind f) z = record { place = p; kind = kind } ∷ leaves p f z
leaves p (sub a f) z = leaves p a (leaves p f z)
leaves p wrong z = z

pub Spells-leaves : (p : Place) (f : Forest) (z : List Token) → is_whole f ≡ true → Spells f (leaves p f z) z
Spells-leaves p nil z h = refl
Spells-leaves p (seen place kind f) z h = (refl, refl, Spells-leaves p f z h)
Spells-leaves p (bare kind f) z h = (refl, Spells-leaves p f z h)
Spells-leaves p (sub a f) z h = (leaves p f z, Spells-leaves p a (leaves p f z) (left_of _ _ h), Spells-leaves p f z (right_of _ _ h))
Spells-leaves p wrong z h = absurd (false≢true h)

-- What `is_sound` alone leaves open, by computation: a product said to be a truth value, and a whole object that is compared. So the law of
-- expressions asks for `has_values`.
use Rattle.std.specs.Prelude.{◌≡◌, refl, ℕ, [], ◌∷◌, true, false, None, pos}
use Rattle.osc_base.specs.declared.fault.Place.{Place}
use Rattle.osc_base.specs.declared.path.Path.{Path}
use Rattle.osc_base.specs.declared.listing.SlotName.{SlotName}
use Rattle.osc_base.specs.LowestTerms.{gcd, lcm}
use Rattle.osc_base.specs.Number.{whole, half}
use Rattle.osc_base.specs.Paths.{root}
use Rattle.box_eval.specs.FlatRules.{Whole as Fixed, holds_at}
use Rattle.composition.specs.expr_nodes.declared.compare.Compare.{Compare}
use Rattle.composition.specs.expr_nodes.Kinds.{ValueKind, plain}
use Rattle.composition.specs.expr_nodes.Typed.{Typed, Info, Constant, Whole, Times, Relation}
use Rattle.composition.specs.expr_nodes.Value.{is_one, worth, value}
use Rattle.composition.specs.expr_nodes.Sound.{is_sound}
use Rattle.composition.specs.Scenes.{OfValue}
use Rattle.field_flatten.specs.Shapes.{Layout, shape}
use Rattle.field_flatten.specs.Seen.{has_values}

abbrev place : Place
place = record { file = 0; line = 1; column = 1; token = 0 }

abbrev sized : ValueKind → ℕ → ℕ → Info
sized kind scale reach = record { place = place; kind = kind; scale = scale; reach = reach }

abbrev layout : Layout
layout = record { slot = λ (name : SlotName). 0; source = λ (path : Path). OfValue; end = Fixed (pos 0); tick = 100 }

-- a half of 2, said to be a truth value
abbrev product : Typed
product = Times (sized ValueKind.Truth 2 2) (Constant (sized plain 2 1) half) (Constant (sized plain 1 2) (whole (pos 2)))

product_is_sound : is_sound product ≡ true
unfolding gcd
product_is_sound = refl

product_is_one : is_one (worth (λ (path : Path). pos 0) product) ≡ true
product_is_one = refl

product_is_not_met : holds_at (pos 0 ∷ []) (shape layout product).rule ≡ false
product_is_not_met = refl

product_has_no_values : has_values product ≡ false
product_has_no_values = refl

-- a whole object that is said to be a truth value, compared with 0
abbrev compared : Typed
compared = Relation (sized ValueKind.Truth 1 1) Compare.Equal (Whole (sized ValueKind.Truth 1 1) root) (Constant (sized ValueKind.Truth 1 1) (whole (pos 0)))

compared_is_sound : is_sound compared ≡ true
unfolding gcd lcm
compared_is_sound = refl

compared_has_no_value : value (λ (path : Path). None) compared ≡ None
compared_has_no_value = refl

compared_is_met : holds_at (pos 0 ∷ []) (shape layout compared).rule ≡ true
unfolding lcm gcd
compared_is_met = refl

compared_has_no_values : has_values compared ≡ false
compared_has_no_values = refl

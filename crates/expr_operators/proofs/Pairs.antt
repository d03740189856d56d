-- What two parts make, if both are there.
use Rattle.std.proofs.Common.{◌≡◌, true, false, not, Option, Some, IfOk, Result}
use Rattle.expr_nodes.specs.units_si.ExponentTests.{are_exponents}
use Rattle.expr_nodes.specs.Typed.{Typed}
use Rattle.expr_nodes.specs.declared.node.Typed.{Typed as Node}
use Rattle.expr_nodes.specs.Sizes.{size, multiplied, is_wide}
use Rattle.expr_nodes.specs.Parts.{of_two, on_two}
use Rattle.expr_nodes.specs.Operators.{product_exponents, product_of}
use Rattle.expr_nodes.specs.Seen.{seen_part}
use Rattle.typed_parts.proofs.Results.{if_ok_more, not_false}

pub product_pair : {E : Type 0} (a b : Option Typed) (x y : Typed) (r : Result (Option Node) E) → a ≡ Some x → b ≡ Some y
    → IfOk r (λ t. are_exponents (product_exponents x y) ≡ true → is_wide (multiplied (size x) (size y)) ≡ false → seen_part t ≡ Some (product_of x y))
    → IfOk r (λ t. of_two a b (λ u v. not (are_exponents (product_exponents u v))) ≡ false → of_two a b (λ u v. is_wide (multiplied (size u) (size v))) ≡ false → seen_part t ≡ on_two a b product_of)
product_pair a b x y r first second h = rw (first, second) (if_ok_more r
    (λ t. are_exponents (product_exponents x y) ≡ true → is_wide (multiplied (size x) (size y)) ≡ false → seen_part t ≡ Some (product_of x y))
    (λ t. not (are_exponents (product_exponents x y)) ≡ false → is_wide (multiplied (size x) (size y)) ≡ false → seen_part t ≡ Some (product_of x y))
    (λ t made limits narrow. made (not_false (are_exponents (product_exponents x y)) limits) narrow) h)

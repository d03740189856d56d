-- Tests of exponents.
use Rattle.std.specs.Prelude.{ℤ, pos, negsuc, ◌&&◌, Bool, int_le}
use Rattle.osc_base.specs.Comparisons.{same_number}
use Rattle.units_si.specs.declared.units.Exponents.{Exponents}

-- all eight pass a test
abbrev pub all_eight : (ℤ → ℤ → Bool) → Exponents → Exponents → Bool
all_eight test x y =
    test x.kg y.kg && (test x.m y.m && (test x.s y.s && (test x.a y.a && (test x.k y.k && (test x.mol y.mol && (test x.cd y.cd && test x.rad y.rad))))))

-- two rows of exponents are equal
abbrev pub same_exponents : Exponents → Exponents → Bool
same_exponents x y = all_eight same_number x y

-- an exponent is from -100 to 100
abbrev pub is_exponent : ℤ → Bool
is_exponent x = int_le (negsuc 99) x && int_le x (pos 100)

-- all eight are within their limits
abbrev pub are_exponents : Exponents → Bool
are_exponents x = all_eight (λ e same. is_exponent e) x x

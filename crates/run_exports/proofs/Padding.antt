-- What `{:03}` and `{:06}` write.
use Rattle.std.proofs.Common.{◌≡◌, ◌∙◌, refl, sym, ap, arith, ℕ, ◌-◌, ◌/◌, ◌%◌, ◌^◌, false, List, [], ◌∷◌, ◌++◌, length, append-nil, append_assoc}
use Rattle.std.specs.Prelude.{replicate}
use Rattle.std.specs.Fmt.{decimal, styled_decimal, padded_integral, format_spec, char_count}
use Rattle.run_exports.specs.Decimals.{padded, fixed}

padded_three : (n : ℕ) → padded_integral (format_spec 32 0 4 3 (2 ^ 64 - 1)) false [] (decimal n) ≡ padded 3 n
unfolding padded_integral char_count
padded_three n =
    let none : 3 - length (decimal n) - 0 - 0 ≡ 3 - length (decimal n) = omega arith in
    λ i. replicate (none i) 48 ++ append-nil (decimal n) i

padded_six : (n : ℕ) → padded_integral (format_spec 32 0 4 6 (2 ^ 64 - 1)) false [] (decimal n) ≡ padded 6 n
unfolding padded_integral char_count
padded_six n =
    let none : 6 - length (decimal n) - 0 - 0 ≡ 6 - length (decimal n) = omega arith in
    λ i. replicate (none i) 48 ++ append-nil (decimal n) i

-- `{whole}.{part:03}` of a number of thousandths
pub fixed_three : (n : ℕ) → decimal (n / 1000) ++ 46 ∷ styled_decimal (format_spec 32 0 4 3 (2 ^ 64 - 1)) (n % 1000) ≡ fixed 3 n
unfolding fixed
fixed_three n =
    (λ i. decimal (n / 1000) ++ 46 ∷ padded_three (n % 1000) i)
    ∙ sym (append_assoc (decimal (n / 1000)) (46 ∷ []) (padded 3 (n % 1000)))

-- `{whole}.{part:06}` of a number of millionths
pub fixed_six : (n : ℕ) → decimal (n / 1000000) ++ 46 ∷ styled_decimal (format_spec 32 0 4 6 (2 ^ 64 - 1)) (n % 1000000) ≡ fixed 6 n
unfolding fixed
fixed_six n =
    (λ i. decimal (n / 1000000) ++ 46 ∷ padded_six (n % 1000000) i)
    ∙ sym (append_assoc (decimal (n / 1000000)) (46 ∷ []) (padded 6 (n % 1000000)))

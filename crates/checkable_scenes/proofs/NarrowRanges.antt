-- A range that a modifier may compare with is narrow.
use Rattle.std.proofs.Common.{◌≡◌, ℕ, ◌+◌, ◌*◌, ◌/◌, ◌<◌, ◌≤◌, sym, ap, ap₂, ◌∙◌, subst, Bool, true, false, ◌&&◌, not, arith}
use Rattle.std.specs.Prelude.{nat_lt}
use Rattle.std.proofs.Math.Nat.{mul_assoc, dvd_antisymm, dvd-mul_right, dvd_refl}
use Rattle.osc_base.specs.Comparisons.{greatest_part}
use Rattle.osc_base.specs.LowestTerms.{gcd, lcm}
use Rattle.expr_eval.specs.expr_nodes.Typed.{scale, reach}
use Rattle.expr_eval.specs.expr_nodes.Sizes.{Size, joined, is_wide}
use Rattle.expr_eval.specs.expr_nodes.Fits.{sample_size}
use Rattle.run_values.specs.modifier_rules.Relations.{position_scale}
use Rattle.run_values.specs.field_flatten.Exactness.{quantity_reach}
use Rattle.run_values.proofs.of_field_flatten.Tests.{both}
use Rattle.osc_base.proofs.Divisors.{gcd_is}
use Rattle.run_values.proofs.of_field_flatten.Multiples.{Common, common, share_of, lcm_swap}
use Rattle.scene_laws.proofs.FaultRows.{no_right, not_so}
use Rattle.scene_laws.proofs.LowestTerms.{below, within}

-- a multiple is the least common multiple
pub lcm_multiple : (a k : ℕ) → 0 < a → lcm a (a * k) ≡ a * k
unfolding lcm
lcm_multiple a k p =
    let g = gcd_is a (a * k) in
    let same : gcd a (a * k) ≡ a = dvd_antisymm g.0 (g.2 a (dvd_refl a) (dvd-mul_right a k)) in
    ap (λ n. a * ((a * k) / n)) same ∙ ap (λ n. a * n) (share_of a k p)

pub lcm_self : (a : ℕ) → 0 < a → lcm a a ≡ a
lcm_self a p = let one : a * 1 ≡ a = omega arith in ap (λ n. lcm a n) (sym one) ∙ lcm_multiple a 1 p ∙ one

-- the test of a range, over numbers
abbrev pub is_narrow_for : (ls hs lr hr : ℕ) → Bool
is_narrow_for ls hs lr hr =
    let own = lcm position_scale (lcm ls hs) in
    let common = lcm position_scale own in
    not (nat_lt greatest_part (quantity_reach * common))
    && (not (nat_lt greatest_part (lr * (own / ls) * (common / own)))
    && not (nat_lt greatest_part (hr * (own / hs) * (common / own))))

-- one end at the scale of both
abbrev pub end_size : ℕ → ℕ → ℕ → Size
end_size scale reach common = record { scale = common; reach = reach * (common / scale) }

not_more : (n : ℕ) → n ≤ greatest_part → not (nat_lt greatest_part n) ≡ true
not_more n h = not_so (nat_lt greatest_part n) (within greatest_part n h)

module _ (c : ℕ) (above : 0 < c) where
  -- the scale at which a quantity and an end are compared
  abbrev all : ℕ
  all = lcm position_scale c

  parts : Common position_scale c
  parts = common position_scale c (positive 0) above
    where
      positive : (n : ℕ) → 0 < position_scale
      positive n = omega arith

  again : lcm position_scale all ≡ all
  again = ap (λ n. lcm position_scale n) parts.left_is ∙ lcm_multiple position_scale parts.left (positive 0) ∙ sym parts.left_is
    where
      positive : (n : ℕ) → 0 < position_scale
      positive n = omega arith

  one_share : all / all ≡ 1
  one_share = by all parts.above
    where
      by : (n : ℕ) → 0 < n → n / n ≡ 1
      by n h = ap (λ m. m / n) (sym (times_one n)) ∙ share_of n 1 h
        where
          times_one : (n : ℕ) → n * 1 ≡ n
          times_one n = omega arith

  -- the reach of what is joined
  joined_reach : (z : ℕ) → is_wide (joined sample_size (record { scale = c; reach = z })) ≡ false → (sample_size.reach * (all / sample_size.scale) ≤ greatest_part) × (z * (all / c) ≤ greatest_part)
  joined_reach z h =
      let s = joined sample_size (record { scale = c; reach = z }) in
      let most = below greatest_part s.reach (no_right (nat_lt greatest_part s.scale) (nat_lt greatest_part s.reach) h) in
      (first (sample_size.reach * (all / sample_size.scale)) (z * (all / c)) most, second (sample_size.reach * (all / sample_size.scale)) (z * (all / c)) most)
    where
      first : (a b : ℕ) → a + b ≤ greatest_part → a ≤ greatest_part
      first a b h = omega (arith, h)

      second : (a b : ℕ) → a + b ≤ greatest_part → b ≤ greatest_part
      second a b h = omega (arith, h)

  quantity_narrow : sample_size.reach * (all / sample_size.scale) ≤ greatest_part → quantity_reach * lcm position_scale all ≤ greatest_part
  quantity_narrow h =
      let share : all / position_scale ≡ parts.left = ap (λ n. n / position_scale) parts.left_is ∙ share_of position_scale parts.left (positive 0) in
      let whole : quantity_reach * lcm position_scale all ≡ sample_size.reach * (all / sample_size.scale) = ap (λ n. quantity_reach * n) (again ∙ parts.left_is) ∙ scaled parts.left ∙ ap (λ n. sample_size.reach * n) (sym share) in
      subst (λ n. n ≤ greatest_part) (sym whole) h
    where
      positive : (n : ℕ) → 0 < position_scale
      positive n = omega arith

      scaled : (k : ℕ) → quantity_reach * (position_scale * k) ≡ sample_size.reach * k
      scaled k = omega arith

  end_narrow : (scale reach k : ℕ) → 0 < scale → c ≡ scale * k → reach * (c / scale) * (all / c) ≤ greatest_part → reach * (all / scale) * (lcm position_scale all / all) ≤ greatest_part
  end_narrow scale reach k p e h =
      let first : c / scale ≡ k = ap (λ n. n / scale) e ∙ share_of scale k p in
      let second : all / c ≡ parts.right = ap (λ n. n / c) parts.right_is ∙ share_of c parts.right above in
      let third : all / scale ≡ k * parts.right = ap (λ n. n / scale) (parts.right_is ∙ ap (λ n. n * parts.right) e ∙ mul_assoc scale k parts.right) ∙ share_of scale (k * parts.right) p in
      let last : lcm position_scale all / all ≡ 1 = ap (λ n. n / all) again ∙ one_share in
      let same : reach * (all / scale) * (lcm position_scale all / all) ≡ reach * (c / scale) * (all / c) =
      ap₂ (λ m n. reach * m * n) third last ∙ times_one (reach * (k * parts.right)) ∙ sym (mul_assoc reach k parts.right) ∙ ap₂ (λ m n. reach * m * n) (sym first) (sym second) in
      subst (λ n. n ≤ greatest_part) (sym same) h
    where
      times_one : (n : ℕ) → n * 1 ≡ n
      times_one n = omega arith

-- a range whose ends may be compared
pub range_narrow : (ls hs lr hr : ℕ) → 0 < ls → 0 < hs → is_wide (joined sample_size (end_size ls lr (lcm ls hs))) ≡ false → is_wide (joined sample_size (end_size hs hr (lcm ls hs))) ≡ false → is_narrow_for ls hs lr hr ≡ true
range_narrow ls hs lr hr p q h i =
    let c = common ls hs p q in
    let low = joined_reach (lcm ls hs) c.above (lr * (lcm ls hs / ls)) h in
    let high = joined_reach (lcm ls hs) c.above (hr * (lcm ls hs / hs)) i in
    both (not (nat_lt greatest_part (quantity_reach * lcm position_scale (lcm position_scale (lcm ls hs))))) _ (not_more (quantity_reach * lcm position_scale (lcm position_scale (lcm ls hs))) (quantity_narrow (lcm ls hs) c.above low.0))
    (both (not (nat_lt greatest_part (lr * (lcm position_scale (lcm ls hs) / ls) * (lcm position_scale (lcm position_scale (lcm ls hs)) / lcm position_scale (lcm ls hs))))) _
    (not_more (lr * (lcm position_scale (lcm ls hs) / ls) * (lcm position_scale (lcm position_scale (lcm ls hs)) / lcm position_scale (lcm ls hs))) (end_narrow (lcm ls hs) c.above ls lr c.left p c.left_is low.1))
    (not_more (hr * (lcm position_scale (lcm ls hs) / hs) * (lcm position_scale (lcm position_scale (lcm ls hs)) / lcm position_scale (lcm ls hs))) (end_narrow (lcm ls hs) c.above hs hr c.right q c.right_is high.1)))

-- a value that may be compared
pub value_narrow : (s r : ℕ) → 0 < s → is_wide (joined sample_size (record { scale = s; reach = r })) ≡ false → is_narrow_for s s r r ≡ true
value_narrow s r p h =
    let own = lcm_self s p in
    let share : s / s ≡ 1 = ap (λ m. m / s) (sym (times_one s)) ∙ share_of s 1 p in
    let same : end_size s r (lcm s s) ≡ record { scale = s; reach = r } = ap (λ n. end_size s r n) own ∙ ap (λ n. size_of s n) (ap (λ n. r * n) share ∙ times_one r) in
    range_narrow s s r r p p (subst (λ z. is_wide (joined sample_size z) ≡ false) (sym same) h) (subst (λ z. is_wide (joined sample_size z) ≡ false) (sym same) h)
  where
    times_one : (n : ℕ) → n * 1 ≡ n
    times_one n = omega arith

    size_of : ℕ → ℕ → Size
    size_of s r = record { scale = s; reach = r }

-- a modifier without a range
pub none_narrow : is_narrow_for 1 1 1 1 ≡ true
none_narrow = value_narrow 1 1 (omega arith) narrow
  where
    narrow : is_wide (joined sample_size (record { scale = 1; reach = 1 })) ≡ false
    narrow = ap (λ n. is_wide (record { scale = n; reach = sample_size.reach * (n / sample_size.scale) + 1 * (n / 1) })) (lcm_swap position_scale 1 (omega arith) (omega arith) ∙ lcm_multiple 1 position_scale (omega arith))

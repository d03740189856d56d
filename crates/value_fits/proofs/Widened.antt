-- Sizes at a common scale.
use Rattle.std.proofs.Common.{◌≡◌, ◌∙◌, refl, sym, ap, ap₂, subst, true≢false, ◌&&◌, ℕ, zero, suc, ◌+◌, ◌*◌, ◌/◌, ◌%◌, ◌<◌, ◌≤◌, ◌||◌, Bool, true, false, not, [], ◌∷◌, Option, Some, None, cond, is_none, nat_lt, option_map, arith, map}
use Rattle.std.specs.Prelude.{◌^◌}
use Rattle.std.specs.List.{list_any}
use Rattle.std.proofs.Math.Nat.{mul_comm}
use Rattle.std.proofs.lemmas.Bool.{ltb-false, ltb-true, lt-ltb}
use Rattle.osc_base.specs.Comparisons.{greatest_part}
use Rattle.osc_base.specs.LowestTerms.{gcd, lcm}
use Rattle.osc_base.specs.declared.fault.Place.{Place}
use Rattle.osc_base.specs.declared.fault.Fault.{Fault}
use Rattle.osc_base.specs.declared.fault.FaultCode.{FaultCode}
use Rattle.osc_base.specs.FaultRows.{row, row_fault, first_of, first_from}
use Rattle.osc_base.proofs.Divisors.{gcd_is, lcm_is, lcm_above}
use Rattle.osc_base.proofs.Multiples.{lowest_same}
use Rattle.expr_nodes.specs.Fits.{differs, end_sizes, fit_rows, is_kind}
use Rattle.expr_nodes.specs.Kinds.{ValueKind, are_alike}
use Rattle.expr_nodes.specs.Parts.{is_scalar}
use Rattle.expr_nodes.specs.Seen.{fitting, seen_size}
use Rattle.expr_nodes.specs.declared.size.Size.{Size as OwnSize}
use Rattle.expr_nodes.specs.Sizes.{Size, size, is_wide, joined, widened}
use Rattle.expr_nodes.specs.Typed.{Typed, kind}
use Rattle.value_fits.specs.SpanEnds.{any_end, ends_in, range_in}
use Rattle.value_fits.proofs.FitEnds.{any_is, range_is}

-- the multiple of two scales is one of the second
second_share : (a b : ℕ) → lcm a b ≡ b * (a / gcd a b)
second_share a b = let g = gcd_is a b in lcm_is a b ∙ sym (lowest_same a b (gcd a b) g.0 g.1) ∙ mul_comm (a / gcd a b) b

positive_part : (b k : ℕ) → 0 < b * k → 0 < k
positive_part b zero h = absurd (omega (arith, h))
positive_part b (suc k) h = omega arith

le_times : (b k : ℕ) → 0 < k → b ≤ b * k
le_times b zero h = absurd (omega arith)
le_times b (suc k) h = grind arith

share_of : (b k : ℕ) → 0 < b → (b * k) / b ≡ k
share_of b k p = grind arith

pub second_below : (a b : ℕ) → 0 < a → 0 < b → b ≤ lcm a b
second_below a b p q =
    let k = a / gcd a b in
    let is = second_share a b in
    rw is (le_times b k (positive_part b k (subst (λ n. 0 < n) is (lcm_above a b p q))))

second_times : (a b : ℕ) → 0 < a → 0 < b → 0 < lcm a b / b
second_times a b p q =
    let k = a / gcd a b in
    let is = second_share a b in
    let above : 0 < k = positive_part b k (subst (λ n. 0 < n) is (lcm_above a b p q)) in
    subst (λ n. 0 < n) (sym (ap (λ n. n / b) is ∙ share_of b k q)) above

-- what is too wide is so beside another
lt_if : (a b : ℕ) → nat_lt a b ≡ true → a < b
lt_if a b h = ltb-true a b h

if_lt : (a b : ℕ) → a < b → nat_lt a b ≡ true
if_lt a b h = lt-ltb a b h

either : (a b c d : Bool) → (a ≡ true → c ≡ true) → (b ≡ true → d ≡ true) → (a || b) ≡ true → (c || d) ≡ true
either true b c d f g h = ap (λ x. x || d) (f refl)
either false true true d f g h = refl
either false true false d f g h = g refl
either false false c d f g h = absurd (true≢false (sym h))

pub wide_beside : (s w : Size) → 0 < s.scale → 0 < w.scale → is_wide w ≡ true → is_wide (joined s w) ≡ true
wide_beside s w p q =
    let common = lcm s.scale w.scale in
    let below : w.scale ≤ common = second_below s.scale w.scale p q in
    let times : w.reach ≤ w.reach * (common / w.scale) = le_times w.reach (common / w.scale) (second_times s.scale w.scale p q) in
    either (nat_lt greatest_part w.scale) (nat_lt greatest_part w.reach) (nat_lt greatest_part common) (nat_lt greatest_part (s.reach * (common / s.scale) + w.reach * (common / w.scale)))
    (λ h. let less = lt_if greatest_part w.scale h in if_lt greatest_part common (omega (arith, less, below)))
    (λ h. let less = lt_if greatest_part w.reach h in if_lt greatest_part (s.reach * (common / s.scale) + w.reach * (common / w.scale)) (omega (arith, less, times)))

-- a size, if it isn't too wide
by_none : (b : Bool) (s : Size) → None ≡ cond b None (Some s) → b ≡ true
by_none true s h = refl
by_none false s h = absurd (cc)

pub none_wide : (s : Size) → None ≡ fitting s → is_wide s ≡ true
none_wide s h = by_none (is_wide s) s h

by_some : (b : Bool) (s w : Size) → Some s ≡ cond b None (Some w) → s ≡ w
by_some true s w h = absurd (cc)
by_some false s w h = cc

pub some_is : (s w : Size) → Some s ≡ fitting w → s ≡ w
some_is s w h = by_some (is_wide w) s w h

by_test : (b : Bool) (s : Size) → is_none (cond b None (Some s)) ≡ b
by_test true s = refl
by_test false s = refl

pub none_fits : (s : Size) → is_none (fitting s) ≡ is_wide s
none_fits s = by_test (is_wide s) s

-- a scale that doesn't fit is too wide
pub wide_scale : (s w : Size) → 0 < s.scale → 0 < w.scale → 2 ^ 128 ≤ w.scale → is_wide (joined s w) ≡ true
wide_scale s w p q many =
    let less : greatest_part < w.scale = omega (arith, many) in
    wide_beside s w p q (ap (λ b. b || nat_lt greatest_part w.reach) (if_lt greatest_part w.scale less))

-- the rows of a value or range that is known
pub known_rows : (first clash other last : Option Fault) (ranges is apart wide : Bool) (k : ValueKind) (s : Size) (p : Place) (t : Typed) →
    is ≡ (is_scalar t && are_alike k (kind t) || (ranges && range_in k (ends_in t))) → clash ≡ first_of first (row_fault (row p FaultCode.Clash (not is))) →
    apart ≡ any_end (differs k) t (ends_in t) → other ≡ first_of clash (row_fault (row p FaultCode.UnitClash apart)) →
    wide ≡ list_any (λ z. is_wide (joined s z)) (end_sizes t) → last ≡ first_of other (row_fault (row p FaultCode.Wide wide)) →
    last ≡ first_from first (fit_rows ranges k s end_sizes p (Some t))
known_rows first clash other last ranges is apart wide k s p t one a two b three c =
    let rows : Bool → Bool → Bool → Option Fault = λ x y z. first_from first (row p FaultCode.Clash (not x) ∷ row p FaultCode.UnitClash y ∷ row p FaultCode.Wide z ∷ []) in
    c ∙ ap (λ f. first_of f (row_fault (row p FaultCode.Wide wide))) (b ∙ ap (λ f. first_of f (row_fault (row p FaultCode.UnitClash apart))) a)
    ∙ ap (λ x. rows x apart wide) (one ∙ ap (λ r. is_scalar t && are_alike k (kind t) || (ranges && r)) (range_is k t))
    ∙ ap₂ (rows (is_kind ranges k t)) (two ∙ any_is (differs k) t) three

-- beside an end at a scale, if that is there
none_seen : (o : Option OwnSize) → is_none o ≡ is_none (option_map seen_size o)
none_seen None = refl
none_seen (Some s) = refl

pub wide_some : (s w : Size) (at found : Option OwnSize) (e : OwnSize) → at ≡ Some e → option_map seen_size at ≡ fitting w →
    option_map seen_size found ≡ fitting (joined s (seen_size e)) → is_none found ≡ is_wide (joined s w)
wide_some s w at found e is fits both =
    none_seen found ∙ ap is_none both ∙ none_fits (joined s (seen_size e)) ∙ ap (λ x. is_wide (joined s x)) (some_is (seen_size e) w (sym (ap (option_map seen_size) is) ∙ fits))

pub wide_none : (s w : Size) (at : Option OwnSize) → 0 < s.scale → 0 < w.scale → at ≡ None → option_map seen_size at ≡ fitting w → true ≡ is_wide (joined s w)
wide_none s w at p q is fits = sym (wide_beside s w p q (none_wide w (sym (ap (option_map seen_size) is) ∙ fits)))

-- the scale of both ends, if it fits
common_by : (b : Bool) (n x : ℕ) → Some x ≡ cond b (Some n) None → x ≡ n
common_by true n x h = cc
common_by false n x h = absurd (cc)

pub common_is : (n x : ℕ) (o : Option ℕ) → o ≡ Some x → o ≡ cond (nat_lt n (2 ^ 128)) (Some n) None → x ≡ n
common_is n x o is h = common_by (nat_lt n (2 ^ 128)) n x (sym is ∙ h)

wide_by : (b : Bool) (n : ℕ) → nat_lt n (2 ^ 128) ≡ b → None ≡ cond b (Some n) None → 2 ^ 128 ≤ n
wide_by true n is h = absurd (cc)
wide_by false n is h = ltb-false n (2 ^ 128) is

pub common_isnt : (n : ℕ) (o : Option ℕ) → o ≡ None → o ≡ cond (nat_lt n (2 ^ 128)) (Some n) None → 2 ^ 128 ≤ n
common_isnt n o is h = wide_by (nat_lt n (2 ^ 128)) n refl (sym is ∙ h)

pub wide_ends : (s low high : Size) (o : Option ℕ) → 0 < s.scale → 0 < low.scale → 0 < high.scale → o ≡ None → o ≡ cond (nat_lt (lcm low.scale high.scale) (2 ^ 128)) (Some (lcm low.scale high.scale)) None →
    true ≡ (is_wide (joined s (widened (lcm low.scale high.scale) low)) || is_wide (joined s (widened (lcm low.scale high.scale) high)))
wide_ends s low high o p q r is h =
    let w = widened (lcm low.scale high.scale) low in
    sym (ap (λ b. b || is_wide (joined s (widened (lcm low.scale high.scale) high))) (wide_scale s w p (lcm_above low.scale high.scale q r) (common_isnt (lcm low.scale high.scale) o is h)))

pub common_above : (a b x : ℕ) (o : Option ℕ) → 0 < a → 0 < b → o ≡ Some x → o ≡ cond (nat_lt (lcm a b) (2 ^ 128)) (Some (lcm a b)) None → 0 < x
common_above a b x o p q is h = subst (λ n. 0 < n) (sym (common_is (lcm a b) x o is h)) (lcm_above a b p q)

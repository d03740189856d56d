-- The steps of the loops over picks.
use Rattle.std.proofs.Common.{◌≡◌, refl, sym, ap, ap₂, ◌∙◌, subst, ℕ, ◌+◌, ◌*◌, ◌≤◌, ◌<◌, ◌^◌, true, List, [], ◌∷◌, length, drop, slice_get, Option, Some, None, ℤ, pos, ◌+ℤ◌, ◌*ℤ◌, to_z, of_z, arith}
use Rattle.std.specs.Prelude.{unsigned_abs}
use Rattle.std.specs.Int.{w128}
use Rattle.std.specs.Option.{option_map_or}
use Rattle.std.proofs.lemmas.Int.{ints}
use Rattle.std.proofs.Math.Nat.{mul-le-mul_left}
use Rattle.box_eval.specs.declared.rule.Rule.{Rule}
use Rattle.box_eval.specs.declared.bounds.Pair.{Pair}
use Rattle.box_eval.specs.declared.flat.Flat.{Flat}
use Rattle.box_eval.specs.Box.{value_of}
use Rattle.linear_sums.specs.declared.pick.Pick.{Pick}
use Rattle.linear_sums.specs.Linear.{RuleForm, no_form, linear_form, form_at, weight_at, sum_form, sum_weight, rule_weight, form_of_rule}
use Rattle.linear_sums.specs.Steps.{HasRoom, IsAdded, IsTaken, size_in}
use Rattle.linear_sums.specs.Sums.{AllThere, weight_with, weight_from}
use Rattle.linear_sums.proofs.Products.{one_times, product_within, spread_left}
use Rattle.std.proofs.Math.IntN.{*ℤ-zero}
use Rattle.linear_sums.proofs.Taking.{taken_both}
use Rattle.linear_sums.proofs.Weights.{rule_factor_within, rule_constant_within}
use Rattle.linear_sums.proofs.Found.{IsFound}
use Rattle.linear_sums.proofs.Empty.{and_first, and_second}

-- ---- one pick

pub taken_form : (ends : List Pair) (old new : List ℤ) (form read : RuleForm) (least : ℤ) → form ≡ read → IsTaken ends old new read.factor least → IsTaken ends old new form.factor least
taken_form ends old new form read least e taken = subst (λ (f : RuleForm). IsTaken ends old new f.factor least) (sym e) taken

pub added_form : (old new : List ℤ) (times : ℤ) (k : ℕ) (form read : RuleForm) → times ≡ pos k → form ≡ read → IsAdded old new times read.factor → IsAdded old new (pos k) form.factor
added_form old new times k form read e f added = subst (λ (t : ℤ). IsAdded old new t form.factor) e (subst (λ (m : RuleForm). IsAdded old new times m.factor) (sym f) added)

pub room_pick : (old : List ℤ) (k : ℕ) (times : ℤ) (weight least whole : ℕ) → times ≡ pos k → whole ≡ weight → least ≤ weight → HasRoom old (k * whole) → HasRoom old (unsigned_abs times * least)
room_pick old k times weight least whole e f h room = λ slot.
    let p : unsigned_abs times * least ≡ k * least = ap (λ (t : ℤ). unsigned_abs t * least) e in
    let q : k * whole ≡ k * weight = ap (λ (m : ℕ). k * m) f in
    omega (arith, room slot, p, q, mul-le-mul_left k h)

-- ---- the loop that gathers

-- what is left to gather, and that with it the whole is gathered
pub record Gathers (flat : Flat) (first now : List ℤ) (picks rest : List Pick) : Type 0 where
  pub long : length now ≡ length flat.bounds.pairs
  pub room : HasRoom now (sum_weight flat.bounds.pairs flat.rules rest)
  pub linear : (sum_form flat.bounds.pairs flat.rules rest).linear ≡ true
  pub there : AllThere flat.rules rest
  pub goes : (new : List ℤ) → IsAdded now new (pos 1) (sum_form flat.bounds.pairs flat.rules rest).factor → IsAdded first new (pos 1) (sum_form flat.bounds.pairs flat.rules picks).factor

joined_at : (o m n k f g : ℤ) → m ≡ o +ℤ k *ℤ f → n ≡ m +ℤ pos 1 *ℤ g → n ≡ o +ℤ pos 1 *ℤ (k *ℤ f +ℤ g)
joined_at o m n k f g e h =
    let p : pos 1 *ℤ g ≡ g = one_times g in
    let q : pos 1 *ℤ (k *ℤ f +ℤ g) ≡ k *ℤ f +ℤ g = one_times (k *ℤ f +ℤ g) in
    omega (arith, ints, e, h, p, q)

added_both : (old mid new : List ℤ) (k : ℤ) (f g : ℕ → ℤ) → IsAdded old mid k f → IsAdded mid new (pos 1) g → IsAdded old new (pos 1) (λ slot. k *ℤ f slot +ℤ g slot)
added_both old mid new k f g one other = record {
  as_long = other.as_long ∙ one.as_long;
  at = λ slot. joined_at (value_of old slot) (value_of mid slot) (value_of new slot) k (f slot) (g slot) (one.at slot) (other.at slot);
}

room_step : (o m f : ℤ) (k w v : ℕ) → m ≡ o +ℤ pos k *ℤ f → unsigned_abs f ≤ w → unsigned_abs o + (k * w + v) ≤ 2 ^ 121 → unsigned_abs m + v ≤ 2 ^ 121
room_step o m f k w v e small room =
    let p = product_within (pos k) f k w (omega arith) small in
    let s : unsigned_abs m ≤ unsigned_abs o + unsigned_abs (pos k *ℤ f) = omega (arith, ints, e) in
    omega (arith, p, s, room)

form_small : (ends : List Pair) (o : Option Rule) (slot : ℕ) → unsigned_abs ((option_map_or (linear_form ends) o no_form).factor slot) ≤ option_map_or (rule_weight ends) o 1
form_small ends None slot = omega (arith, ints)
form_small ends (Some rule) slot = rule_factor_within ends rule slot

added_none : (old : List ℤ) (factor : ℕ → ℤ) → ((slot : ℕ) → factor slot ≡ pos 0) → IsAdded old old (pos 1) factor
added_none old factor none = record {
  as_long = refl;
  at = λ slot. same_at (value_of old slot) (factor slot) (none slot);
} where
  same_at : (o f : ℤ) → f ≡ pos 0 → o ≡ o +ℤ pos 1 *ℤ f
  same_at o f e = omega (arith, ints, one_times f)

module _ (flat : Flat) (first : List ℤ) (picks : List Pick) where
  pub gather_start : length first ≡ length flat.bounds.pairs → HasRoom first (sum_weight flat.bounds.pairs flat.rules picks) → (sum_form flat.bounds.pairs flat.rules picks).linear ≡ true → AllThere flat.rules picks
      → Gathers flat first first picks picks
  gather_start long room linear there = record { long = long; room = room; linear = linear; there = there; goes = λ new added. added }

  next_gathers : (now next : List ℤ) (p : Pick) (rest : List Pick) → Gathers flat first now picks (p ∷ rest) → IsAdded now next (pos p.times) (form_at flat.bounds.pairs flat.rules p.rule).factor → Gathers flat first next picks rest
  next_gathers now next p rest g added = record {
    long = added.as_long ∙ g.long;
    room = λ slot. room_step (value_of now slot) (value_of next slot) ((form_at flat.bounds.pairs flat.rules p.rule).factor slot) p.times
        (weight_at flat.bounds.pairs flat.rules p.rule) (sum_weight flat.bounds.pairs flat.rules rest) (added.at slot)
        (form_small flat.bounds.pairs (slice_get flat.rules p.rule) slot) (g.room slot);
    linear = and_second (form_at flat.bounds.pairs flat.rules p.rule).linear (sum_form flat.bounds.pairs flat.rules rest).linear g.linear;
    there = g.there.1;
    goes = λ new more. g.goes new (added_both now next new (pos p.times) (form_at flat.bounds.pairs flat.rules p.rule).factor (sum_form flat.bounds.pairs flat.rules rest).factor added more);
  }

  pub gather_end : (now : List ℤ) (rest : List Pick) → rest ≡ [] → Gathers flat first now picks rest → IsAdded first now (pos 1) (sum_form flat.bounds.pairs flat.rules picks).factor
  gather_end now rest e g = (subst (Gathers flat first now picks) e g).goes now (added_none now (λ slot. pos 0) (λ slot. refl))

  pub gather_next : (now next : List ℤ) (i : ℕ) (p : Pick) → drop i picks ≡ p ∷ drop (i + 1) picks → Gathers flat first now picks (drop i picks)
      → IsAdded now next (pos p.times) (form_at flat.bounds.pairs flat.rules p.rule).factor → Gathers flat first next picks (drop (i + 1) picks)
  gather_next now next i p e g added = next_gathers now next p (drop (i + 1) picks) (subst (Gathers flat first now picks) e g) added

  -- what the next pick asks
  pub gather_asks : (now : List ℤ) (i : ℕ) (p : Pick) → drop i picks ≡ p ∷ drop (i + 1) picks → Gathers flat first now picks (drop i picks)
      → (p.rule < length flat.rules) × ((form_at flat.bounds.pairs flat.rules p.rule).linear ≡ true) × HasRoom now (p.times * weight_at flat.bounds.pairs flat.rules p.rule)
  gather_asks now i p e g =
      let h = subst (Gathers flat first now picks) e g in
      (h.there.0, and_first (form_at flat.bounds.pairs flat.rules p.rule).linear (sum_form flat.bounds.pairs flat.rules (drop (i + 1) picks)).linear h.linear, λ slot. omega (arith, h.room slot))

-- ---- the loop that weighs

pub record Weighs (flat : Flat) (total : ℕ) (picks rest : List Pick) : Type 0 where
  pub there : AllThere flat.rules rest
  pub same : weight_from flat total rest ≡ weight_from flat 0 picks

module _ (flat : Flat) (picks : List Pick) where
  pub weigh_next : (total more : ℕ) (i : ℕ) (p : Pick) → drop i picks ≡ p ∷ drop (i + 1) picks → Weighs flat total picks (drop i picks)
      → weight_with flat total p ≡ Some more → Weighs flat more picks (drop (i + 1) picks)
  weigh_next total more i p e w f =
      let h = subst (Weighs flat total picks) e w in
      record { there = h.there.1; same = sym (ap (λ (o : Option ℕ). option_map_or (λ m. weight_from flat m (drop (i + 1) picks)) o None) f) ∙ h.same }

  pub weigh_stop : (total : ℕ) (i : ℕ) (p : Pick) → drop i picks ≡ p ∷ drop (i + 1) picks → Weighs flat total picks (drop i picks)
      → weight_with flat total p ≡ None → None ≡ weight_from flat 0 picks
  weigh_stop total i p e w f =
      let h = subst (Weighs flat total picks) e w in
      sym (ap (λ (o : Option ℕ). option_map_or (λ m. weight_from flat m (drop (i + 1) picks)) o None) f) ∙ h.same

  pub weigh_asks : (total : ℕ) (i : ℕ) (p : Pick) → drop i picks ≡ p ∷ drop (i + 1) picks → Weighs flat total picks (drop i picks) → p.rule < length flat.rules
  weigh_asks total i p e w = (subst (Weighs flat total picks) e w).there.0

  pub weigh_end : (total : ℕ) (rest : List Pick) → rest ≡ [] → Weighs flat total picks rest → Some total ≡ weight_from flat 0 picks
  weigh_end total rest e w = (subst (Weighs flat total picks) e w).same

-- ---- the loop that adds constants

pub record Adds (flat : Flat) (total : ℤ) (picks rest : List Pick) : Type 0 where
  pub linear : (sum_form flat.bounds.pairs flat.rules rest).linear ≡ true
  pub there : AllThere flat.rules rest
  pub room : unsigned_abs total + 2 * sum_weight flat.bounds.pairs flat.rules rest ≤ 2 ^ 121
  pub same : total +ℤ ((sum_form flat.bounds.pairs flat.rules rest).constant +ℤ (sum_form flat.bounds.pairs flat.rules rest).gap)
      ≡ (sum_form flat.bounds.pairs flat.rules picks).constant +ℤ (sum_form flat.bounds.pairs flat.rules picks).gap

sum_step : (total value next k c g d h whole : ℤ) → next ≡ total +ℤ value → value ≡ k *ℤ (c +ℤ g) → total +ℤ ((k *ℤ c +ℤ d) +ℤ (k *ℤ g +ℤ h)) ≡ whole → next +ℤ (d +ℤ h) ≡ whole
sum_step total value next k c g d h whole e f same = omega (arith, ints, e, f, same, spread_left k c g)

sum_room : (total value next : ℤ) (w v : ℕ) → next ≡ total +ℤ value → unsigned_abs value ≤ 2 * w → unsigned_abs total + 2 * (w + v) ≤ 2 ^ 121 → unsigned_abs next + 2 * v ≤ 2 ^ 121
sum_room total value next w v e small room = omega (arith, ints, e, small, room)

pub wrapped_add : (a b : ℤ) → unsigned_abs a + unsigned_abs b ≤ 2 ^ 121 → to_z w128 (of_z w128 (a +ℤ to_z w128 (of_z w128 b))) ≡ a +ℤ b
wrapped_add a b h = omega (arith, ints)

module _ (flat : Flat) (picks : List Pick) where
  pub add_start : (sum_form flat.bounds.pairs flat.rules picks).linear ≡ true → AllThere flat.rules picks → sum_weight flat.bounds.pairs flat.rules picks ≤ 2 ^ 120 → Adds flat (pos 0) picks picks
  add_start linear there small = record { linear = linear; there = there; room = omega (arith, ints, small); same = omega (arith, ints) }

  pub add_room : (total value : ℤ) (i : ℕ) (p : Pick) → drop i picks ≡ p ∷ drop (i + 1) picks → Adds flat total picks (drop i picks)
      → unsigned_abs value ≤ 2 * (p.times * weight_at flat.bounds.pairs flat.rules p.rule) → unsigned_abs total + unsigned_abs value ≤ 2 ^ 121
  add_room total value i p e a small = omega (arith, small, (subst (Adds flat total picks) e a).room)

  pub add_next : (total value next : ℤ) (i : ℕ) (p : Pick) → drop i picks ≡ p ∷ drop (i + 1) picks → Adds flat total picks (drop i picks)
      → value ≡ pos p.times *ℤ ((form_at flat.bounds.pairs flat.rules p.rule).constant +ℤ (form_at flat.bounds.pairs flat.rules p.rule).gap)
      → unsigned_abs value ≤ 2 * (p.times * weight_at flat.bounds.pairs flat.rules p.rule) → next ≡ total +ℤ value → Adds flat next picks (drop (i + 1) picks)
  add_next total value next i p e a f small g =
      let h = subst (Adds flat total picks) e a in
      let rest = sum_form flat.bounds.pairs flat.rules (drop (i + 1) picks) in
      let form = form_at flat.bounds.pairs flat.rules p.rule in
      record {
        linear = and_second form.linear rest.linear h.linear;
        there = h.there.1;
        room = sum_room total value next (p.times * weight_at flat.bounds.pairs flat.rules p.rule) (sum_weight flat.bounds.pairs flat.rules (drop (i + 1) picks)) g small h.room;
        same = sum_step total value next (pos p.times) form.constant form.gap rest.constant rest.gap _ g f h.same;
      }

  pub add_asks : (total : ℤ) (i : ℕ) (p : Pick) → drop i picks ≡ p ∷ drop (i + 1) picks → Adds flat total picks (drop i picks)
      → (p.rule < length flat.rules) × ((form_at flat.bounds.pairs flat.rules p.rule).linear ≡ true) × (p.times * weight_at flat.bounds.pairs flat.rules p.rule ≤ 2 ^ 120)
  add_asks total i p e a =
      let h = subst (Adds flat total picks) e a in
      (h.there.0, and_first (form_at flat.bounds.pairs flat.rules p.rule).linear (sum_form flat.bounds.pairs flat.rules (drop (i + 1) picks)).linear h.linear, omega (arith, h.room))

  pub add_end : (total : ℤ) (rest : List Pick) → rest ≡ [] → Adds flat total picks rest
      → total ≡ (sum_form flat.bounds.pairs flat.rules picks).constant +ℤ (sum_form flat.bounds.pairs flat.rules picks).gap
  add_end total rest e a = omega (arith, ints, (subst (Adds flat total picks) e a).same)

-- ---- the loop that takes

pub record Takes (flat : Flat) (ends : List Pair) (first now : List ℤ) (total : ℤ) (picks rest : List Pick) : Type 0 where
  pub there : AllThere flat.rules rest
  pub long : length now ≡ length ends
  pub small : unsigned_abs total + size_in (value_of now) ends ≤ 2 ^ 120
  pub goes : (new : List ℤ) (least whole : ℤ) → whole ≡ total +ℤ least → IsTaken ends now new (sum_form flat.bounds.pairs flat.rules rest).factor least
      → IsTaken ends first new (sum_form flat.bounds.pairs flat.rules picks).factor whole

none_joined : (k f g : ℤ) → f ≡ pos 0 → g ≡ pos 0 → k *ℤ f +ℤ g ≡ pos 0
none_joined k f g e h = ap₂ (λ (m n : ℤ). k *ℤ m +ℤ n) e h ∙ omega (arith, ints, *ℤ-zero k)

taken_none : (ends : List Pair) (old : List ℤ) (factor : ℕ → ℤ) → ((slot : ℕ) → factor slot ≡ pos 0) → IsTaken ends old old factor (pos 0)
taken_none ends old factor none = record {
  as_long = refl;
  taken = omega (arith, ints);
  smaller = omega (arith, ints);
  cleared = λ slot some. absurd (some (none slot));
  stays = λ slot e. e;
}

module _ (flat : Flat) (ends : List Pair) (first : List ℤ) (picks : List Pick) where
  pub take_start : AllThere flat.rules picks → length first ≡ length ends → size_in (value_of first) ends ≤ 2 ^ 120 → Takes flat ends first first (pos 0) picks picks
  take_start there long small = record {
    there = there;
    long = long;
    small = omega (arith, ints, small);
    goes = λ new least whole e taken. subst (λ (n : ℤ). IsTaken ends first new (sum_form flat.bounds.pairs flat.rules picks).factor n) (omega (arith, ints, e)) taken;
  }

  pub take_next : (now next : List ℤ) (total least more : ℤ) (i : ℕ) (p : Pick) → drop i picks ≡ p ∷ drop (i + 1) picks → Takes flat ends first now total picks (drop i picks)
      → IsTaken ends now next (form_at flat.bounds.pairs flat.rules p.rule).factor least → more ≡ total +ℤ least → Takes flat ends first next more picks (drop (i + 1) picks)
  take_next now next total least more i p e t taken is =
      let h = subst (Takes flat ends first now total picks) e t in
      record {
        there = h.there.1;
        long = taken.as_long ∙ h.long;
        small = omega (arith, ints, is, h.small, taken.smaller);
        goes = λ new other whole f rest. h.goes new (least +ℤ other) whole (omega (arith, ints, f, is))
            (taken_both ends now next new (form_at flat.bounds.pairs flat.rules p.rule).factor (sum_form flat.bounds.pairs flat.rules (drop (i + 1) picks)).factor _ least other _ taken rest
            (λ slot m n. none_joined (pos p.times) _ _ m n) refl);
      }

  pub take_room : (now next : List ℤ) (total least : ℤ) (rest : List Pick) (factor : ℕ → ℤ) → Takes flat ends first now total picks rest → IsTaken ends now next factor least
      → unsigned_abs total + unsigned_abs least ≤ 2 ^ 121
  take_room now next total least rest factor t taken = omega (arith, t.small, taken.smaller)

  pub take_asks : (now : List ℤ) (total : ℤ) (i : ℕ) (p : Pick) → drop i picks ≡ p ∷ drop (i + 1) picks → Takes flat ends first now total picks (drop i picks) → p.rule < length flat.rules
  take_asks now total i p e t = (subst (Takes flat ends first now total picks) e t).there.0

  pub take_end : (now : List ℤ) (total : ℤ) (rest : List Pick) → rest ≡ [] → Takes flat ends first now total picks rest → IsTaken ends first now (sum_form flat.bounds.pairs flat.rules picks).factor total
  take_end now total rest e t = (subst (Takes flat ends first now total picks) e t).goes now (pos 0) total (omega (arith, ints)) (taken_none ends now (λ slot. pos 0) (λ slot. refl))

-- ---- the constant of one pick

scaled_small : (k w v : ℕ) (n : ℤ) → unsigned_abs n ≤ 2 * w → v ≡ w → unsigned_abs (pos k *ℤ n) ≤ 2 * (k * v)
scaled_small k w v n h e =
    let p = product_within (pos k) n k (2 * w) (omega arith) h in
    let q : k * (2 * w) ≡ 2 * (k * v) = ap (λ (m : ℕ). k * (2 * m)) (sym e) ∙ omega arith in
    omega (arith, p, q)

pub constant_small : (flat : Flat) (number k : ℕ) (rule : Rule) (n : ℤ) → IsFound flat number rule → n ≡ (form_of_rule rule).constant +ℤ (form_of_rule rule).gap
    → unsigned_abs (pos k *ℤ n) ≤ 2 * (k * weight_at flat.bounds.pairs flat.rules number)
constant_small flat number k rule n found e =
    let h : unsigned_abs n ≤ 2 * rule_weight flat.bounds.pairs rule = omega (arith, ints, e, rule_constant_within flat.bounds.pairs rule) in
    scaled_small k (rule_weight flat.bounds.pairs rule) (weight_at flat.bounds.pairs flat.rules number) n h found.weight

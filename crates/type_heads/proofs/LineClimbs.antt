-- Going along the types that a type inherits from, by a table whose entries fit.
use Rattle.std.proofs.Common.{◌≡◌, ◌∙◌, refl, sym, ap, ℕ, zero, suc, ◌+◌, ◌<◌, ◌≤◌, ◌&&◌, ◌||◌, Bool, true, false, not, List, [], ◌∷◌, Option, Some, None, length, nat_eq, arith, true≢false}
use Rattle.std.specs.Prelude.{nat_lt}
use Rattle.std.specs.Option.{option_map_or}
use Rattle.std.specs.List.{list_all}
use Rattle.std.proofs.lemmas.Bool.Decides.{nat_tests}
use Rattle.std.proofs.lemmas.List.{get_or_past}
use Rattle.type_heads.specs.Table.{TypeHead, all_types, base, bases, int_head, line_within, numbers_from}
use Rattle.type_heads.specs.Members.{has}
use Rattle.type_heads.specs.Ancestors.{depth, depth_from, entry, entries_fit, entry_fits, is_depth, is_jump, jump, line_from}
use Rattle.type_heads.specs.declared.ancestors.LineEntry.{LineEntry}
use Rattle.type_heads.proofs.LineSteps.{line_none}

left_of : (a b : Bool) → (a && b) ≡ true → a ≡ true
left_of true b h = refl
left_of false b h = h

right_of : (a b : Bool) → (a && b) ≡ true → b ≡ true
right_of true b h = h
right_of false b h = absurd (true≢false (sym h))

or_false : (a b : Bool) → b ≡ false → (a || b) ≡ a
or_false true b h = refl
or_false false b h = h

same_number : (a b : ℕ) → nat_eq a b ≡ true → a ≡ b
same_number a b e = grind (arith, nat_tests)

-- what a test says of all numbers it says of each
at_number : {X : Type 0} (test : ℕ → Bool) (n : ℕ) (xs : List X) (k t : ℕ) → list_all test (numbers_from n xs) ≡ true → k < length xs → t ≡ n + k → test t ≡ true
at_number test n [] k t h less is = absurd (omega (arith, less))
at_number test n (x ∷ xs) zero t h less is =
    let e : t ≡ n = omega (arith, is) in
    ap test e ∙ left_of (test n) (list_all test (numbers_from (n + 1) xs)) h
at_number test n (x ∷ xs) (suc k) t h less is =
    let l : k < length xs = omega (arith, less) in
    let e : t ≡ n + 1 + k = omega (arith, is) in
    at_number test (n + 1) xs k t (right_of (test n) (list_all test (numbers_from (n + 1) xs)) h) l e

-- a step along the line of t comes nearer to its end, and not past b
abbrev pub Farther : List TypeHead → (ℕ → ℕ) → ℕ → ℕ → ℕ → Type 0
Farther heads D b t j = (D j < D t) × (has b (line_within (D t) heads (Some t)) ≡ has b (line_within (D j) heads (Some j)))

-- By depths and jumps

module _ (heads : List TypeHead) (D J : ℕ → ℕ) (deep : (t : ℕ) → D t ≡ suc (option_map_or D (base heads t) 0)) (jumps : (t : ℕ) → is_jump J t (base heads t) ≡ true) where
  abbrev line : ℕ → List ℕ
  line t = line_within (D t) heads (Some t)

  line_is : (t : ℕ) → line t ≡ t ∷ line_within (option_map_or D (base heads t) 0) heads (base heads t)
  line_is t = ap (λ n. line_within n heads (Some t)) (deep t)

  -- no more steps are needed
  enough : (m : ℕ) (o : Option ℕ) → option_map_or D o 0 ≤ m → line_within m heads o ≡ line_within (option_map_or D o 0) heads o
  enough m None h = line_none m heads
  enough zero (Some t) h = absurd (omega (arith, h, deep t))
  enough (suc m) (Some t) h =
      let l : option_map_or D (base heads t) 0 ≤ m = omega (arith, h, deep t) in
      ap (λ xs. t ∷ xs) (enough m (base heads t) l) ∙ sym (line_is t)

  apart : (b t : ℕ) → D t < D b → nat_eq b t ≡ false
  apart b t less = by (nat_eq b t) refl
    where
      by : (x : Bool) → nat_eq b t ≡ x → x ≡ false
      by true e = let same : D b ≡ D t = ap D (same_number b t e) in absurd (omega (arith, less, same))
      by false e = refl

  apart_above : (b t : ℕ) → D b < D t → nat_eq b t ≡ false
  apart_above b t less = by (nat_eq b t) refl
    where
      by : (x : Bool) → nat_eq b t ≡ x → x ≡ false
      by true e = let same : D b ≡ D t = ap D (same_number b t e) in absurd (omega (arith, less, same))
      by false e = refl

  -- a type is not among those from which on there are fewer
  past : (b m : ℕ) (o : Option ℕ) → option_map_or D o 0 < D b → has b (line_within m heads o) ≡ false
  past b zero o h = refl
  past b (suc m) None h = refl
  past b (suc m) (Some t) h =
      let l : option_map_or D (base heads t) 0 < D b = omega (arith, h, deep t) in
      or_false (nat_eq b t) (has b (line_within m heads (base heads t))) (past b m (base heads t) l) ∙ apart b t h

  line_end : (b t : ℕ) → D t ≤ D b → has b (line t) ≡ nat_eq b t
  line_end b t h =
      let l : option_map_or D (base heads t) 0 < D b = omega (arith, h, deep t) in
      ap (has b) (line_is t)
      ∙ or_false (nat_eq b t) (has b (line_within (option_map_or D (base heads t) 0) heads (base heads t))) (past b (option_map_or D (base heads t) 0) (base heads t) l)

  line_up : (b t s : ℕ) → base heads t ≡ Some s → D b < D t → has b (line t) ≡ has b (line s)
  line_up b t s is h =
      ap (has b) (line_is t)
      ∙ ap (λ x. x || has b (line_within (option_map_or D (base heads t) 0) heads (base heads t))) (apart_above b t h)
      ∙ ap (λ o. has b (line_within (option_map_or D o 0) heads o)) is

  -- from t on one comes to j, and passes only types from which on there are more
  abbrev Leads : ℕ → ℕ → Type 0
  Leads t j = (D j ≤ D t) × ((b : ℕ) → D b ≤ D j → has b (line t) ≡ has b (line j))

  leads_on : (t j k : ℕ) → Leads t j → Leads j k → Leads t k
  leads_on t j k first second = (
    omega (arith, first.0, second.0),
    λ b h. first.1 b (omega (arith, h, second.0)) ∙ second.1 b h,
  )

  leads_to : (t j k : ℕ) → Leads t j → k ≡ j → Leads t k
  leads_to t j k leads is = (
    let e : D k ≡ D j = ap D is in omega (arith, leads.0, e),
    λ b h. let e : D k ≡ D j = ap D is in leads.1 b (omega (arith, h, e)) ∙ ap (λ x. has b (line x)) (sym is),
  )

  leads_here : (t : ℕ) → Leads t t
  leads_here t = (omega arith, λ b h. refl)

  less_up : (t s : ℕ) → base heads t ≡ Some s → D t ≡ suc (D s)
  less_up t s is = deep t ∙ ap (λ o. suc (option_map_or D o 0)) is

  leads_up : (t s : ℕ) → base heads t ≡ Some s → Leads t s
  leads_up t s is =
      let e : D t ≡ suc (D s) = less_up t s is in
      (omega (arith, e), λ b h. line_up b t s is (omega (arith, h, e)))

  leads_base : (n t s : ℕ) → ((x : ℕ) → D x ≤ n → Leads x (J x)) → D t ≤ suc n → base heads t ≡ Some s → Leads s (J t)
  leads_base n t s lower few is = by (nat_eq (J t) s) (nat_eq (J t) (J (J s))) refl refl (sym (ap (is_jump J t) is) ∙ jumps t)
    where
      near : D s ≤ n
      near = let e : D t ≡ suc (D s) = less_up t s is in omega (arith, few, e)

      first : Leads s (J s)
      first = lower s near

      second : Leads (J s) (J (J s))
      second = lower (J s) (omega (arith, near, first.0))

      by : (x y : Bool) → nat_eq (J t) s ≡ x → nat_eq (J t) (J (J s)) ≡ y → (x || y) ≡ true → Leads s (J t)
      by true y e f h = leads_to s s (J t) (leads_here s) (same_number (J t) s e)
      by false true e f h = leads_to s (J (J s)) (J t) (leads_on s (J s) (J (J s)) first second) (same_number (J t) (J (J s)) f)
      by false false e f h = absurd (true≢false (sym h))

  leads_by : (n t : ℕ) → ((x : ℕ) → D x ≤ n → Leads x (J x)) → D t ≤ suc n → (o : Option ℕ) → base heads t ≡ o → Leads t (J t)
  leads_by n t lower few None is = leads_to t t (J t) (leads_here t) (same_number (J t) t (sym (ap (is_jump J t) is) ∙ jumps t))
  leads_by n t lower few (Some s) is = leads_on t s (J t) (leads_up t s is) (leads_base n t s lower few is)

  leads_jump : (n t : ℕ) → D t ≤ n → Leads t (J t)
  leads_jump zero t few = absurd (omega (arith, few, deep t))
  leads_jump (suc n) t few = leads_by n t (λ x f. leads_jump n x f) few (base heads t) refl

  by_jump : (b t : ℕ) → D b < D t → D b ≤ D (J t) → Farther heads D b t (J t)
  by_jump b t above enough_left = by (base heads t) refl
    where
      by : (o : Option ℕ) → base heads t ≡ o → Farther heads D b t (J t)
      by None is =
          let e : D t ≡ 1 = deep t ∙ ap (λ o. suc (option_map_or D o 0)) is in
          absurd (omega (arith, e, above, deep b))
      by (Some s) is =
          let e : D t ≡ suc (D s) = less_up t s is in
          let leads : Leads s (J t) = leads_base (D s) t s (λ x few. leads_jump (D s) x few) (omega (arith, e)) is in
          (omega (arith, e, leads.0), line_up b t s is above ∙ leads.1 b enough_left)

  by_base : (b t s : ℕ) → D b < D t → base heads t ≡ Some s → Farther heads D b t s
  by_base b t s above is =
      let e : D t ≡ suc (D s) = less_up t s is in
      (omega (arith, e), line_up b t s is above)

  not_last : (b t : ℕ) → D b < D t → base heads t ≡ None → ⊥
  not_last b t above is =
      let e : D t ≡ 1 = deep t ∙ ap (λ o. suc (option_map_or D o 0)) is in
      omega (arith, e, above, deep b)

-- By a table whose entries fit

module _ (heads : List TypeHead) (entries : List LineEntry) (fit : entries_fit heads entries ≡ true) where
  abbrev D : ℕ → ℕ
  D = depth entries

  abbrev Fits : ℕ → Type 0
  Fits t = (D t ≡ suc (depth_from entries (base heads t))) × (D t ≤ suc (length heads)) × (is_jump (jump entries) t (base heads t) ≡ true)

  size : length entries ≡ length heads
  size = same_number (length entries) (length heads) (left_of (nat_eq (length entries) (length heads)) (list_all (entry_fits heads entries) (all_types heads)) fit)

  inside : (t : ℕ) → t < length heads → Fits t
  inside t less = by (D t) (depth_from entries (base heads t)) (left_of (is_depth heads entries t) (is_jump (jump entries) t (base heads t)) here)
    where
      here : entry_fits heads entries t ≡ true
      here = at_number (entry_fits heads entries) 0 heads t t (right_of (nat_eq (length entries) (length heads)) (list_all (entry_fits heads entries) (all_types heads)) fit) less (omega arith)

      by : (d e : ℕ) → (nat_eq d (e + 1) && not (nat_lt (length heads) d)) ≡ true → (d ≡ suc e) × (d ≤ suc (length heads)) × (is_jump (jump entries) t (base heads t) ≡ true)
      by d e h = (
        grind (arith, nat_tests),
        grind (arith, nat_tests),
        right_of (is_depth heads entries t) (is_jump (jump entries) t (base heads t)) here,
      )

  outside : (t : ℕ) → length heads ≤ t → Fits t
  outside t more =
      let last : base heads t ≡ None = ap (λ (h : TypeHead). h.base) (get_or_past heads t int_head more) in
      let here : entry entries t ≡ record { depth = 1; jump = t } = get_or_past entries t (record { depth = 1; jump = t }) (omega (arith, more, size)) in
      let one : D t ≡ 1 = ap (λ (e : LineEntry). e.depth) here in
      let itself : jump entries t ≡ t = ap (λ (e : LineEntry). e.jump) here in (
        one ∙ ap (λ o. suc (depth_from entries o)) (sym last),
        omega (arith, one),
        ap (is_jump (jump entries) t) last ∙ ap (λ j. nat_eq j t) itself ∙ own t,
      )
    where
      own : (n : ℕ) → nat_eq n n ≡ true
      own n = grind (arith, nat_tests)

  fits_all : (t : ℕ) → Fits t
  fits_all t = by (nat_lt t (length heads)) refl
    where
      by : (b : Bool) → nat_lt t (length heads) ≡ b → Fits t
      by true e = let l : t < length heads = grind (arith, nat_tests) in inside t l
      by false e = let l : length heads ≤ t = grind (arith, nat_tests) in outside t l

  pub jumped : (b t j : ℕ) → D b < D t → j ≡ jump entries t → D b ≤ D j → Farther heads D b t j
  jumped b t j above is left =
      let e : D j ≡ D (jump entries t) = ap D is in
      let step : Farther heads D b t (jump entries t) = by_jump heads D (jump entries) (λ x. (fits_all x).0) (λ x. (fits_all x).2) b t above (omega (arith, left, e)) in
      (omega (arith, step.0, e), step.1 ∙ ap (λ x. has b (line_from heads entries x)) (sym is))

  pub stepped : (b t s : ℕ) → D b < D t → base heads t ≡ Some s → Farther heads D b t s
  stepped b t s above is = by_base heads D (jump entries) (λ x. (fits_all x).0) (λ x. (fits_all x).2) b t s above is

  pub never_last : (b t : ℕ) → D b < D t → base heads t ≡ None → ⊥
  never_last b t above is = not_last heads D (jump entries) (λ x. (fits_all x).0) (λ x. (fits_all x).2) b t above is

  pub last_is : (b t : ℕ) → D t ≤ D b → has b (line_from heads entries t) ≡ nat_eq b t
  last_is b t few = line_end heads D (jump entries) (λ x. (fits_all x).0) (λ x. (fits_all x).2) b t few

  pub based : (b t s r : ℕ) → base heads t ≡ Some s → has b (line_from heads entries s) ≡ nat_eq b r → has b (bases heads t) ≡ nat_eq b r
  based b t s r is found =
      let e : D t ≡ suc (D s) = (fits_all t).0 ∙ ap (λ o. suc (depth_from entries o)) is in
      let few : D s ≤ length heads = omega (arith, e, (fits_all t).1) in
      ap (λ o. has b (line_within (length heads) heads o)) is
      ∙ ap (has b) (enough heads D (jump entries) (λ x. (fits_all x).0) (λ x. (fits_all x).2) (length heads) (Some s) few) ∙ found

pub baseless : (heads : List TypeHead) (b t : ℕ) → base heads t ≡ None → has b (bases heads t) ≡ false
baseless heads b t is = ap (λ o. has b (line_within (length heads) heads o)) is ∙ ap (has b) (line_none (length heads) heads)

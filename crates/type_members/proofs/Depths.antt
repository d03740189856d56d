-- A line of types that ends has no type twice. So it is no longer than there are types, and descents of as many steps find all.
use Rattle.std.proofs.Common.{◌≡◌, ◌≢◌, ◌∙◌, refl, sym, ap, subst, ℕ, zero, suc, ◌+◌, ◌<◌, ◌≤◌, ◌⊎◌, inl, inr, ◌&&◌, ◌||◌, Bool, true, false, not, cond, List, [], ◌∷◌, ◌++◌, Option, Some, None, arith, map, filter, length, nat_eq}
use Rattle.std.specs.Prelude.{flat_map, ⊤}
use Rattle.std.specs.Option.{option_map_or}
use Rattle.std.proofs.lemmas.Bool.Decides.{eqb_tells}
use Rattle.type_heads.specs.Table.{TypeHead, base, line_within, numbers_from}
use Rattle.type_heads.specs.Types.{TypeBody}
use Rattle.type_heads.specs.Members.{has, body, Line, line_of, through, is_conditional, down_within}
use Rattle.type_members.specs.Ancestry.{HasEnd}
use Rattle.type_members.proofs.Ancestry.{end_more, off_line}
use Rattle.type_members.proofs.Downward.{base_is}
use Rattle.type_members.proofs.ListTests.{both, neither}

-- Distinct numbers

abbrev AreDistinct : List ℕ → Type 0
AreDistinct [] = ⊤
AreDistinct (x ∷ xs) = (has x xs ≡ false) × AreDistinct xs

abbrev pub AreBelow : ℕ → List ℕ → Type 0
AreBelow n [] = ⊤
AreBelow n (x ∷ xs) = (x < n) × AreBelow n xs

abbrev without : ℕ → List ℕ → List ℕ
without k xs = filter (λ x. not (nat_eq k x)) xs

all_left : (k : ℕ) (xs : List ℕ) → has k xs ≡ false → without k xs ≡ xs
all_left k [] off = refl
all_left k (x ∷ xs) off =
    let parts : (nat_eq k x ≡ false) × (has k xs ≡ false) = neither (nat_eq k x) (has k xs) off in
    ap (λ b. cond (not b) (x ∷ without k xs) (without k xs)) parts.0 ∙ ap (λ ys. x ∷ ys) (all_left k xs parts.1)

one_out : (k : ℕ) (xs : List ℕ) → AreDistinct xs → length xs ≤ suc (length (without k xs))
one_out k [] f = omega arith
one_out k (x ∷ xs) f = by (eqb_tells k x) (one_out k xs f.1)
  where
    rest : List ℕ
    rest = without k xs

    by : ((nat_eq k x ≡ true) × (k ≡ x)) ⊎ ((nat_eq k x ≡ false) × (k ≢ x)) → length xs ≤ suc (length rest) →
        suc (length xs) ≤ suc (length (cond (not (nat_eq k x)) (x ∷ rest) rest))
    by (inl (is, same)) le =
        let e : length (cond (not (nat_eq k x)) (x ∷ rest) rest) ≡ length xs =
        ap (λ b. length (cond (not b) (x ∷ rest) rest)) is ∙ ap length (all_left k xs (ap (λ y. has y xs) same ∙ f.0)) in
        omega (arith, e)
    by (inr (is, other)) le =
        let e : length (cond (not (nat_eq k x)) (x ∷ rest) rest) ≡ suc (length rest) = ap (λ b. length (cond (not b) (x ∷ rest) rest)) is in
        omega (arith, e, le)

off_out : (y k : ℕ) (xs : List ℕ) → has y xs ≡ false → has y (without k xs) ≡ false
off_out y k [] off = refl
off_out y k (x ∷ xs) off = by (nat_eq k x) (neither (nat_eq y x) (has y xs) off) (λ h. off_out y k xs h)
  where
    by : (b : Bool) → (nat_eq y x ≡ false) × (has y xs ≡ false) → (has y xs ≡ false → has y (without k xs) ≡ false) → has y (cond (not b) (x ∷ without k xs) (without k xs)) ≡ false
    by true p on = on p.1
    by false p on = ap (λ b. b || has y (without k xs)) p.0 ∙ on p.1

distinct_out : (k : ℕ) (xs : List ℕ) → AreDistinct xs → AreDistinct (without k xs)
distinct_out k [] f = tt
distinct_out k (x ∷ xs) f = by (nat_eq k x) (distinct_out k xs f.1)
  where
    by : (b : Bool) → AreDistinct (without k xs) → AreDistinct (cond (not b) (x ∷ without k xs) (without k xs))
    by true on = on
    by false on = (off_out x k xs f.0, on)

below_out : (n : ℕ) (xs : List ℕ) → AreBelow (suc n) xs → AreBelow n (without n xs)
below_out n [] f = tt
below_out n (x ∷ xs) f = by (eqb_tells n x) (below_out n xs f.1)
  where
    by : ((nat_eq n x ≡ true) × (n ≡ x)) ⊎ ((nat_eq n x ≡ false) × (n ≢ x)) → AreBelow n (without n xs) → AreBelow n (cond (not (nat_eq n x)) (x ∷ without n xs) (without n xs))
    by (inl (is, same)) on = subst (λ b. AreBelow n (cond (not b) (x ∷ without n xs) (without n xs))) (sym is) on
    by (inr (is, other)) on =
        let less : x < suc n = f.0 in
        let here : x < n = omega (arith, less, other) in
        subst (λ b. AreBelow n (cond (not b) (x ∷ without n xs) (without n xs))) (sym is) (here, on)

few_below : (n : ℕ) (xs : List ℕ) → AreDistinct xs → AreBelow n xs → length xs ≤ n
few_below zero [] f below = omega arith
few_below zero (x ∷ xs) f below = let less : x < 0 = below.0 in absurd (omega (arith, less))
few_below (suc n) xs f below = omega (arith, one_out n xs f, few_below n (without n xs) (distinct_out n xs f) (below_out n xs below))

-- Lines

distinct_line : (heads : List TypeHead) (j d : ℕ) (o : Option ℕ) → HasEnd heads o d → AreDistinct (line_within j heads o)
distinct_line heads zero d o end = tt
distinct_line heads (suc j) d None end = tt
distinct_line heads (suc j) zero (Some t) end = absurd end
distinct_line heads (suc j) (suc d) (Some t) end = (off_line heads j d t (suc d) (base heads t) end end (omega arith), distinct_line heads j d (base heads t) end)

long_line : (heads : List TypeHead) (j d : ℕ) (o : Option ℕ) → HasEnd heads o d → j ≤ d → length (line_within j heads o) ≡ j
long_line heads zero d o end le = refl
long_line heads (suc j) zero o end le = absurd (omega (arith, le))
long_line heads (suc j) (suc d) None end le = absurd end
long_line heads (suc j) (suc d) (Some t) end le = ap suc (long_line heads j d (base heads t) end (omega (arith, le)))

short_line : (heads : List TypeHead) (n j d : ℕ) (o : Option ℕ) → HasEnd heads o d → j ≤ d → AreBelow n (line_within j heads o) → j ≤ n
short_line heads n j d o end le below =
    omega (arith, few_below n (line_within j heads o) (distinct_line heads j d o end) below, long_line heads j d o end le)

-- Descents

flat_same : {X : Type 0} (f g : ℕ → List Line) (q : ℕ → Bool) (n k : ℕ) (xs : List X) → k + length xs ≡ n → ((x : ℕ) → q x ≡ true → x < n → f x ≡ g x) →
    flat_map f (filter q (numbers_from k xs)) ≡ flat_map g (filter q (numbers_from k xs))
flat_same f g q n k [] all each = refl
flat_same f g q n k (x ∷ xs) all each = by (q k) refl (flat_same f g q n (k + 1) xs (omega (arith, all)) each)
  where
    rest : List ℕ
    rest = filter q (numbers_from (k + 1) xs)

    by : (b : Bool) → q k ≡ b → flat_map f rest ≡ flat_map g rest → flat_map f (cond b (k ∷ rest) rest) ≡ flat_map g (cond b (k ∷ rest) rest)
    by true is on =
        let less : k < n = omega (arith, all) in
        ap (λ ls. ls ++ flat_map f rest) (each k is less) ∙ ap (λ ls. g k ++ ls) on
    by false is on = on

-- a descent of so many steps from a type finds all, if so many types of its line are there that there aren't as many more
pub down_all : (heads : List TypeHead) (bodies : List TypeBody) (steps j t d : ℕ) → HasEnd heads (Some t) d → j ≤ d → AreBelow (length heads) (line_within j heads (Some t)) →
    length heads < steps + j → down_within steps heads bodies t ≡ down_within (suc steps) heads bodies t
down_all heads bodies zero j t d end le below more = absurd (omega (arith, short_line heads (length heads) j d (Some t) end le below, more))
down_all heads bodies (suc steps) j t d end le below more =
    ap (λ ls. (map (line_of t) (body bodies t).own ++ ls) ++ map (line_of t) (body bodies t).more)
    (flat_same (λ c. map (through c) (down_within steps heads bodies c)) (λ c. map (through c) (down_within (suc steps) heads bodies c))
    (λ c. is_conditional bodies c && option_map_or (nat_eq t) (base heads c) false) (length heads) 0 heads (omega arith)
    (λ c is there. one c is there (λ deep near. down_all heads bodies steps (suc j) c (d + 1) deep (omega (arith, le)) near (omega (arith, more)))))
  where
    one : (c : ℕ) → (is_conditional bodies c && option_map_or (nat_eq t) (base heads c) false) ≡ true → c < length heads →
        (HasEnd heads (Some c) (d + 1) → AreBelow (length heads) (line_within (suc j) heads (Some c)) → down_within steps heads bodies c ≡ down_within (suc steps) heads bodies c) →
        map (through c) (down_within steps heads bodies c) ≡ map (through c) (down_within (suc steps) heads bodies c)
    one c is there on =
        let parts : (is_conditional bodies c ≡ true) × (option_map_or (nat_eq t) (base heads c) false ≡ true) =
        both (is_conditional bodies c) (option_map_or (nat_eq t) (base heads c) false) is in
        let inherits : base heads c ≡ Some t = base_is t (base heads c) parts.1 in
        ap (map (through c)) (on (end_more heads t c d inherits end) (there, subst (λ o. AreBelow (length heads) (line_within j heads o)) (sym inherits) below))

-- Each part is read by its rule: no number of parts within one another is too small.
use Rattle.std.proofs.Common.{◌≡◌, ℕ, zero, suc, ◌+◌, ◌*◌, ◌<◌, ◌≤◌, List, [], ◌∷◌, length, Bool, true, false, cond, refl, sym, ◌∙◌, ap, ap₂, subst, ◌&&◌, Ok, Err, arith}
use Rattle.std.proofs.lemmas.Bool.{false≢true, ltb-true}
use Rattle.dsl_cursor.specs.Words.{max, nat_lt, At, Token, Part, Symbol, Seen, Bare, Of, rules, Forest, nil, seen, bare, sub, wrong, Spells, first, firsts, empty, starts, void, Parsed, PartFault, Outcome, onto, and_then, take, after, only_part, in_row, by_rules, optional, begins_label, plain_argument, named_argument, is_arguments, in_part, deep, room, read}
use Rattle.dsl_tree.proofs.{Tests.left_of, Tests.right_of, Sets.both_ways, Sets.is_false, Begins.void_part, Law.part_follows, EachPart.each_part}
use Rattle.dsl_cursor.proofs.ReadParts.{Took, PartHeld, taken, deep_held}

-- How long what is left is

abbrev count : Forest → ℕ
count nil = 0
count (seen place kind f) = count f + 1
count (bare kind f) = count f + 1
count (sub part f) = count part + count f
count wrong = 1

spells_length : (f : Forest) (ts rest : List Token) → Spells f ts rest → length ts ≡ count f + length rest
spells_length nil ts rest s = let e : length ts ≡ length rest = ap length s in omega (arith, e)
spells_length (seen place kind f) [] rest s = absurd s
spells_length (seen place kind f) (t ∷ ts) rest (p, k, s) = let e : length ts ≡ count f + length rest = spells_length f ts rest s in omega (arith, e)
spells_length (bare kind f) [] rest s = absurd s
spells_length (bare kind f) (t ∷ ts) rest (k, s) = let e : length ts ≡ count f + length rest = spells_length f ts rest s in omega (arith, e)
spells_length (sub part f) ts rest (m, s, s') =
    let e : length ts ≡ count part + length m = spells_length part ts m s in
    let e' : length m ≡ count f + length rest = spells_length f m rest s' in
    omega (arith, e, e')
spells_length wrong ts rest s = absurd s

some_count : (f : Forest) → void f ≡ false → 1 ≤ count f
some_count nil h = absurd (false≢true (sym h))
some_count (seen place kind f) h = omega arith
some_count (bare kind f) h = omega arith
some_count (sub part f) h = go (void part) refl h (some_count part) (some_count f)
  where
    go : (b : Bool) → void part ≡ b → (b && void f) ≡ false → (void part ≡ false → 1 ≤ count part) → (void f ≡ false → 1 ≤ count f) → 1 ≤ count part + count f
    go true e h one two = let n : 1 ≤ count f = two h in omega (arith, n)
    go false e h one two = let n : 1 ≤ count part = one e in omega (arith, n)
some_count wrong h = omega arith

pub parsed_within : (p : Part) (f : Forest) (ts rest : List Token) → Parsed p f ts rest → length rest ≤ length ts
parsed_within p f ts rest parsed = let e : length ts ≡ count f + length rest = spells_length f ts rest parsed.spells in omega (arith, e)

pub parsed_shorter : (p : Part) (f : Forest) (ts rest : List Token) → empty p ≡ false → Parsed p f ts rest → length rest < length ts
parsed_shorter p f ts rest full parsed =
    let e : length ts ≡ count f + length rest = spells_length f ts rest parsed.spells in
    let some : void f ≡ false = is_false (void f) (λ v. both_ways (empty p) (void_part p f (part_follows p f rest parsed.whole) v) full) in
    let n : 1 ≤ count f = some_count f some in
    omega (arith, e, n)

pub taken_shorter : (codes : List ℕ) (ts : List Token) (t : Token) (rest : List Token) → take codes ts ≡ Ok (t, rest) → length rest + 1 ≡ length ts
taken_shorter codes ts t rest h = let e : length ts ≡ length (t ∷ rest) = ap length (taken codes ts t rest h).split in omega (arith, e)

-- How many parts a part begins with, within one another

abbrev row_rank : (Part → ℕ) → List Symbol → ℕ
row_rank R [] = 0
row_rank R (Seen codes ∷ ss) = 0
row_rank R (Bare codes ∷ ss) = 0
row_rank R (Of p ∷ ss) = max (R p) (cond (empty p) (row_rank R ss) 0)

abbrev rules_rank : (Part → ℕ) → List (List Symbol) → ℕ
rules_rank R [] = 0
rules_rank R (r ∷ rs) = max (row_rank R r) (rules_rank R rs)

abbrev rank_at : ℕ → Part → ℕ
rank_at zero p = 0
rank_at (suc n) p = suc (rules_rank (rank_at n) (rules p))

unfoldable rank : Part → ℕ
rank p = rank_at 20 p

-- the parts with which a row begins rank below a number
abbrev below : ℕ → List Symbol → Bool
below n [] = true
below n (Seen codes ∷ ss) = true
below n (Bare codes ∷ ss) = true
below n (Of p ∷ ss) = nat_lt (rank p) n && cond (empty p) (below n ss) true

abbrev all_below : ℕ → List (List Symbol) → Bool
all_below n [] = true
all_below n (r ∷ rs) = below n r && all_below n rs

abbrev is_ranked : Part → Bool
is_ranked p =
    nat_lt (rank p) 100 && (all_below (rank p) (rules p) && (below (rank p) (optional (rules p)) && cond (is_arguments p) (below (rank p) named_argument && below (rank p) plain_argument) true))

ranked : (p : Part) → is_ranked p ≡ true
unfolding rank
ranked = each_part is_ranked refl

rank_small : (p : Part) → rank p < 100
rank_small p = ltb-true (rank p) 100 (left_of (nat_lt (rank p) 100) _ (ranked p))

all_small : (ss : List Symbol) → below 100 ss ≡ true
all_small [] = refl
all_small (Seen codes ∷ ss) = refl
all_small (Bare codes ∷ ss) = refl
all_small (Of p ∷ ss) = both (nat_lt (rank p) 100) (empty p) (left_of (nat_lt (rank p) 100) _ (ranked p)) (all_small ss)
  where
    both : (a b : Bool) → a ≡ true → below 100 ss ≡ true → (a && cond b (below 100 ss) true) ≡ true
    both true true h rest = rest
    both true false h rest = refl
    both false b h rest = absurd (false≢true h)

-- Two readers of parts that agree on what is smaller agree on a row

abbrev Reader : Type 0
Reader = Part → List Token → Outcome

abbrev Agree : ℕ → Reader → Reader → Type 0
Agree n R S = (q : Part) (ts : List Token) → 100 * length ts + rank q < n → R q ts ≡ S q ts

abbrev Well : Reader → Type 0
Well R = (p : Part) (ts : List Token) → PartHeld p ts (R p ts)

well_read : (R : Reader) → Well R → (p : Part) (ts : List Token) (f : Forest) (rest : List Token) → R p ts ≡ Ok (f, rest) → Parsed p f ts rest
well_read R well p ts f rest h = subst (PartHeld p ts) h (well p ts)

-- what stands after a token is shorter
token_same : (R S : List Token → Outcome) (wrap : Token → Forest → Forest) (codes : List ℕ) (ss : List Symbol) (ts : List Token) (n bound : ℕ) → 100 * length ts + bound ≤ n
    → ((m : List Token) (b : ℕ) → below b ss ≡ true → b ≤ 100 → 100 * length m + b ≤ n → R m ≡ S m) → after (take codes ts) (λ t m. onto (wrap t) (R m)) ≡ after (take codes ts) (λ t m. onto (wrap t) (S m))
token_same R S wrap codes ss ts n bound room again = go (take codes ts) refl
  where
    go : (o : Took) → take codes ts ≡ o → after o (λ t m. onto (wrap t) (R m)) ≡ after o (λ t m. onto (wrap t) (S m))
    go (Err e) is = refl
    go (Ok (t, m)) is =
        let e : length m + 1 ≡ length ts = taken_shorter codes ts t m is in
        ap (onto (wrap t)) (again m 100 (all_small ss) (omega arith) (omega (arith, e, room)))

row_same : (R S : Reader) (n : ℕ) → Agree n R S → Well R → (ss : List Symbol) (ts : List Token) (bound : ℕ) → below bound ss ≡ true → bound ≤ 100 → 100 * length ts + bound ≤ n → in_row R ss ts ≡ in_row S ss ts
row_same R S n agree well [] ts bound h small room = refl
row_same R S n agree well (Seen codes ∷ ss) ts bound h small room = token_same (in_row R ss) (in_row S ss) (λ t. seen t.place t.kind) codes ss ts n bound room (row_same R S n agree well ss)
row_same R S n agree well (Bare codes ∷ ss) ts bound h small room = token_same (in_row R ss) (in_row S ss) (λ t. bare t.kind) codes ss ts n bound room (row_same R S n agree well ss)
row_same R S n agree well (Of p ∷ []) ts bound h small room =
    let less : rank p < bound = ltb-true (rank p) bound (left_of (nat_lt (rank p) bound) _ h) in
    ap (onto only_part) (agree p ts (omega (arith, less, room)))
row_same R S n agree well (Of p ∷ s ∷ ss) ts bound h small room =
    go (R p ts) refl (row_same R S n agree well (s ∷ ss)) ∙ ap (λ (o : Outcome). and_then o (λ part m. onto (sub part) (in_row S (s ∷ ss) m))) (agree p ts (omega (arith, less, room)))
  where
    less : rank p < bound
    less = ltb-true (rank p) bound (left_of (nat_lt (rank p) bound) _ h)

    go : (o : Outcome) → R p ts ≡ o → ((m : List Token) (b : ℕ) → below b (s ∷ ss) ≡ true → b ≤ 100 → 100 * length m + b ≤ n → in_row R (s ∷ ss) m ≡ in_row S (s ∷ ss) m)
        → and_then o (λ part m. onto (sub part) (in_row R (s ∷ ss) m)) ≡ and_then o (λ part m. onto (sub part) (in_row S (s ∷ ss) m))
    go (Err e) is again = refl
    go (Ok (f, m)) is again = ap (onto (sub f)) (rest (empty p) refl (right_of (nat_lt (rank p) bound) _ h))
      where
        rest : (b : Bool) → empty p ≡ b → cond b (below bound (s ∷ ss)) true ≡ true → in_row R (s ∷ ss) m ≡ in_row S (s ∷ ss) m
        rest true blank low = let e : length m ≤ length ts = parsed_within p f ts m (well_read R well p ts f m is) in again m bound low small (omega (arith, e, room))
        rest false full low = let e : length m < length ts = parsed_shorter p f ts m full (well_read R well p ts f m is) in again m 100 (all_small (s ∷ ss)) (omega arith) (omega (arith, e, room))

rules_same : (R S : Reader) (n : ℕ) → Agree n R S → Well R → (rs : List (List Symbol)) (ts : List Token) (bound : ℕ) → all_below bound rs ≡ true → bound ≤ 100 → 100 * length ts + bound ≤ n → by_rules R rs ts ≡ by_rules S rs ts
rules_same R S n agree well [] ts bound h small room = refl
rules_same R S n agree well (r ∷ []) ts bound h small room = row_same R S n agree well r ts bound (left_of (below bound r) true h) small room
rules_same R S n agree well (r ∷ s ∷ rs) ts bound h small room =
    ap₂ (cond (starts (firsts r) ts)) (row_same R S n agree well r ts bound (left_of (below bound r) (all_below bound (s ∷ rs)) h) small room)
    (rules_same R S n agree well (s ∷ rs) ts bound (right_of (below bound r) (all_below bound (s ∷ rs)) h) small room)

abbrev in_arguments : Reader → List Token → Outcome
in_arguments R ts = cond (begins_label ts) (in_row R named_argument ts) (in_row R plain_argument ts)

abbrev in_other : Reader → Part → List Token → Outcome
in_other R p ts = cond (empty p) (cond (starts (first p) ts) (in_row R (optional (rules p)) ts) (Ok (nil, ts))) (by_rules R (rules p) ts)

part_same : (R S : Reader) (p : Part) (ts : List Token) → Agree (100 * length ts + rank p) R S → Well R → in_part R p ts ≡ in_part S p ts
part_same R S p ts agree well = go (is_arguments p) (right_of (below (rank p) (optional (rules p))) _ three)
  where
    small : rank p ≤ 100
    small = let h : rank p < 100 = rank_small p in omega (arith, h)

    two : (all_below (rank p) (rules p) && (below (rank p) (optional (rules p)) && cond (is_arguments p) (below (rank p) named_argument && below (rank p) plain_argument) true)) ≡ true
    two = right_of (nat_lt (rank p) 100) _ (ranked p)

    three : (below (rank p) (optional (rules p)) && cond (is_arguments p) (below (rank p) named_argument && below (rank p) plain_argument) true) ≡ true
    three = right_of (all_below (rank p) (rules p)) _ two

    row : (r : List Symbol) → below (rank p) r ≡ true → in_row R r ts ≡ in_row S r ts
    row r h = row_same R S (100 * length ts + rank p) agree well r ts (rank p) h small (omega arith)

    go : (b : Bool) → cond b (below (rank p) named_argument && below (rank p) plain_argument) true ≡ true → cond b (in_arguments R ts) (in_other R p ts) ≡ cond b (in_arguments S ts) (in_other S p ts)
    go true h =
        ap₂ (cond (begins_label ts)) (row named_argument (left_of (below (rank p) named_argument) (below (rank p) plain_argument) h)) (row plain_argument (right_of (below (rank p) named_argument) (below (rank p) plain_argument) h))
    go false h =
        ap₂ (λ (o o' : Outcome). cond (empty p) (cond (starts (first p) ts) o (Ok (nil, ts))) o') (row (optional (rules p)) (left_of (below (rank p) (optional (rules p))) _ three))
        (rules_same R S (100 * length ts + rank p) agree well (rules p) ts (rank p) (left_of (all_below (rank p) (rules p)) _ two) small (omega arith))

-- enough is as good as more
deep_same : (n m : ℕ) (p : Part) (ts : List Token) → 100 * length ts + rank p < n → 100 * length ts + rank p < m → deep n p ts ≡ deep m p ts
deep_same zero m p ts h k = absurd (omega (arith, h))
deep_same (suc n) zero p ts h k = absurd (omega (arith, k))
deep_same (suc n) (suc m) p ts h k = part_same (deep n) (deep m) p ts (λ q us less. deep_same n m q us (omega (arith, less, h)) (omega (arith, less, k))) (deep_held n)

room_is : (ts : List Token) → room ts ≡ suc (99 + 100 * length ts)
room_is [] = omega arith
room_is (t ∷ ts) = let e : room ts ≡ suc (99 + 100 * length ts) = room_is ts in omega (arith, e)

pub read_step : (p : Part) (ts : List Token) → read p ts ≡ in_part read p ts
unfolding read
read_step p ts =
    ap (λ (n : ℕ). deep n p ts) (room_is ts)
    ∙ part_same (deep (99 + 100 * length ts)) (λ q us. deep (room us) q us) p ts (λ q us less.
    let here : rank p < 100 = rank_small p in
    let there : rank q < 100 = rank_small q in
    let e : room us ≡ suc (99 + 100 * length us) = room_is us in
    deep_same (99 + 100 * length ts) (room us) q us (omega (arith, less, here)) (omega (arith, there, e))) (deep_held (99 + 100 * length ts))

read_held : (p : Part) (ts : List Token) → PartHeld p ts (read p ts)
unfolding read
read_held p ts = deep_held (room ts) p ts

pub read_parsed : (p : Part) (ts : List Token) (f : Forest) (rest : List Token) → read p ts ≡ Ok (f, rest) → Parsed p f ts rest
read_parsed p ts f rest h = subst (PartHeld p ts) h (read_held p ts)

pub read_fault : (p : Part) (ts : List Token) (left : ℕ) → read p ts ≡ Err (At left) → PartFault p ts left
read_fault p ts left h = subst (PartHeld p ts) h (read_held p ts)

-- How forests begin and go on, and when they are void.
use Rattle.std.proofs.Common.{◌≡◌, ◌⊎◌, ℕ, ◌+◌, ◌≤◌, List, [], ◌∷◌, ◌++◌, Bool, true, false, cond, refl, sym, ◌∙◌, ap, subst, inl, inr, ⊎_elim, ◌&&◌, arith}
use Rattle.dsl_tree.specs.declared.token.Token.{Token}
use Rattle.dsl_tree.specs.Codes.{code, has}
use Rattle.dsl_tree.specs.Grammar.{Part, Symbol, rules, Seen, Bare, Of}
use Rattle.dsl_tree.specs.Forest.{Forest, nil, seen, bare, sub, wrong, Spells, AnyRule, Follows}
use Rattle.dsl_tree.specs.Lookahead.{first, empty, second, firsts, empties, seconds, least}
use Rattle.dsl_tree.specs.Reading.{Starts, void}
use Rattle.dsl_tree.proofs.Tests.{left_of, right_of, count}
use Rattle.dsl_tree.proofs.Sets.{two_ways, both_ways, and_both, starts-cons, Starts-subset, Starts-append_left, Starts-append_right}
use Rattle.dsl_tree.proofs.Fits.{by_rules}

pub void_spells : (f : Forest) (ts z : List Token) → void f ≡ true → Spells f ts z → ts ≡ z
void_spells nil ts z v s = s
void_spells (sub a g) ts z v (m, s, s') = void_spells a ts m (left_of (void a) (void g) v) s ∙ void_spells g m z (right_of (void a) (void g) v) s'
void_spells (seen place kind f) ts z v s = absurd (cc)
void_spells (bare kind f) ts z v s = absurd (cc)
void_spells wrong ts z v s = absurd s

-- a void forest follows only what may be empty
pub void_empties : (f : Forest) (ss : List Symbol) → Follows f ss → void f ≡ true → empties ss ≡ true
void_empties nil [] h v = refl
void_empties (sub a g) (Of p ∷ ss) (any, h) v =
    and_both (empty p) (empties ss)
    (by_rules p (Follows a) (empty p ≡ true) any (λ r fit does. fit.blank (void_empties a r does (left_of (void a) (void g) v))))
    (void_empties g ss h (right_of (void a) (void g) v))
void_empties (seen place kind f) (Seen codes ∷ ss) h v = absurd (cc)
void_empties (bare kind f) (Bare codes ∷ ss) h v = absurd (cc)
void_empties _ _ h v = absurd h

pub void_part : (p : Part) (a : Forest) → AnyRule (rules p) (Follows a) → void a ≡ true → empty p ≡ true
void_part p a any v = by_rules p (Follows a) (empty p ≡ true) any (λ r fit does. fit.blank (void_empties a r does v))

-- a forest is void, or begins with a token that its row may begin with
abbrev pub Begun : Forest → List ℕ → List Token → Type 0
Begun f cs ts = (void f ≡ true) ⊎ ((void f ≡ false) × Starts cs ts)

-- what may begin a part may begin a row with it
starts_first : (e : Bool) (xs ys : List ℕ) (ts : List Token) → Starts xs ts → Starts (cond e (xs ++ ys) xs) ts
starts_first true xs ys ts b = Starts-append_left xs ys ts b
starts_first false xs ys ts b = b

pub begins : (f : Forest) (ss : List Symbol) (ts z : List Token) → Follows f ss → Spells f ts z → Begun f (firsts ss) ts
begins nil [] ts z h s = inl refl
begins (seen place kind f) (Seen codes ∷ ss) (t ∷ ts) z (h, h') (p, k, s) = inr (refl, starts-cons codes t ts ∙ ap (λ kind. has codes (code kind)) k ∙ h)
begins (bare kind f) (Bare codes ∷ ss) (t ∷ ts) z (h, h') (k, s) = inr (refl, starts-cons codes t ts ∙ ap (λ kind. has codes (code kind)) k ∙ h)
begins (sub a g) (Of p ∷ ss) ts z (any, h) (m, s, s') =
    ⊎_elim (λ v. ⊎_elim (λ w. inl (and_both (void a) (void g) v w))
    (λ (w, b). inr (
      ap (λ (x : Bool). x && void g) v ∙ w,
      subst (λ (e : Bool). Starts (cond e (first p ++ firsts ss) (first p)) ts) (sym (void_part p a any v))
          (Starts-append_right (first p) (firsts ss) ts (subst (Starts (firsts ss)) (sym (void_spells a ts m v s)) b)),
    )) (begins g ss m z h s'))
    (λ (v, b). inr (ap (λ (x : Bool). x && void g) v, starts_first (empty p) (first p) (firsts ss) ts b))
    (by_rules p (Follows a) (Begun a (first p) ts) any (λ r fit does. ⊎_elim inl (λ (v, b). inr (v, Starts-subset (firsts r) (first p) ts fit.begins b)) (begins a r ts m does s)))
begins (seen place kind f) (Seen codes ∷ ss) [] z h s = absurd s
begins (bare kind f) (Bare codes ∷ ss) [] z h s = absurd s
begins _ _ ts z h s = absurd h

pub begins_part : (p : Part) (a : Forest) (ts z : List Token) → AnyRule (rules p) (Follows a) → Spells a ts z → Begun a (first p) ts
begins_part p a ts z any s = by_rules p (Follows a) (Begun a (first p) ts) any (λ r fit does. ⊎_elim inl (λ (v, b). inr (v, Starts-subset (firsts r) (first p) ts fit.begins b)) (begins a r ts z does s))

-- a forest of a row that can't be empty begins with one of its first codes
pub begins_full : (f : Forest) (ss : List Symbol) (ts z : List Token) → empties ss ≡ false → Follows f ss → Spells f ts z → Starts (firsts ss) ts
begins_full f ss ts z full does s = ⊎_elim (λ v. both_ways (empties ss) (void_empties f ss does v) full) (λ (v, b). b) (begins f ss ts z does s)

-- The second token

pub void_count : (f : Forest) → void f ≡ true → count f ≡ 0
void_count nil v = refl
void_count (sub a g) v = let e : count a ≡ 0 = void_count a (left_of (void a) (void g) v) in let e' : count g ≡ 0 = void_count g (right_of (void a) (void g) v) in omega arith
void_count (seen place kind f) v = absurd (cc)
void_count (bare kind f) v = absurd (cc)
void_count wrong v = absurd (cc)

-- The first token is the only one, or one that may come second comes second.
abbrev pub Then : Forest → List ℕ → List Token → List Token → Type 0
Then f cs ts z = ((ts ≡ z) × (count f ≡ 1)) ⊎ Starts cs ts

pub seconds_of : (f : Forest) (ss : List Symbol) (t : Token) (ts z : List Token) → Follows f ss → Spells f (t ∷ ts) z → void f ≡ false → Then f (seconds ss) ts z
seconds_of nil [] t ts z h s v = absurd (cc)
seconds_of (seen place kind f) (Seen codes ∷ ss) t ts z (h, h') (p, k, s) v =
    ⊎_elim (λ w. inl (void_spells f ts z w s, ap (λ (n : ℕ). n + 1) (void_count f w))) (λ (w, b). inr b) (begins f ss ts z h' s)
seconds_of (bare kind f) (Bare codes ∷ ss) t ts z (h, h') (k, s) v =
    ⊎_elim (λ w. inl (void_spells f ts z w s, ap (λ (n : ℕ). n + 1) (void_count f w))) (λ (w, b). inr b) (begins f ss ts z h' s)
seconds_of (sub a g) (Of p ∷ ss) t ts z (any, h) (m, s, s') v =
    ⊎_elim (λ e. ⊎_elim (λ (q, n). inl (q, let zero_count : count a ≡ 0 = void_count a e in omega arith))
    (λ b. inr (Starts-append_right (second p ++ firsts ss) (cond (empty p) (seconds ss) []) ts (subst (λ (x : Bool). Starts (cond x (seconds ss) []) ts) (sym (void_part p a any e)) b)))
    (seconds_of g ss t ts z h (subst (λ (x : List Token). Spells g x z) (sym (void_spells a (t ∷ ts) m e s)) s') (subst (λ (b : Bool). (b && void g) ≡ false) e v)))
    (λ e. ⊎_elim (λ (q, n). ⊎_elim (λ w. inl (q ∙ void_spells g m z w s', let zero_count : count g ≡ 0 = void_count g w in omega arith))
    (λ (w, b). inr (Starts-append_left (second p ++ firsts ss) (cond (empty p) (seconds ss) []) ts (Starts-append_right (second p) (firsts ss) ts (subst (Starts (firsts ss)) (sym q) b)))) (begins g ss m z h s'))
    (λ b. inr (Starts-append_left (second p ++ firsts ss) (cond (empty p) (seconds ss) []) ts (Starts-append_left (second p) (firsts ss) ts b)))
    (by_rules p (Follows a) (Then a (second p) ts m) any (λ r fit does. ⊎_elim inl (λ b. inr (Starts-subset (seconds r) (second p) ts fit.then_second b)) (seconds_of a r t ts m does s e))))
    (two_ways (void a))
seconds_of _ _ t ts z h s v = absurd h

-- a forest that isn't void has a token
pub unvoid_count : (f : Forest) (ss : List Symbol) → Follows f ss → void f ≡ false → 1 ≤ count f
unvoid_count nil [] h v = absurd (cc)
unvoid_count (seen place kind f) (Seen codes ∷ ss) h v = omega arith
unvoid_count (bare kind f) (Bare codes ∷ ss) h v = omega arith
unvoid_count (sub a g) (Of p ∷ ss) (any, h) v =
    ⊎_elim (λ e. let le : 1 ≤ count g = unvoid_count g ss h (subst (λ (b : Bool). (b && void g) ≡ false) e v) in omega arith)
    (λ e. let le : 1 ≤ count a = by_rules p (Follows a) (1 ≤ count a) any (λ r fit does. unvoid_count a r does e) in omega arith) (two_ways (void a))
unvoid_count _ _ h v = absurd h

-- a forest has the least number of tokens of its row
pub least_count : (f : Forest) (ss : List Symbol) → Follows f ss → least ss ≤ count f
least_count nil [] h = omega arith
least_count (seen place kind f) (Seen codes ∷ ss) (h, h') = let e : least ss ≤ count f = least_count f ss h' in omega arith
least_count (bare kind f) (Bare codes ∷ ss) (h, h') = let e : least ss ≤ count f = least_count f ss h' in omega arith
least_count (sub a g) (Of p ∷ ss) (any, h) = go (empty p) refl (least_count g ss h)
  where
    go : (b : Bool) → empty p ≡ b → least ss ≤ count g → cond b 0 1 + least ss ≤ count a + count g
    go true e le = omega arith
    go false e le =
        ⊎_elim (λ v. both_ways (empty p) (void_part p a any v) e)
        (λ v. let some : 1 ≤ count a = by_rules p (Follows a) (1 ≤ count a) any (λ r fit does. unvoid_count a r does v) in omega arith) (two_ways (void a))
least_count _ _ h = absurd h

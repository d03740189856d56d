-- What stands after and before a number, when one is put last in the list and when one is left out.
use Rattle.std.proofs.Common.{◌≡◌, ◌≢◌, ℕ, ◌≤◌, true, not, ◌||◌, cond, eqb, List, [], ◌∷◌, ◌++◌, refl, sym, ap, subst, ◌∙◌, inl, inr, arith}
use Rattle.std.proofs.lemmas.Bool.{cases_eq, eq-eqb, ne_eqb, cond-true, cond-false}
use Rattle.wake_ring.specs.Queue.{is_in, without}
use Rattle.wake_ring.specs.Order.{Lacks, IsDistinct, AllBelow, after_in, before_in}

-- a choice at a number that is the one asked for, and at another
pub same : {A : Type 0} (a b : ℕ) (x y : A) → a ≡ b → cond (eqb a b) x y ≡ x
same a b x y e = cond-true (eqb a b) x y (eq-eqb a b e)

pub other : {A : Type 0} (a b : ℕ) (x y : A) → (a ≡ b → ⊥) → cond (eqb a b) x y ≡ y
other a b x y ne = cond-false (eqb a b) x y (ne_eqb a b ne)

-- the last of a and the numbers
abbrev pub last : ℕ → List ℕ → ℕ
last a [] = a
last a (b ∷ xs) = last b xs

-- the first of the numbers and z
abbrev pub front : List ℕ → ℕ → ℕ
front [] z = z
front (b ∷ xs) z = b

pub last_differs : (c a : ℕ) (xs : List ℕ) → c ≢ a → Lacks c xs → c ≢ last a xs
last_differs c a [] ne lacks = ne
last_differs c a (b ∷ xs) ne lacks = last_differs c b xs lacks.0 lacks.1

pub last_within : (n a : ℕ) (xs : List ℕ) → a ≤ n → AllBelow n xs → last a xs ≤ n
last_within n a [] le below = le
last_within n a (b ∷ xs) le below = last_within n b xs (omega (arith, below.0)) below.1

pub before_end : (z a : ℕ) (xs : List ℕ) → Lacks z xs → before_in z a xs z ≡ last a xs
before_end z a [] lacks = same z z a z refl
before_end z a (b ∷ xs) lacks = other z b a (before_in z b xs z) lacks.0 ∙ before_end z b xs lacks.1

pub after_absent : (x a z : ℕ) (xs : List ℕ) → x ≢ a → Lacks x xs → after_in x a xs z ≡ x
after_absent x a z [] ne lacks = other x a z x ne
after_absent x a z (b ∷ xs) ne lacks = other x a b (after_in x b xs z) ne ∙ after_absent x b z xs lacks.0 lacks.1

pub before_absent : (x a z : ℕ) (xs : List ℕ) → x ≢ z → Lacks x xs → before_in x a xs z ≡ x
before_absent x a z [] ne lacks = other x z a x ne
before_absent x a z (b ∷ xs) ne lacks = other x b a (before_in x b xs z) lacks.0 ∙ before_absent x b z xs ne lacks.1

pub after_first : (a z : ℕ) (xs : List ℕ) → after_in a a xs z ≡ front xs z
after_first a z [] = same a a z a refl
after_first a z (b ∷ xs) = same a a b (after_in a b xs z) refl

-- ---- a number is put last
pub after_pushed : (x i a z : ℕ) (xs : List ℕ) → i ≢ a → Lacks i xs → Lacks a xs → IsDistinct xs
    → after_in x a (xs ++ i ∷ []) z ≡ cond (eqb x i) z (cond (eqb x (last a xs)) i (after_in x a xs z))
after_pushed x i a z [] i≢a lacks out distinct =
    elim (cases_eq x a) [
      | inl e ↦ same x a i (cond (eqb x i) z x) e ∙ sym (same x a i (cond (eqb x a) z x) e) ∙ sym (other x i z _ (λ f. i≢a (sym f ∙ e)))
      | inr ne ↦ other x a i (cond (eqb x i) z x) ne ∙ ap (λ y. cond (eqb x i) z y) (sym (other x a z x ne) ∙ sym (other x a i _ ne))
    ]
after_pushed x i a z (b ∷ ys) i≢a lacks out distinct =
    let more = after_in x b (ys ++ i ∷ []) z in let old = after_in x b ys z in
    elim (cases_eq x a) [
      | inl e ↦ same x a b more e ∙ sym (same x a b old e)
          ∙ sym (other x (last b ys) i _ (λ f. last_differs a b ys out.0 out.1 (sym e ∙ f)))
          ∙ sym (other x i z _ (λ f. i≢a (sym f ∙ e)))
      | inr ne ↦ other x a b more ne ∙ after_pushed x i b z ys lacks.0 lacks.1 distinct.0 distinct.1
          ∙ ap (λ y. cond (eqb x i) z (cond (eqb x (last b ys)) i y)) (sym (other x a b old ne))
    ]

pub before_pushed : (x i a z : ℕ) (xs : List ℕ) → i ≢ z → Lacks i xs → Lacks z xs
    → before_in x a (xs ++ i ∷ []) z ≡ cond (eqb x i) (last a xs) (cond (eqb x z) i (before_in x a xs z))
before_pushed x i a z [] i≢z lacks out =
    ap (λ y. cond (eqb x i) a y) (elim (cases_eq x z) [
      | inl e ↦ same x z i x e ∙ sym (same x z i _ e)
      | inr ne ↦ other x z i x ne ∙ sym (other x z a x ne) ∙ sym (other x z i _ ne)
    ])
before_pushed x i a z (b ∷ ys) i≢z lacks out =
    let more = before_in x b (ys ++ i ∷ []) z in let old = before_in x b ys z in
    elim (cases_eq x b) [
      | inl e ↦ same x b a more e ∙ sym (same x b a old e)
          ∙ sym (other x z i _ (λ f. out.0 (sym f ∙ e)))
          ∙ sym (other x i _ _ (λ f. lacks.0 (sym f ∙ e)))
      | inr ne ↦ other x b a more ne ∙ before_pushed x i b z ys i≢z lacks.1 out.1
          ∙ ap (λ y. cond (eqb x i) (last b ys) (cond (eqb x z) i y)) (sym (other x b a old ne))
    ]

-- ---- a number is left out
pub without_first : (i : ℕ) (xs : List ℕ) → without i (i ∷ xs) ≡ without i xs
without_first i xs = cond-false (not (eqb i i)) (i ∷ without i xs) (without i xs) (ap not (eq-eqb i i refl))

pub without_other : (i b : ℕ) (xs : List ℕ) → i ≢ b → without i (b ∷ xs) ≡ b ∷ without i xs
without_other i b xs ne = cond-true (not (eqb i b)) (b ∷ without i xs) (without i xs) (ap not (ne_eqb i b ne))

pub without_absent : (i : ℕ) (xs : List ℕ) → Lacks i xs → without i xs ≡ xs
without_absent i [] lacks = refl
without_absent i (b ∷ xs) lacks = without_other i b xs lacks.0 ∙ ap (λ l. b ∷ l) (without_absent i xs lacks.1)

pub in_rest : (i b : ℕ) (xs : List ℕ) → i ≢ b → is_in i (b ∷ xs) ≡ true → is_in i xs ≡ true
in_rest i b xs ne here = ap (λ t. t || is_in i xs) (sym (ne_eqb i b ne)) ∙ here

after_differs : (c i a z : ℕ) (xs : List ℕ) → c ≢ z → c ≢ i → Lacks c xs → c ≢ after_in i a xs z
after_differs c i a z [] c≢z c≢i lacks = elim (cases_eq i a) [
  | inl e ↦ λ f. c≢z (f ∙ same i a z i e)
  | inr ne ↦ λ f. c≢i (f ∙ other i a z i ne)
]
after_differs c i a z (b ∷ xs) c≢z c≢i lacks = elim (cases_eq i a) [
  | inl e ↦ λ f. lacks.0 (f ∙ same i a b (after_in i b xs z) e)
  | inr ne ↦ λ f. after_differs c i b z xs c≢z c≢i lacks.1 (f ∙ other i a b (after_in i b xs z) ne)
]

before_differs : (c i a z : ℕ) (xs : List ℕ) → c ≢ a → c ≢ i → Lacks c xs → c ≢ before_in i a xs z
before_differs c i a z [] c≢a c≢i lacks = elim (cases_eq i z) [
  | inl e ↦ λ f. c≢a (f ∙ same i z a i e)
  | inr ne ↦ λ f. c≢i (f ∙ other i z a i ne)
]
before_differs c i a z (b ∷ xs) c≢a c≢i lacks = elim (cases_eq i b) [
  | inl e ↦ λ f. c≢a (f ∙ same i b a (before_in i b xs z) e)
  | inr ne ↦ λ f. before_differs c i b z xs lacks.0 c≢i lacks.1 (f ∙ other i b a (before_in i b xs z) ne)
]

pub after_within : (n i a z : ℕ) (xs : List ℕ) → z ≤ n → i ≤ n → AllBelow n xs → after_in i a xs z ≤ n
after_within n i a z [] z≤n i≤n below = elim (cases_eq i a) [
  | inl e ↦ omega (arith, same i a z i e)
  | inr ne ↦ omega (arith, other i a z i ne)
]
after_within n i a z (b ∷ xs) z≤n i≤n below = elim (cases_eq i a) [
  | inl e ↦ omega (arith, same i a b (after_in i b xs z) e, below.0)
  | inr ne ↦ omega (arith, other i a b (after_in i b xs z) ne, after_within n i b z xs z≤n i≤n below.1)
]

pub before_within : (n i a z : ℕ) (xs : List ℕ) → a ≤ n → i ≤ n → AllBelow n xs → before_in i a xs z ≤ n
before_within n i a z [] a≤n i≤n below = elim (cases_eq i z) [
  | inl e ↦ omega (arith, same i z a i e)
  | inr ne ↦ omega (arith, other i z a i ne)
]
before_within n i a z (b ∷ xs) a≤n i≤n below = elim (cases_eq i b) [
  | inl e ↦ omega (arith, same i b a (before_in i b xs z) e)
  | inr ne ↦ omega (arith, other i b a (before_in i b xs z) ne, before_within n i b z xs (omega (arith, below.0)) i≤n below.1)
]

-- without the first number b, what stands after a is what stood after b, and all else stays
after_skipped : (x b a z : ℕ) (ys : List ℕ) → a ≢ b → Lacks a ys → Lacks b ys
    → after_in x a ys z ≡ cond (eqb x b) x (cond (eqb x a) (front ys z) (cond (eqb x a) b (after_in x b ys z)))
after_skipped x b a z [] a≢b out lacks =
    elim (cases_eq x b) [
      | inl e ↦ other x a z x (λ f. a≢b (sym f ∙ e)) ∙ sym (same x b x _ e)
      | inr ne ↦ elim (cases_eq x a) [
        | inl f ↦ same x a z x f ∙ sym (same x a z _ f) ∙ sym (other x b x _ ne)
        | inr nf ↦ other x a z x nf ∙ sym (other x b z x ne) ∙ sym (other x a b _ nf) ∙ sym (other x a z _ nf) ∙ sym (other x b x _ ne)
      ]
    ]
after_skipped x b a z (c ∷ ys) a≢b out lacks =
    elim (cases_eq x b) [
      | inl e ↦ other x a c (after_in x c ys z) (λ f. a≢b (sym f ∙ e))
          ∙ after_absent x c z ys (λ f. lacks.0 (sym e ∙ f)) (subst (λ k. Lacks k ys) (sym e) lacks.1) ∙ sym (same x b x _ e)
      | inr ne ↦ elim (cases_eq x a) [
        | inl f ↦ same x a c (after_in x c ys z) f ∙ sym (same x a c _ f) ∙ sym (other x b x _ ne)
        | inr nf ↦ other x a c (after_in x c ys z) nf ∙ sym (other x b c (after_in x c ys z) ne) ∙ sym (other x a b _ nf)
            ∙ sym (other x a c _ nf) ∙ sym (other x b x _ ne)
      ]
    ]

before_skipped : (x b a z : ℕ) (ys : List ℕ) → b ≢ z → Lacks b ys
    → before_in x a ys z ≡ cond (eqb x b) x (cond (eqb x (front ys z)) a (cond (eqb x b) a (before_in x b ys z)))
before_skipped x b a z [] b≢z lacks =
    elim (cases_eq x b) [
      | inl e ↦ other x z a x (λ f. b≢z (sym e ∙ f)) ∙ sym (same x b x _ e)
      | inr ne ↦ elim (cases_eq x z) [
        | inl f ↦ same x z a x f ∙ sym (same x z a _ f) ∙ sym (other x b x _ ne)
        | inr nf ↦ other x z a x nf ∙ sym (other x z b x nf) ∙ sym (other x b a _ ne) ∙ sym (other x z a _ nf) ∙ sym (other x b x _ ne)
      ]
    ]
before_skipped x b a z (c ∷ ys) b≢z lacks =
    elim (cases_eq x b) [
      | inl e ↦ before_absent x a z (c ∷ ys) (λ f. b≢z (sym e ∙ f)) (subst (λ k. Lacks k (c ∷ ys)) (sym e) lacks) ∙ sym (same x b x _ e)
      | inr ne ↦ elim (cases_eq x c) [
        | inl f ↦ same x c a (before_in x c ys z) f ∙ sym (same x c a _ f) ∙ sym (other x b x _ ne)
        | inr nf ↦ other x c a (before_in x c ys z) nf ∙ sym (other x c b (before_in x c ys z) nf) ∙ sym (other x b a _ ne)
            ∙ sym (other x c a _ nf) ∙ sym (other x b x _ ne)
      ]
    ]

pub after_without : (x i a z : ℕ) (xs : List ℕ) → i ≢ a → is_in i xs ≡ true → Lacks a xs → IsDistinct xs
    → after_in x a (without i xs) z ≡ cond (eqb x i) x (cond (eqb x (before_in i a xs z)) (after_in i a xs z) (after_in x a xs z))
after_without x i a z [] i≢a here out distinct = cc
after_without x i a z (b ∷ ys) i≢a here out distinct =
    let P = before_in i a (b ∷ ys) z in let Q = after_in i a (b ∷ ys) z in
    let old = after_in x a (b ∷ ys) z in
    elim (cases_eq i b) [
      | inl e ↦
          let left_out = ap (λ k. without k (b ∷ ys)) e ∙ without_first b ys ∙ without_absent b ys distinct.0 in
          let before_it = same i b a (before_in i b ys z) e in
          let after_it = other i a b (after_in i b ys z) i≢a ∙ ap (λ k. after_in k b ys z) e ∙ after_first b z ys in
          ap (λ l. after_in x a l z) left_out ∙ after_skipped x b a z ys out.0 out.1 distinct.0
          ∙ ap (λ k. cond (eqb x k) x (cond (eqb x a) (front ys z) old)) (sym e)
          ∙ ap (λ p. cond (eqb x i) x (cond (eqb x p) (front ys z) old)) (sym before_it)
          ∙ ap (λ q. cond (eqb x i) x (cond (eqb x P) q old)) (sym after_it)
      | inr ne ↦
          let P' = before_in i b ys z in let Q' = after_in i b ys z in
          let kept = without_other i b ys ne in
          let before_it = other i b a P' ne in
          let after_it = other i a b Q' i≢a in
          let more = after_in x b (without i ys) z in
          let step : cond (eqb x a) b more ≡ cond (eqb x i) x (cond (eqb x P') Q' old) = elim (cases_eq x a) [
            | inl f ↦ same x a b more f ∙ sym (same x a b (after_in x b ys z) f)
                ∙ sym (other x P' Q' _ (λ g. before_differs a i b z ys out.0 (λ h. i≢a (sym h)) out.1 (sym f ∙ g)))
                ∙ sym (other x i x _ (λ g. i≢a (sym g ∙ f)))
            | inr nf ↦ other x a b more nf ∙ after_without x i b z ys ne (in_rest i b ys ne here) distinct.0 distinct.1
                ∙ ap (λ y. cond (eqb x i) x (cond (eqb x P') Q' y)) (sym (other x a b (after_in x b ys z) nf))
          ] in
          ap (λ l. after_in x a l z) kept ∙ step
          ∙ ap (λ p. cond (eqb x i) x (cond (eqb x p) Q' old)) (sym before_it)
          ∙ ap (λ q. cond (eqb x i) x (cond (eqb x P) q old)) (sym after_it)
    ]

pub before_without : (x i a z : ℕ) (xs : List ℕ) → i ≢ a → i ≢ z → is_in i xs ≡ true → Lacks z xs → IsDistinct xs
    → before_in x a (without i xs) z ≡ cond (eqb x i) x (cond (eqb x (after_in i a xs z)) (before_in i a xs z) (before_in x a xs z))
before_without x i a z [] i≢a i≢z here out distinct = cc
before_without x i a z (b ∷ ys) i≢a i≢z here out distinct =
    let P = before_in i a (b ∷ ys) z in let Q = after_in i a (b ∷ ys) z in
    let old = before_in x a (b ∷ ys) z in
    elim (cases_eq i b) [
      | inl e ↦
          let left_out = ap (λ k. without k (b ∷ ys)) e ∙ without_first b ys ∙ without_absent b ys distinct.0 in
          let before_it = same i b a (before_in i b ys z) e in
          let after_it = other i a b (after_in i b ys z) i≢a ∙ ap (λ k. after_in k b ys z) e ∙ after_first b z ys in
          ap (λ l. before_in x a l z) left_out ∙ before_skipped x b a z ys (λ f. i≢z (e ∙ f)) distinct.0
          ∙ ap (λ k. cond (eqb x k) x (cond (eqb x (front ys z)) a old)) (sym e)
          ∙ ap (λ p. cond (eqb x i) x (cond (eqb x (front ys z)) p old)) (sym before_it)
          ∙ ap (λ q. cond (eqb x i) x (cond (eqb x q) P old)) (sym after_it)
      | inr ne ↦
          let P' = before_in i b ys z in let Q' = after_in i b ys z in
          let kept = without_other i b ys ne in
          let before_it = other i b a P' ne in
          let after_it = other i a b Q' i≢a in
          let more = before_in x b (without i ys) z in
          let step : cond (eqb x b) a more ≡ cond (eqb x i) x (cond (eqb x Q') P' old) = elim (cases_eq x b) [
            | inl f ↦ same x b a more f ∙ sym (same x b a (before_in x b ys z) f)
                ∙ sym (other x Q' P' _ (λ g. after_differs b i b z ys (λ h. out.0 (sym h)) (λ h. ne (sym h)) distinct.0 (sym f ∙ g)))
                ∙ sym (other x i x _ (λ g. ne (sym g ∙ f)))
            | inr nf ↦ other x b a more nf ∙ before_without x i b z ys ne i≢z (in_rest i b ys ne here) out.1 distinct.1
                ∙ ap (λ y. cond (eqb x i) x (cond (eqb x Q') P' y)) (sym (other x b a (before_in x b ys z) nf))
          ] in
          ap (λ l. before_in x a l z) kept ∙ step
          ∙ ap (λ p. cond (eqb x i) x (cond (eqb x Q') p old)) (sym before_it)
          ∙ ap (λ q. cond (eqb x i) x (cond (eqb x q) P old)) (sym after_it)
    ]

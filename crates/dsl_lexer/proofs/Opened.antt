-- The opened widths, line by line.
use Rattle.std.proofs.Common.{◌≡◌, ℕ, suc, Bool, true, false, cond, ◌&&◌, List, [], ◌∷◌, zero, refl, ap, ◌∙◌, arith}
use Rattle.std.specs.Prelude.{nat_lt, filter}
use Rattle.std.specs.List.{list_all}
use Rattle.std.proofs.lemmas.Bool.{lt-ltb, ne_eqb}
use Rattle.dsl_lexer.specs.Layout.{opened_since, opened}
use Rattle.dsl_lexer.specs.Steps.{with_width, opened_behind}

-- the later lines are those, and one of width w
abbrev Adds : ℕ → List ℕ → List ℕ → Type 0
Adds w since more = (v : ℕ) → list_all (λ u. nat_lt v u) more ≡ (nat_lt v w && list_all (λ u. nat_lt v u) since)

swapped : (a b c : Bool) → (a && (b && c)) ≡ (b && (a && c))
swapped true b c = refl
swapped false true c = refl
swapped false false c = refl

Adds-cons : (u w : ℕ) (since more : List ℕ) → Adds w since more → Adds w (u ∷ since) (u ∷ more)
Adds-cons u w since more h v = ap (λ t. nat_lt v u && t) (h v) ∙ swapped (nat_lt v u) (nat_lt v w) (list_all (λ u. nat_lt v u) since)

abbrev put : Bool → ℕ → List ℕ → List ℕ
put t u rest = cond t (u ∷ rest) rest

put_filter : (p : ℕ → Bool) (a b : Bool) (u : ℕ) (rest : List ℕ) → put (a && (p u && b)) u (filter p rest) ≡ filter p (put (a && b) u rest)
put_filter p false b u rest = refl
put_filter p true true u rest = elim_it (p u) refl
  where
    elim_it : (t : Bool) → p u ≡ t → put (p u && true) u (filter p rest) ≡ filter p (u ∷ rest)
    elim_it true e = rw e refl
    elim_it false e = rw e refl
put_filter p true false u rest = elim_it (p u)
  where
    elim_it : (t : Bool) → put (t && false) u (filter p rest) ≡ filter p rest
    elim_it true = refl
    elim_it false = refl

added : (w : ℕ) (since more earlier : List ℕ) → Adds w since more → opened_since more earlier ≡ filter (λ v. nat_lt v w) (opened_since since earlier)
added w since more [] h = refl
added w since more (u ∷ earlier) h =
    let rest = added w (u ∷ since) (u ∷ more) earlier (Adds-cons u w since more h) in
    ap (λ t. put (nat_lt 0 u && t) u (opened_since (u ∷ more) earlier)) (h u)
    ∙ ap (λ r. put (nat_lt 0 u && (nat_lt u w && list_all (λ v. nat_lt u v) since)) u r) rest
    ∙ put_filter (λ v. nat_lt v w) (nat_lt 0 u) (list_all (λ v. nat_lt u v) since) u (opened_since (u ∷ since) earlier)

-- after a line the opened widths are its own, and the narrower ones
pub opened-cons : (w : ℕ) (earlier : List ℕ) → opened (w ∷ earlier) ≡ opened_behind w (opened earlier)
opened-cons w earlier =
    ap (λ r. put (nat_lt 0 w && true) w r) (added w [] (w ∷ []) earlier (λ v. refl)) ∙ go w (filter (λ v. nat_lt v w) (opened earlier))
  where
    go : (w : ℕ) (rest : List ℕ) → put (nat_lt 0 w && true) w rest ≡ with_width w rest
    go zero rest = refl
    go (suc n) rest = rw (lt-ltb 0 (suc n) (omega arith), ne_eqb (suc n) 0 (λ e. absurd (omega arith))) refl

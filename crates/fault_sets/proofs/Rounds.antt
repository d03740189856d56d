-- Rounds in which types are reached.
use Rattle.std.proofs.Common.{◌≡◌, ◌∙◌, refl, sym, ap, ℕ, zero, suc, ◌+◌, ◌-◌, ◌<◌, ◌≤◌, List, [], ◌∷◌, ◌++◌, flat_map, length, append-nil, arith}
use Rattle.type_heads.specs.Members.{has}
use Rattle.type_heads.specs.Cycles.{fresh, reached}
use Rattle.fault_sets.specs.Reaching.{AddsFresh, HasNumbers}

-- nothing new is found
pub settled : (step : ℕ → List ℕ) (rounds : ℕ) (found : List ℕ) → reached rounds step found [] ≡ found
settled step zero found = refl
settled step (suc rounds) found = refl

one_round : (step : ℕ → List ℕ) (rounds : ℕ) (found new : List ℕ) →
    reached (suc rounds) step found new ≡ reached rounds step (found ++ new) (fresh (found ++ new) (flat_map step new))
one_round step rounds found [] = sym (append-nil found) ∙ sym (settled step rounds (found ++ []))
one_round step rounds found (x ∷ xs) = refl

-- one round more
pub next_round : (step : ℕ → List ℕ) (rounds i : ℕ) (found new next goal : List ℕ) → i < rounds → next ≡ flat_map step new → goal ≡ reached (rounds - i) step found new →
    goal ≡ reached (rounds - (i + 1)) step (found ++ new) (fresh (found ++ new) next)
next_round step rounds i found new next goal less is rest =
    let e : rounds - i ≡ suc (rounds - (i + 1)) = omega (arith, less) in
    rest ∙ ap (λ k. reached k step found new) e ∙ one_round step (rounds - (i + 1)) found new
    ∙ ap (λ ns. reached (rounds - (i + 1)) step (found ++ new) (fresh (found ++ new) ns)) (sym is)

-- the rounds are over
pub no_round : (step : ℕ → List ℕ) (rounds i : ℕ) (found new goal : List ℕ) → rounds ≤ i → goal ≡ reached (rounds - i) step found new → goal ≡ found
no_round step rounds i found new goal more rest =
    let e : rounds - i ≡ 0 = omega (arith, more) in
    rest ∙ ap (λ k. reached k step found new) e

-- what is new is met
pub new_met : (met met' found found' new new' next : List ℕ) → AddsFresh met [] next met' new' → found' ≡ found ++ new → HasNumbers met (found ++ new) →
    (new' ≡ fresh (found ++ new) next) × HasNumbers met' (found' ++ new')
new_met met met' found found' new new' next one is same =
    let a = one (found ++ new) same in
    (a.0, λ n. a.1 n ∙ ap (λ fs. has n (fs ++ fresh (found ++ new) next)) (sym is) ∙ ap (λ ns. has n (found' ++ ns)) (sym a.0))

-- the first types are met
pub first_met : (met met' new types : List ℕ) → met ≡ [] → AddsFresh met [] types met' new → (new ≡ fresh [] types) × HasNumbers met' new
first_met met met' new types none one =
    let a = one [] (λ n. ap (has n) none) in
    (a.0, λ n. a.1 n ∙ ap (has n) (sym a.0))

-- what is left, when some types are found and others are new
pub record RoundsLeft (step : ℕ → List ℕ) (goal : List ℕ) (left : ℕ) (met found new : List ℕ) : Type 0 where
  pub has : HasNumbers met (found ++ new)
  pub rest : goal ≡ reached left step found new

pub round_more : (step : ℕ → List ℕ) (rounds i : ℕ) (goal met met' found found' new new' next a b d : List ℕ) → i < rounds →
    a ≡ new → next ≡ flat_map step a → b ≡ new → found' ≡ found ++ b → d ≡ next → AddsFresh met [] d met' new' →
    RoundsLeft step goal (rounds - i) met found new → RoundsLeft step goal (rounds - (i + 1)) met' found' new'
round_more step rounds i goal met met' found found' new new' next a b d less a_is next_is b_is found_is d_is one l =
    let found_all : found' ≡ found ++ new = found_is ∙ ap (λ ns. found ++ ns) b_is in
    let next_all : d ≡ flat_map step new = d_is ∙ next_is ∙ ap (flat_map step) a_is in
    let more = new_met met met' found found' new new' d one found_all l.has in
    record {
      has = more.1;
      rest = next_round step rounds i found new d goal less next_all l.rest
          ∙ ap (λ fs. reached (rounds - (i + 1)) step fs (fresh (found ++ new) d)) (sym found_all)
          ∙ ap (λ ns. reached (rounds - (i + 1)) step found' ns) (sym more.0);
    }

pub none_of : (xs : List ℕ) → length xs ≡ 0 → xs ≡ []
none_of [] h = refl
none_of (x ∷ xs) h = absurd (omega (arith, h))

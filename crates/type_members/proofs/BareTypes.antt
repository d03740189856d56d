-- Types through which no member comes down.
use Rattle.std.proofs.Common.{◌≡◌, ◌≢◌, ◌∙◌, refl, sym, ap, subst, true≢false, ℕ, zero, suc, ◌+◌, ◌<◌, ◌≤◌, ◌⊎◌, inl, inr, Bool, true, false, nat_eq, List, [], ◌∷◌, ◌++◌, arith, map, length, slice_index_or}
use Rattle.std.specs.Prelude.{flat_map}
use Rattle.std.specs.List.{list_all}
use Rattle.std.proofs.lemmas.Bool.Decides.{eqb_tells}
use Rattle.type_heads.specs.Table.{TypeHead}
use Rattle.type_heads.specs.Types.{TypeBody}
use Rattle.type_heads.specs.Members.{body, Line, line_of, through, subtypes, down_within}
use Rattle.type_members.specs.Cutting.{AreBare, IsBare}
use Rattle.type_members.specs.Listed.{AreSubtypes}
use Rattle.type_members.proofs.ListTests.{both}

none_below : (p : ℕ → Bool) (f : ℕ → List Line) → ((c : ℕ) → p c ≡ true → f c ≡ []) → (cs : List ℕ) → list_all p cs ≡ true → flat_map f cs ≡ []
none_below p f each [] all = refl
none_below p f each (c ∷ cs) all =
    let parts : (p c ≡ true) × (list_all p cs ≡ true) = both (p c) (list_all p cs) all in
    ap (λ ls. ls ++ flat_map f cs) (each c parts.0) ∙ none_below p f each cs parts.1

pub none_down : (heads : List TypeHead) (bodies : List TypeBody) (lists : List (List ℕ)) (flags : List Bool) → AreSubtypes heads bodies lists → AreBare bodies lists flags → (steps t : ℕ) →
    slice_index_or flags t false ≡ true → down_within steps heads bodies t ≡ []
none_down heads bodies lists flags are bare zero t is = refl
none_down heads bodies lists flags are bare (suc steps) t is =
    let one : IsBare bodies lists flags t = bare t is in
    let f : ℕ → List Line = λ c. map (through c) (down_within steps heads bodies c) in
    let below : flat_map f (subtypes heads bodies t) ≡ [] =
    ap (flat_map f) (sym (are t))
    ∙ none_below (λ c. slice_index_or flags c false) f (λ c h. ap (map (through c)) (none_down heads bodies lists flags are bare steps c h)) (slice_index_or lists t []) one.below in
    ap (λ ws. (map (line_of t) ws ++ flat_map f (subtypes heads bodies t)) ++ map (line_of t) (body bodies t).more) one.own
    ∙ ap (λ ls. ls ++ map (line_of t) (body bodies t).more) below
    ∙ ap (map (line_of t)) one.more

-- what is so of each type before one, and of that one, is so of each before the next
pub right_more : (bodies : List TypeBody) (lists : List (List ℕ)) (flags : List Bool) (n : ℕ) → ((t : ℕ) → t < n → slice_index_or flags t false ≡ true → IsBare bodies lists flags t) →
    (slice_index_or flags n false ≡ true → IsBare bodies lists flags n) → (t : ℕ) → t < n + 1 → slice_index_or flags t false ≡ true → IsBare bodies lists flags t
right_more bodies lists flags n before here t less is = by (eqb_tells t n)
  where
    by : ((nat_eq t n ≡ true) × (t ≡ n)) ⊎ ((nat_eq t n ≡ false) × (t ≢ n)) → IsBare bodies lists flags t
    by (inl (e, same)) = subst (IsBare bodies lists flags) (sym same) (here (ap (λ k. slice_index_or flags k false) (sym same) ∙ is))
    by (inr (e, other)) = before t (omega (arith, less, other)) is

-- a type that is flagged has a flag
pub all_right : (bodies : List TypeBody) (lists : List (List ℕ)) (flags : List Bool) (n : ℕ) → length flags ≤ n →
    ((t : ℕ) → t < n → slice_index_or flags t false ≡ true → IsBare bodies lists flags t) → AreBare bodies lists flags
all_right bodies lists flags n few each = λ t is. each t (flagged flags t n few is) is
  where
    flagged : (flags : List Bool) (t n : ℕ) → length flags ≤ n → slice_index_or flags t false ≡ true → t < n
    flagged [] t n few is = absurd (true≢false (sym is))
    flagged (f ∷ flags) zero n few is = omega (arith, few)
    flagged (f ∷ flags) (suc t) zero few is = absurd (omega (arith, few))
    flagged (f ∷ flags) (suc t) (suc n) few is = let less : t < n = flagged flags t n (omega (arith, few)) is in omega (arith, less)

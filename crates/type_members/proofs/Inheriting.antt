-- A type that inherits has the members of its base, but for those under it, and then its own.
use Rattle.std.proofs.Common.{◌≡◌, ◌≢◌, ◌∙◌, refl, sym, ap, ℕ, zero, suc, ◌+◌, ◌<◌, ◌≤◌, ◌⊎◌, inl, inr, ◌||◌, Bool, true, false, not, cond, List, [], ◌∷◌, ◌++◌, Option, Some, None, arith, map, length, filter, nat_eq}
use Rattle.std.specs.Prelude.{flat_map, option_to_list}
use Rattle.std.specs.List.{list_all}
use Rattle.std.proofs.lemmas.List.{append-nil, map-append}
use Rattle.std.proofs.lemmas.Bool.Decides.{eqb_tells}
use Rattle.type_heads.specs.Table.{TypeHead, base, bases, line_within}
use Rattle.type_heads.specs.Types.{TypeBody, Member}
use Rattle.type_heads.specs.Members.{has, Line, through, is_conditional, down, down_within, lines_within, member_of, members_of}
use Rattle.type_members.specs.Ancestry.{HasEnd}
use Rattle.type_members.specs.RowEnds.{is_under, own_part}
use Rattle.type_members.proofs.Ancestry.{end_more, line_stable, off_line}
use Rattle.type_members.proofs.Downward.{all_down, all_lines}
use Rattle.type_members.proofs.ListTests.{all_same, both, neither, not_true}

-- A type that inherits from none

lines_none : (heads : List TypeHead) (bodies : List TypeBody) (n t : ℕ) → n ≡ length heads → base heads t ≡ None → lines_within n heads bodies t ≡ down heads bodies t
lines_none heads bodies zero t all none = ap (λ n. down_within n heads bodies t) all
lines_none heads bodies (suc n) t all none =
    ap (λ o. flat_map (λ b. filter (λ l. not (has t l.through)) (lines_within n heads bodies b)) (option_to_list o) ++ down heads bodies t) none

pub members_none : (heads : List TypeHead) (bodies : List TypeBody) (t : ℕ) → base heads t ≡ None → members_of heads bodies t ≡ own_part heads bodies t
members_none heads bodies t none = ap (map (member_of (t ∷ bases heads t))) (lines_none heads bodies (length heads) t refl none)

-- The lines of a type that inherits

lines_stable : (heads : List TypeHead) (bodies : List TypeBody) (d n t : ℕ) → HasEnd heads (Some t) d → d ≤ n → lines_within n heads bodies t ≡ lines_within (suc n) heads bodies t
lines_stable heads bodies zero n t end le = absurd end
lines_stable heads bodies (suc d) zero t end le = absurd (omega (arith, le))
lines_stable heads bodies (suc d) (suc n) t end le = by (base heads t) end (λ b e. lines_stable heads bodies d n b e (omega (arith, le)))
  where
    far : ℕ → Option ℕ → List Line
    far n o = flat_map (λ b. filter (λ l. not (has t l.through)) (lines_within n heads bodies b)) (option_to_list o)

    by : (o : Option ℕ) → HasEnd heads o d → ((b : ℕ) → HasEnd heads (Some b) d → lines_within n heads bodies b ≡ lines_within (suc n) heads bodies b) →
        far n o ++ down heads bodies t ≡ far (suc n) o ++ down heads bodies t
    by None e on = refl
    by (Some b) e on = ap (λ ls. (filter (λ l. not (has t l.through)) ls ++ []) ++ down heads bodies t) (on b e)

-- those of its base that don't come through it
abbrev beside : ℕ → List Line → List Line
beside u ls = filter (λ l. not (has u l.through)) ls

lines_more : (heads : List TypeHead) (bodies : List TypeBody) (n t u d : ℕ) → base heads u ≡ Some t → HasEnd heads (Some t) d → d < n →
    lines_within n heads bodies u ≡ beside u (lines_within n heads bodies t) ++ down heads bodies u
lines_more heads bodies zero t u d is end below = absurd (omega (arith, below))
lines_more heads bodies (suc n) t u d is end below =
    ap (λ o. flat_map (λ b. beside u (lines_within n heads bodies b)) (option_to_list o) ++ down heads bodies u) is
    ∙ ap (λ ls. ls ++ down heads bodies u) (append-nil (beside u (lines_within n heads bodies t)))
    ∙ ap (λ ls. beside u ls ++ down heads bodies u) (lines_stable heads bodies d n t end (omega (arith, below)))

pub line_more : (heads : List TypeHead) (n t u d : ℕ) → base heads u ≡ Some t → HasEnd heads (Some t) d → d < n →
    line_within n heads (base heads u) ≡ t ∷ line_within n heads (base heads t)
line_more heads zero t u d is end below = absurd (omega (arith, below))
line_more heads (suc n) t u d is end below = ap (line_within (suc n) heads) is ∙ line_stable heads d (suc n) (Some t) end (omega (arith, below))

-- What members are under

pub same_number : (a b : ℕ) → nat_eq a b ≡ false → nat_eq b a ≡ false
same_number a b e = by (eqb_tells b a)
  where
    by : ((nat_eq b a ≡ true) × (b ≡ a)) ⊎ ((nat_eq b a ≡ false) × (b ≢ a)) → nat_eq b a ≡ false
    by (inl (f, same)) = let never : false ≡ true = sym e ∙ ap (nat_eq a) same ∙ ap (λ x. nat_eq x a) (sym same) ∙ f in cc
    by (inr (f, apart)) = f

under_same : (u : ℕ) (line cs : List ℕ) → has u cs ≡ false → filter (λ c. not (has c (u ∷ line))) cs ≡ filter (λ c. not (has c line)) cs
under_same u line [] none = refl
under_same u line (c ∷ cs) none =
    let parts : (nat_eq u c ≡ false) × (has u cs ≡ false) = neither (nat_eq u c) (has u cs) none in
    let rest : List ℕ = filter (λ c. not (has c (u ∷ line))) cs in
    ap (λ b. cond (not (b || has c line)) (c ∷ rest) rest) (same_number u c parts.0)
    ∙ ap (λ rest. cond (not (has c line)) (c ∷ rest) rest) (under_same u line cs parts.1)

-- a type that isn't on the line is left under members
pub under_kept : (u : ℕ) (line cs : List ℕ) → has u line ≡ false → has u (filter (λ c. not (has c line)) cs) ≡ has u cs
under_kept u line [] off = refl
under_kept u line (c ∷ cs) off = by (eqb_tells u c) (has c line) refl (under_kept u line cs off)
  where
    rest : List ℕ
    rest = filter (λ c. not (has c line)) cs

    by : ((nat_eq u c ≡ true) × (u ≡ c)) ⊎ ((nat_eq u c ≡ false) × (u ≢ c)) → (b : Bool) → has c line ≡ b → has u rest ≡ has u cs →
        has u (cond (not b) (c ∷ rest) rest) ≡ (nat_eq u c || has u cs)
    by at false is on = ap (λ b. nat_eq u c || b) on
    by (inl (e, same)) true is on = let never : false ≡ true = sym off ∙ ap (λ x. has x line) same ∙ is in cc
    by (inr (e, other)) true is on = on ∙ ap (λ b. b || has u cs) (sym e)

-- the members of the base that aren't under the type are those of the lines that don't come through it
members_beside : (u : ℕ) (line : List ℕ) (ls : List Line) → has u line ≡ false →
    map (member_of (u ∷ line)) (beside u ls) ≡ filter (λ m. not (is_under u m)) (map (member_of line) ls)
members_beside u line [] off = refl
members_beside u line (l ∷ ls) off =
    by (has u l.through) refl (members_beside u line ls off)
    ∙ ap (λ b. cond (not b) (member_of line l ∷ filter (λ m. not (is_under u m)) (map (member_of line) ls)) (filter (λ m. not (is_under u m)) (map (member_of line) ls)))
    (sym (under_kept u line l.through off))
  where
    rest : List Member
    rest = filter (λ m. not (is_under u m)) (map (member_of line) ls)

    by : (b : Bool) → has u l.through ≡ b → map (member_of (u ∷ line)) (beside u ls) ≡ rest →
        map (member_of (u ∷ line)) (cond (not b) (l ∷ beside u ls) (beside u ls)) ≡ cond (not b) (member_of line l ∷ rest) rest
    by true is on = on
    by false is on =
        ap (λ us. record { written = l.written; holder = l.holder; under = us } ∷ map (member_of (u ∷ line)) (beside u ls)) (under_same u line l.through is)
        ∙ ap (λ ms. member_of line l ∷ ms) on

-- Members

pub off_base : (heads : List TypeHead) (t u d : ℕ) → base heads u ≡ Some t → HasEnd heads (Some t) d → has u (line_within (suc (length heads)) heads (Some t)) ≡ false
off_base heads t u d is end = off_line heads (suc (length heads)) d u (d + 1) (Some t) end (end_more heads t u d is end) (omega arith)

pub members_less : (heads : List TypeHead) (bodies : List TypeBody) (t u d : ℕ) → base heads u ≡ Some t → HasEnd heads (Some t) d → d < length heads →
    members_of heads bodies u ≡ filter (λ m. not (is_under u m)) (members_of heads bodies t) ++ own_part heads bodies u
members_less heads bodies t u d is end below =
    let near : List Line = lines_within (length heads) heads bodies t in
    let line : List ℕ = u ∷ bases heads u in
    ap (map (member_of line)) (lines_more heads bodies (length heads) t u d is end below)
    ∙ map-append (member_of line) (beside u near) (down heads bodies u)
    ∙ ap (λ ts. map (member_of (u ∷ ts)) (beside u near) ++ own_part heads bodies u) (line_more heads (length heads) t u d is end below)
    ∙ ap (λ ms. ms ++ own_part heads bodies u) (members_beside u (t ∷ bases heads t) near (off_base heads t u d is end))

-- A type that inherits without a condition

module _ (heads : List TypeHead) (bodies : List TypeBody) (u : ℕ) (unconditional : is_conditional bodies u ≡ false) where
  other_than : (c : ℕ) → is_conditional bodies c ≡ true → nat_eq u c ≡ false
  other_than c is = by (eqb_tells u c)
    where
      by : ((nat_eq u c ≡ true) × (u ≡ c)) ⊎ ((nat_eq u c ≡ false) × (u ≢ c)) → nat_eq u c ≡ false
      by (inl (e, same)) = let never : false ≡ true = sym unconditional ∙ ap (is_conditional bodies) same ∙ is in cc
      by (inr (e, apart)) = e

  -- nothing comes through it
  free_down : (steps t : ℕ) → list_all (λ l. not (has u l.through)) (down_within steps heads bodies t) ≡ true
  free_down zero t = refl
  free_down (suc steps) t =
      all_down heads bodies (λ l. not (has u l.through)) steps t (λ w. refl)
      (λ c is on.
      all_same (λ l. not (has u (through c l).through)) (λ l. not (has u l.through)) (λ l. ap (λ b. not (b || has u l.through)) (other_than c is))
      (down_within steps heads bodies c)
      ∙ free_down steps c)

free_members : (u : ℕ) (line : List ℕ) (ls : List Line) → has u line ≡ false → list_all (λ l. not (has u l.through)) ls ≡ true →
    filter (λ m. not (is_under u m)) (map (member_of line) ls) ≡ map (member_of line) ls
free_members u line [] off f = refl
free_members u line (l ∷ ls) off f =
    let parts : (not (has u l.through) ≡ true) × (list_all (λ l. not (has u l.through)) ls ≡ true) = both (not (has u l.through)) (list_all (λ l. not (has u l.through)) ls) f in
    let rest : List Member = filter (λ m. not (is_under u m)) (map (member_of line) ls) in
    ap (λ b. cond (not b) (member_of line l ∷ rest) rest) (under_kept u line l.through off ∙ not_true (has u l.through) parts.0)
    ∙ ap (λ ms. member_of line l ∷ ms) (free_members u line ls off parts.1)

pub members_more : (heads : List TypeHead) (bodies : List TypeBody) (t u d : ℕ) → base heads u ≡ Some t → is_conditional bodies u ≡ false → HasEnd heads (Some t) d → d < length heads →
    members_of heads bodies u ≡ members_of heads bodies t ++ own_part heads bodies u
members_more heads bodies t u d is unconditional end below =
    members_less heads bodies t u d is end below
    ∙ ap (λ ms. ms ++ own_part heads bodies u)
    (free_members u (t ∷ bases heads t) (lines_within (length heads) heads bodies t) (off_base heads t u d is end)
    (all_lines heads bodies (λ l. not (has u l.through)) (length heads) t d end (λ x e le h. free_down heads bodies u unconditional (length heads) x)))

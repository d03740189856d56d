-- Tests that hold of all members that come down from a type, or from those that it inherits from.
use Rattle.std.proofs.Common.{◌≡◌, ◌∙◌, refl, sym, ap, ℕ, zero, suc, ◌+◌, ◌<◌, ◌≤◌, ◌&&◌, ◌||◌, Bool, true, false, not, List, [], ◌∷◌, ◌++◌, Option, Some, None, arith, map, filter, length, nat_eq}
use Rattle.std.specs.Prelude.{flat_map, option_to_list}
use Rattle.std.specs.Option.{option_map_or}
use Rattle.std.specs.List.{list_all}
use Rattle.std.proofs.lemmas.List.Folds.{list_all-map}
use Rattle.std.proofs.lemmas.Bool.Decides.{nat_tests}
use Rattle.type_heads.specs.Table.{TypeHead, all_types, base, bases}
use Rattle.type_heads.specs.Types.{Written, TypeBody}
use Rattle.type_heads.specs.Members.{has, body, Line, line_of, through, is_conditional, subtypes, down, down_within, lines_within, member_of}
use Rattle.type_members.specs.Ancestry.{HasEnd}
use Rattle.type_members.specs.RowEnds.{own_part}
use Rattle.type_members.proofs.Ancestry.{apart, end_more, off_line}
use Rattle.type_members.proofs.ListTests.{all_append, all_filtered, all_flat, all_kept, all_same, all_always, both}

-- the base of a type, if a test tells it
pub base_is : (t : ℕ) (o : Option ℕ) → option_map_or (nat_eq t) o false ≡ true → o ≡ Some t
base_is t None e = let never : false ≡ true = e in cc
base_is t (Some b) e = let same : b ≡ t = grind (arith, nat_tests) in ap Some same

module _ (heads : List TypeHead) (bodies : List TypeBody) where
  -- a test that holds of what comes down from a type, since it holds of its own members and of what comes down from its conditional subtypes
  pub all_down : (p : Line → Bool) (steps t : ℕ) → ((w : Written) → p (line_of t w) ≡ true) →
      ((c : ℕ) → is_conditional bodies c ≡ true → base heads c ≡ Some t → list_all (λ l. p (through c l)) (down_within steps heads bodies c) ≡ true) →
      list_all p (down_within (suc steps) heads bodies t) ≡ true
  all_down p steps t own below =
      let first : List Line = map (line_of t) (body bodies t).own in
      let between : List Line = flat_map (λ c. map (through c) (down_within steps heads bodies c)) (subtypes heads bodies t) in
      let last : List Line = map (line_of t) (body bodies t).more in
      all_append p (first ++ between) last
      (all_append p first between (written (body bodies t).own)
      (all_flat p (λ c. map (through c) (down_within steps heads bodies c)) (λ c. is_conditional bodies c && option_map_or (nat_eq t) (base heads c) false) one (all_types heads)))
      (written (body bodies t).more)
    where
      written : (ws : List Written) → list_all p (map (line_of t) ws) ≡ true
      written ws = list_all-map p (line_of t) ws ∙ all_always (λ w. p (line_of t w)) own ws

      one : (c : ℕ) → (is_conditional bodies c && option_map_or (nat_eq t) (base heads c) false) ≡ true → list_all p (map (through c) (down_within steps heads bodies c)) ≡ true
      one c is =
          let parts : (is_conditional bodies c ≡ true) × (option_map_or (nat_eq t) (base heads c) false ≡ true) =
          both (is_conditional bodies c) (option_map_or (nat_eq t) (base heads c) false) is in
          list_all-map p (through c) (down_within steps heads bodies c) ∙ below c parts.0 (base_is t (base heads c) parts.1)

  -- a test that holds of what comes down from each type of a line
  pub all_lines : (p : Line → Bool) (n t d : ℕ) → HasEnd heads (Some t) d →
      ((x e : ℕ) → e ≤ d → HasEnd heads (Some x) e → list_all p (down heads bodies x) ≡ true) → list_all p (lines_within n heads bodies t) ≡ true
  all_lines p zero t d end each = refl
  all_lines p (suc n) t zero end each = absurd end
  all_lines p (suc n) t (suc d) end each =
      all_append p (far (base heads t)) (down heads bodies t)
      (by (base heads t) end (λ b h. all_lines p n b d h (λ x e le k. each x e (omega (arith, le)) k)))
      (each t (suc d) (omega arith) end)
    where
      far : Option ℕ → List Line
      far o = flat_map (λ b. filter (λ l. not (has t l.through)) (lines_within n heads bodies b)) (option_to_list o)

      by : (o : Option ℕ) → HasEnd heads o d → ((b : ℕ) → HasEnd heads (Some b) d → list_all p (lines_within n heads bodies b) ≡ true) → list_all p (far o) ≡ true
      by None h on = refl
      by (Some b) h on =
          all_append p (filter (λ l. not (has t l.through)) (lines_within n heads bodies b)) []
          (all_filtered p (λ l. not (has t l.through)) (lines_within n heads bodies b) (on b h)) refl

  -- what comes down from a type comes through types with longer lines alone
  pub all_through : (p : ℕ → Bool) (steps t d : ℕ) → HasEnd heads (Some t) d → ((x e : ℕ) → d < e → HasEnd heads (Some x) e → p x ≡ true) →
      list_all (λ l. list_all p l.through) (down_within steps heads bodies t) ≡ true
  all_through p zero t d end each = refl
  all_through p (suc steps) t d end each =
      all_down (λ l. list_all p l.through) steps t (λ w. refl)
      (λ c is on.
      all_same (λ l. list_all p (through c l).through) (λ l. list_all p l.through)
      (λ l. ap (λ b. b && list_all p l.through) (each c (d + 1) (omega arith) (end_more heads t c d on end))) (down_within steps heads bodies c)
      ∙ all_through p steps c (d + 1) (end_more heads t c d on end) (λ x e less h. each x e (omega (arith, less)) h))

  -- what comes down from a type, if its line ends, comes through none of its line
  pub off_own_line : (t d x e : ℕ) → HasEnd heads (Some t) d → d < e → HasEnd heads (Some x) e → not (has x (t ∷ bases heads t)) ≡ true
  off_own_line t zero x e end less deep = absurd end
  off_own_line t (suc d) x e end less deep =
      ap (λ b. not (b || has x (bases heads t))) (apart heads x t e (suc d) deep end less)
      ∙ ap not (off_line heads (length heads) d x e (base heads t) end deep (omega (arith, less)))

  pub under_all : (line : List ℕ) (ls : List Line) → list_all (λ l. list_all (λ x. not (has x line)) l.through) ls ≡ true → map (member_of line) ls ≡ map (member_of []) ls
  under_all line [] f = refl
  under_all line (l ∷ ls) f =
      let parts : (list_all (λ x. not (has x line)) l.through ≡ true) × (list_all (λ l. list_all (λ x. not (has x line)) l.through) ls ≡ true) =
      both (list_all (λ x. not (has x line)) l.through) (list_all (λ l. list_all (λ x. not (has x line)) l.through) ls) f in
      let same : filter (λ x. not (has x line)) l.through ≡ filter (λ x. not (has x [])) l.through =
      all_kept (λ x. not (has x line)) l.through parts.0 ∙ sym (all_kept (λ x. not (has x [])) l.through (all_always (λ x. not (has x [])) (λ x. refl) l.through)) in
      ap (λ us. record { written = l.written; holder = l.holder; under = us } ∷ map (member_of line) ls) same
      ∙ ap (λ ms. member_of [] l ∷ ms) (under_all line ls parts.1)

  -- so its members are under all types through which they come
  pub own_under_all : (t d : ℕ) → HasEnd heads (Some t) d → own_part heads bodies t ≡ map (member_of []) (down heads bodies t)
  own_under_all t d end =
      under_all (t ∷ bases heads t) (down heads bodies t)
      (all_through (λ x. not (has x (t ∷ bases heads t))) (length heads) t d end (λ x e less deep. off_own_line t d x e end less deep))

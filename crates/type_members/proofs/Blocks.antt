-- The members of a type that come down through one of its conditional subtypes stand together. The subtype has them at its end.
use Rattle.std.proofs.Common.{◌≡◌, ◌≢◌, ◌∙◌, refl, sym, ap, subst, ℕ, zero, suc, ◌+◌, ◌<◌, ◌≤◌, ◌⊎◌, inl, inr, ◌&&◌, ◌||◌, Bool, true, false, not, cond, List, [], ◌∷◌, ◌++◌, Some, arith, map, filter, length, nat_eq}
use Rattle.std.specs.Prelude.{flat_map, option_to_list, drop}
use Rattle.std.specs.Option.{option_map_or}
use Rattle.std.specs.List.{list_all}
use Rattle.std.proofs.lemmas.List.{append_assoc, append-nil, map-append}
use Rattle.std.proofs.lemmas.List.Elements.{filter-append}
use Rattle.std.proofs.lemmas.List.Folds.{list_all-map}
use Rattle.std.proofs.lemmas.Bool.Decides.{eqb_tells, nat_tests}
use Rattle.type_heads.specs.Table.{TypeHead, base, bases, line_within, numbers_from}
use Rattle.type_heads.specs.Types.{TypeBody, Member}
use Rattle.type_heads.specs.Members.{has, body, Line, line_of, through, is_conditional, subtypes, down, down_within, lines_within, member_of, members_of}
use Rattle.type_members.specs.Ancestry.{HasEnd}
use Rattle.type_members.specs.Cutting.{is_within}
use Rattle.type_members.specs.RowEnds.{is_under, own_part}
use Rattle.type_members.specs.Shared.{under_inside}
use Rattle.type_members.proofs.Ancestry.{end_more}
use Rattle.type_members.proofs.Through.{comes, none_after, none_far, none_other, none_written}
use Rattle.type_members.proofs.Depths.{AreBelow, down_all}
use Rattle.type_members.proofs.Downward.{all_through, off_own_line, own_under_all, under_all}
use Rattle.type_members.proofs.Inheriting.{members_less, off_base, under_kept}
use Rattle.type_members.proofs.ListTests.{all_always, all_fail, all_kept, all_same, all_weaker, none_kept}

-- Lines

-- items stand together in a list, of which no others pass the test
record Together {X : Type 0} (p : X → Bool) (inner all : List X) : Type 0 where
  first : List X
  last : List X
  whole : all ≡ (first ++ inner) ++ last
  none_first : filter p first ≡ []
  none_last : filter p last ≡ []

-- a list of items for each number, of which only those of one number pass
module _ (p : Line → Bool) (f : ℕ → List Line) (q : ℕ → Bool) (c : ℕ) (others : (x : ℕ) → q x ≡ true → nat_eq c x ≡ false → filter p (f x) ≡ []) (here : q c ≡ true) where
  together_of : (X : Type 0) (k : ℕ) (xs : List X) → k ≤ c → c < k + length xs → Together p (f c) (flat_map f (filter q (numbers_from k xs)))
  together_of X k [] from to = absurd (omega (arith, from, to))
  together_of X k (x ∷ xs) from to = by (eqb_tells c k) (λ start end. together_of X (k + 1) xs start end)
    where
      rest : List ℕ
      rest = filter q (numbers_from (k + 1) xs)

      later : nat_eq c k ≡ false → Together p (f c) (flat_map f rest) → (b : Bool) → q k ≡ b → Together p (f c) (flat_map f (cond b (k ∷ rest) rest))
      later other on true is = record {
        first = f k ++ on.first;
        last = on.last;
        whole = ap (λ ls. f k ++ ls) on.whole ∙ sym (append_assoc (f k) (on.first ++ f c) on.last) ∙ ap (λ ls. ls ++ on.last) (sym (append_assoc (f k) on.first (f c)));
        none_first = filter-append p (f k) on.first ∙ ap (λ ls. ls ++ filter p on.first) (others k is other) ∙ on.none_first;
        none_last = on.none_last;
      }
      later other on false is = on

      by : ((nat_eq c k ≡ true) × (c ≡ k)) ⊎ ((nat_eq c k ≡ false) × (c ≢ k)) → (k + 1 ≤ c → c < k + 1 + length xs → Together p (f c) (flat_map f rest)) →
          Together p (f c) (flat_map f (cond (q k) (k ∷ rest) rest))
      by (inl (is, same)) on = record {
        first = [];
        last = flat_map f rest;
        whole = ap (λ b. flat_map f (cond b (k ∷ rest) rest)) (ap q (sym same) ∙ here) ∙ ap (λ n. f n ++ flat_map f rest) (sym same);
        none_first = refl;
        none_last = none_after p f q c others X (k + 1) xs (omega (arith, same));
      }
      by (inr (is, other)) on = later is (on (omega (arith, from, other)) (omega (arith, to))) (q k) refl

regroup : {X : Type 0} (a b c d e g : List X) → a ++ ((b ++ ((c ++ d) ++ e)) ++ g) ≡ (((a ++ b) ++ c) ++ d) ++ (e ++ g)
regroup (x ∷ a) b c d e g = ap (λ ys. x ∷ ys) (regroup a b c d e g)
regroup [] (x ∷ b) c d e g = ap (λ ys. x ∷ ys) (regroup [] b c d e g)
regroup [] [] (x ∷ c) d e g = ap (λ ys. x ∷ ys) (regroup [] [] c d e g)
regroup [] [] [] d e g = append_assoc d e g

-- what comes down through a conditional subtype stands together among the lines of its base
lines_together : (heads : List TypeHead) (bodies : List TypeBody) (m b c d : ℕ) → length heads ≡ suc m → base heads c ≡ Some b → is_conditional bodies c ≡ true → c < length heads →
    HasEnd heads (Some b) d → Together (comes c) (map (through c) (down_within m heads bodies c)) (lines_within (suc m) heads bodies b)
lines_together heads bodies m b c zero all on conditional there end = absurd end
lines_together heads bodies m b c (suc d) all on conditional there end =
    record {
      first = (far ++ own) ++ among.first;
      last = among.last ++ more;
      whole = ap (λ k. far ++ down_within k heads bodies b) all
          ∙ ap (λ ls. far ++ ((own ++ ls) ++ more)) among.whole
          ∙ regroup far own among.first (map (through c) (down_within m heads bodies c)) among.last more;
      none_first = filter-append (comes c) (far ++ own) among.first
          ∙ ap (λ ls. filter (comes c) (far ++ own) ++ ls) among.none_first ∙ append-nil (filter (comes c) (far ++ own))
          ∙ filter-append (comes c) far own ∙ ap (λ ls. filter (comes c) far ++ ls) (none_written c b (body bodies b).own) ∙ append-nil (filter (comes c) far)
          ∙ none_far heads bodies b c on m d (base heads b) end end;
      none_last = filter-append (comes c) among.last more ∙ ap (λ ls. ls ++ filter (comes c) more) among.none_last ∙ none_written c b (body bodies b).more;
    }
  where
    far : List Line
    far = flat_map (λ a. filter (λ l. not (has b l.through)) (lines_within m heads bodies a)) (option_to_list (base heads b))

    own : List Line
    own = map (line_of b) (body bodies b).own

    more : List Line
    more = map (line_of b) (body bodies b).more

    is_one : (is_conditional bodies c && option_map_or (nat_eq b) (base heads c) false) ≡ true
    is_one = ap (λ e. e && option_map_or (nat_eq b) (base heads c) false) conditional ∙ ap (λ o. option_map_or (nat_eq b) o false) on ∙ same b
      where
        same : (k : ℕ) → nat_eq k k ≡ true
        same k = grind (arith, nat_tests)

    among : Together (comes c) (map (through c) (down_within m heads bodies c)) (flat_map (λ x. map (through x) (down_within m heads bodies x)) (subtypes heads bodies b))
    among =
        together_of (comes c) (λ x. map (through x) (down_within m heads bodies x)) (λ x. is_conditional bodies x && option_map_or (nat_eq b) (base heads x) false) c
        (λ x is other. none_other heads bodies b c (suc d) on end m x is other) is_one TypeHead 0 heads (omega arith) (omega (arith, there))

-- Members

-- the members of a type: those that come down through a conditional subtype stand together, and the subtype has them at its end
pub record IsBlock (heads : List TypeHead) (bodies : List TypeBody) (b c : ℕ) : Type 0 where
  pub first : List Member
  pub inner : List Member
  pub last : List Member
  pub whole : members_of heads bodies b ≡ (first ++ inner) ++ last
  pub not_first : list_all (λ m. not (is_within c m)) first ≡ true
  pub each : list_all (is_within c) inner ≡ true
  pub not_last : list_all (λ m. not (is_within c m)) last ≡ true
  pub own : map (under_inside 1) inner ≡ own_part heads bodies c
  pub moved : members_of heads bodies c ≡ (first ++ last) ++ map (under_inside 1) inner

same_number : (k : ℕ) → nat_eq k k ≡ true
same_number k = grind (arith, nat_tests)

within_under : (c : ℕ) (m : Member) → not (is_under c m) ≡ true → not (is_within c m) ≡ true
within_under c m is = by m.under is
  where
    by : (us : List ℕ) → not (has c us) ≡ true → not (is_within c (record m { under = us })) ≡ true
    by [] h = refl
    by (u ∷ us) h = one (nat_eq c u) h
      where
        one : (e : Bool) → not (e || has c us) ≡ true → not e ≡ true
        one true k = k
        one false k = refl

module _ (b c : ℕ) (line : List ℕ) (off : has c line ≡ false) where
  -- members of lines that don't come through the subtype aren't under it
  not_under : (ls : List Line) → filter (comes c) ls ≡ [] → list_all (λ m. not (is_under c m)) (map (member_of line) ls) ≡ true
  not_under ls none =
      list_all-map (λ m. not (is_under c m)) (member_of line) ls
      ∙ all_same (λ l. not (is_under c (member_of line l))) (λ l. not (comes c l)) (λ l. ap not (under_kept c line l.through off)) ls
      ∙ all_fail (comes c) ls none

  under_first : (l : Line) → (member_of line (through c l)).under ≡ c ∷ (member_of line l).under
  under_first l = ap (λ e. cond (not e) (c ∷ filter (λ x. not (has x line)) l.through) (filter (λ x. not (has x line)) l.through)) off

  all_within : (ls : List Line) → list_all (is_within c) (map (member_of line) (map (through c) ls)) ≡ true
  all_within ls =
      list_all-map (is_within c) (member_of line) (map (through c) ls)
      ∙ list_all-map (λ l. is_within c (member_of line l)) (through c) ls
      ∙ all_always (λ l. is_within c (member_of line (through c l)))
      (λ l. ap (λ us. is_within c (record { written = l.written; holder = l.holder; under = us })) (under_first l) ∙ same_number c) ls

  all_under : (ls : List Line) → list_all (is_under c) (map (member_of line) (map (through c) ls)) ≡ true
  all_under ls =
      list_all-map (is_under c) (member_of line) (map (through c) ls)
      ∙ list_all-map (λ l. is_under c (member_of line l)) (through c) ls
      ∙ all_always (λ l. is_under c (member_of line (through c l)))
      (λ l. ap (has c) (under_first l) ∙ ap (λ e. e || has c (member_of line l).under) (same_number c)) ls

  seen_inside : (ls : List Line) → map (under_inside 1) (map (member_of line) (map (through c) ls)) ≡ map (member_of line) ls
  seen_inside [] = refl
  seen_inside (l ∷ ls) =
      ap (λ us. record { written = l.written; holder = l.holder; under = drop 1 us } ∷ map (under_inside 1) (map (member_of line) (map (through c) ls))) (under_first l)
      ∙ ap (λ ms. member_of line l ∷ ms) (seen_inside ls)

-- what isn't under a type, if a part is left out of which all is
without_inner : {X : Type 0} (p : X → Bool) (first inner last : List X) → list_all (λ x. not (p x)) first ≡ true → list_all p inner ≡ true → list_all (λ x. not (p x)) last ≡ true →
    filter (λ x. not (p x)) ((first ++ inner) ++ last) ≡ first ++ last
without_inner p first inner last f g h =
    filter-append (λ x. not (p x)) (first ++ inner) last
    ∙ ap (λ ys. ys ++ filter (λ x. not (p x)) last) (filter-append (λ x. not (p x)) first inner)
    ∙ ap (λ ys. (filter (λ x. not (p x)) first ++ ys) ++ filter (λ x. not (p x)) last)
    (none_kept (λ x. not (p x)) inner (all_weaker p (λ x. not (not (p x))) (λ x k. ap (λ b. not (not b)) k) inner g))
    ∙ ap (λ ys. ys ++ filter (λ x. not (p x)) last) (append-nil (filter (λ x. not (p x)) first))
    ∙ ap (λ ys. ys ++ filter (λ x. not (p x)) last) (all_kept (λ x. not (p x)) first f)
    ∙ ap (λ ys. first ++ ys) (all_kept (λ x. not (p x)) last h)

is_suc : (n k : ℕ) → k < n → (m : ℕ) × (n ≡ suc m)
is_suc zero k less = absurd (omega (arith, less))
is_suc (suc m) k less = (m, refl)

pub block_of : (heads : List TypeHead) (bodies : List TypeBody) (b c d : ℕ) → base heads c ≡ Some b → is_conditional bodies c ≡ true → b < length heads → c < length heads →
    HasEnd heads (Some b) d → d < length heads → IsBlock heads bodies b c
block_of heads bodies b c d on conditional there here end below = by (is_suc (length heads) c here)
  where
    line : List ℕ
    line = b ∷ bases heads b

    by : (m : ℕ) × (length heads ≡ suc m) → IsBlock heads bodies b c
    by (m, all) =
        let lines : Together (comes c) (map (through c) (down_within m heads bodies c)) (lines_within (suc m) heads bodies b) =
        lines_together heads bodies m b c d all on conditional here end in
        let off : has c line ≡ false = off_base heads b c d on end in
        let deep : HasEnd heads (Some c) (d + 1) = end_more heads b c d on end in
        let inner : List Line = map (through c) (down_within m heads bodies c) in
        let whole : members_of heads bodies b ≡ (map (member_of line) lines.first ++ map (member_of line) inner) ++ map (member_of line) lines.last =
        ap (λ n. map (member_of line) (lines_within n heads bodies b)) all ∙ ap (map (member_of line)) lines.whole
        ∙ map-append (member_of line) (lines.first ++ inner) lines.last ∙ ap (λ ms. ms ++ map (member_of line) lines.last) (map-append (member_of line) lines.first inner) in
        let free_first : list_all (λ m. not (is_under c m)) (map (member_of line) lines.first) ≡ true = not_under b c line off lines.first lines.none_first in
        let free_last : list_all (λ m. not (is_under c m)) (map (member_of line) lines.last) ≡ true = not_under b c line off lines.last lines.none_last in
        let some : 0 < d = positive d end in
        let in_range : AreBelow (length heads) (line_within 2 heads (Some c)) =
        (here, subst (λ o. AreBelow (length heads) (line_within 1 heads o)) (sym on) (there, tt)) in
        let found : down_within m heads bodies c ≡ down heads bodies c =
        down_all heads bodies m 2 c (d + 1) deep (omega (arith, some)) in_range (omega (arith, all)) ∙ ap (λ n. down_within n heads bodies c) (sym all) in
        let seen : map (under_inside 1) (map (member_of line) inner) ≡ own_part heads bodies c =
        seen_inside b c line off (down_within m heads bodies c)
        ∙ under_all heads bodies line (down_within m heads bodies c)
        (all_through heads bodies (λ x. not (has x line)) m c (d + 1) deep (λ x e less h. off_own_line heads bodies b d x e end (omega (arith, less)) h))
        ∙ ap (map (member_of [])) found ∙ sym (own_under_all heads bodies c (d + 1) deep) in
        record {
          first = map (member_of line) lines.first;
          inner = map (member_of line) inner;
          last = map (member_of line) lines.last;
          whole = whole;
          not_first = all_weaker (λ m. not (is_under c m)) (λ m. not (is_within c m)) (within_under c) (map (member_of line) lines.first) free_first;
          each = all_within b c line off (down_within m heads bodies c);
          not_last = all_weaker (λ m. not (is_under c m)) (λ m. not (is_within c m)) (within_under c) (map (member_of line) lines.last) free_last;
          own = seen;
          moved = members_less heads bodies b c d on end below
              ∙ ap (λ ms. filter (λ m. not (is_under c m)) ms ++ own_part heads bodies c) whole
              ∙ ap (λ ms. ms ++ own_part heads bodies c)
              (without_inner (is_under c) (map (member_of line) lines.first) (map (member_of line) inner) (map (member_of line) lines.last)
              free_first (all_under b c line off (down_within m heads bodies c)) free_last)
              ∙ ap (λ ms. (map (member_of line) lines.first ++ map (member_of line) lines.last) ++ ms) (sym seen);
        }
      where
        positive : (d : ℕ) → HasEnd heads (Some b) d → 0 < d
        positive zero end = absurd end
        positive (suc d) end = omega arith

-- if nothing comes down through a conditional subtype, it has the members of its base
pub bare_block : (heads : List TypeHead) (bodies : List TypeBody) (b c : ℕ) → IsBlock heads bodies b c → down heads bodies c ≡ [] → members_of heads bodies c ≡ members_of heads bodies b
bare_block heads bodies b c one none =
    let nothing : map (under_inside 1) one.inner ≡ [] = one.own ∙ ap (map (member_of (c ∷ bases heads c))) none in
    one.moved ∙ ap (λ ms. (one.first ++ one.last) ++ ms) nothing ∙ append-nil (one.first ++ one.last)
    ∙ ap (λ ms. ms ++ one.last) (sym (append-nil one.first)) ∙ ap (λ ms. (one.first ++ ms) ++ one.last) (sym (empty one.inner nothing)) ∙ sym one.whole
  where
    empty : (ms : List Member) → map (under_inside 1) ms ≡ [] → ms ≡ []
    empty [] e = refl
    empty (m ∷ ms) e = absurd (cc e)

-- The members that are listed along a type and those that it inherits from are the members of the type.
use Rattle.std.proofs.Common.{◌≡◌, ◌≢◌, ◌∙◌, refl, sym, ap, ℕ, zero, suc, ◌<◌, ◌⊎◌, inl, inr, ◌||◌, Bool, true, false, not, cond, List, [], ◌∷◌, ◌++◌, Option, Some, None, map, length, filter, nat_eq, slice_index_or}
use Rattle.std.specs.Prelude.{flat_map, option_to_list}
use Rattle.std.specs.List.{list_any}
use Rattle.std.proofs.lemmas.List.{append_assoc, append-nil, map-append}
use Rattle.std.proofs.lemmas.List.Elements.{filter-append}
use Rattle.std.proofs.lemmas.List.Folds.{list_any-append}
use Rattle.std.proofs.lemmas.Bool.Decides.{eqb_tells}
use Rattle.type_heads.specs.Table.{TypeHead, base, bases, line_within}
use Rattle.type_heads.specs.Types.{Written, TypeBody, Member}
use Rattle.type_heads.specs.Members.{has, body, Line, line_of, through, subtypes, down, down_within, lines_within, member_of, members_of}
use Rattle.type_heads.proofs.LineSteps.{line_none}
use Rattle.type_members.specs.Ancestry.{HasEnd}
use Rattle.type_members.specs.Listed.{AreSubtypes}
use Rattle.type_members.specs.Listing.{Way, member_in, deeper, kept, listed_within, listed_along}
use Rattle.type_members.specs.RowEnds.{own_part}
use Rattle.type_members.proofs.Downward.{own_under_all}

or_swap : (a b c d : Bool) → ((a || b) || (c || d)) ≡ ((a || c) || (b || d))
or_swap true b c d = refl
or_swap false true true d = refl
or_swap false true false d = refl
or_swap false false c d = refl

same_number : (a b : ℕ) → nat_eq a b ≡ nat_eq b a
same_number a b = by (eqb_tells a b) (eqb_tells b a)
  where
    by : ((nat_eq a b ≡ true) × (a ≡ b)) ⊎ ((nat_eq a b ≡ false) × (a ≢ b)) → ((nat_eq b a ≡ true) × (b ≡ a)) ⊎ ((nat_eq b a ≡ false) × (b ≢ a)) → nat_eq a b ≡ nat_eq b a
    by (inl (e, same)) (inl (f, back)) = e ∙ sym f
    by (inl (e, same)) (inr (f, other)) = absurd (other (sym same))
    by (inr (e, other)) (inl (f, back)) = absurd (other (sym back))
    by (inr (e, other)) (inr (f, apart)) = e ∙ sym f

none_in : (skipped : List ℕ) → list_any (λ s. has s []) skipped ≡ false
none_in [] = refl
none_in (s ∷ ss) = none_in ss

-- a line comes through none of some types
abbrev avoids : List ℕ → Line → Bool
avoids skipped l = not (list_any (λ s. has s l.through) skipped)

any_through : (skipped : List ℕ) (c : ℕ) (types : List ℕ) → list_any (λ s. has s (c ∷ types)) skipped ≡ (has c skipped || list_any (λ s. has s types) skipped)
any_through [] c types = refl
any_through (s ∷ ss) c types =
    ap (λ b. (nat_eq s c || has s types) || b) (any_through ss c types)
    ∙ ap (λ b. (b || has s types) || (has c ss || list_any (λ s. has s types) ss)) (same_number s c)
    ∙ or_swap (nat_eq c s) (has s types) (has c ss) (list_any (λ s. has s types) ss)

module _ (heads : List TypeHead) (bodies : List TypeBody) (lists : List (List ℕ)) (are : AreSubtypes heads bodies lists) (line : List ℕ) where
  abbrev way : List ℕ → Way
  way skipped = record { bodies = bodies; subtypes = lists; line = line; skipped = skipped }

  -- a line, below members that are under these
  abbrev under_of : List ℕ → Line → Member
  under_of under l = record { written = l.written; holder = l.holder; under = under ++ filter (λ c. not (has c line)) l.through }

  own_law : (skipped under : List ℕ) (t : ℕ) (ws : List Written) → map (member_in t under) ws ≡ map (under_of under) (filter (avoids skipped) (map (line_of t) ws))
  own_law skipped under t [] = refl
  own_law skipped under t (w ∷ ws) =
      ap (λ u. record { written = w; holder = t; under = u } ∷ map (member_in t under) ws) (sym (append-nil under))
      ∙ ap (λ ms. under_of under (line_of t w) ∷ ms) (own_law skipped under t ws)
      ∙ ap (λ b. map (under_of under) (cond (not b) (line_of t w ∷ filter (avoids skipped) (map (line_of t) ws)) (filter (avoids skipped) (map (line_of t) ws)))) (sym (none_in skipped))

  skipped_law : (skipped : List ℕ) (c : ℕ) (ls : List Line) → has c skipped ≡ true → filter (avoids skipped) (map (through c) ls) ≡ []
  skipped_law skipped c [] skip = refl
  skipped_law skipped c (l ∷ ls) skip =
      ap (λ b. cond (not b) (through c l ∷ filter (avoids skipped) (map (through c) ls)) (filter (avoids skipped) (map (through c) ls)))
      (any_through skipped c l.through ∙ ap (λ b. b || list_any (λ s. has s l.through) skipped) skip)
      ∙ skipped_law skipped c ls skip

  deeper_law : (under : List ℕ) (c : ℕ) (types skipped : List ℕ) →
      under ++ filter (λ c. not (has c line)) (c ∷ types) ≡ deeper (way skipped) under c ++ filter (λ c. not (has c line)) types
  deeper_law under c types skipped = by (has c line)
    where
      by : (b : Bool) → under ++ cond (not b) (c ∷ filter (λ c. not (has c line)) types) (filter (λ c. not (has c line)) types)
          ≡ under ++ cond b [] (c ∷ []) ++ filter (λ c. not (has c line)) types
      by true = ap (λ us. us ++ filter (λ c. not (has c line)) types) (sym (append-nil under))
      by false = sym (append_assoc under (c ∷ []) (filter (λ c. not (has c line)) types))

  kept_law : (skipped under : List ℕ) (c : ℕ) (ls : List Line) → has c skipped ≡ false →
      map (under_of (deeper (way skipped) under c)) (filter (avoids skipped) ls) ≡ map (under_of under) (filter (avoids skipped) (map (through c) ls))
  kept_law skipped under c [] keep = refl
  kept_law skipped under c (l ∷ ls) keep =
      by (list_any (λ s. has s l.through) skipped) (kept_law skipped under c ls keep)
      ∙ ap (λ b. map (under_of under) (cond (not b) (through c l ∷ filter (avoids skipped) (map (through c) ls)) (filter (avoids skipped) (map (through c) ls))))
      (sym (any_through skipped c l.through ∙ ap (λ b. b || list_any (λ s. has s l.through) skipped) keep))
    where
      by : (b : Bool) →
          map (under_of (deeper (way skipped) under c)) (filter (avoids skipped) ls) ≡ map (under_of under) (filter (avoids skipped) (map (through c) ls)) →
          map (under_of (deeper (way skipped) under c)) (cond (not b) (l ∷ filter (avoids skipped) ls) (filter (avoids skipped) ls))
          ≡ map (under_of under) (cond (not b) (through c l ∷ filter (avoids skipped) (map (through c) ls)) (filter (avoids skipped) (map (through c) ls)))
      by true rest = rest
      by false rest =
          ap (λ u. record { written = l.written; holder = l.holder; under = u } ∷ map (under_of (deeper (way skipped) under c)) (filter (avoids skipped) ls))
          (sym (deeper_law under c l.through skipped))
          ∙ ap (λ ms. under_of under (through c l) ∷ ms) rest

  below_law : (steps : ℕ) (skipped under : List ℕ) →
      ((deep : List ℕ) (t : ℕ) → listed_within steps (way skipped) deep t ≡ map (under_of deep) (filter (avoids skipped) (down_within steps heads bodies t))) → (cs : List ℕ) →
      flat_map (λ c. listed_within steps (way skipped) (deeper (way skipped) under c) c) (kept (way skipped) cs)
      ≡ map (under_of under) (filter (avoids skipped) (flat_map (λ c. map (through c) (down_within steps heads bodies c)) cs))
  below_law steps skipped under within [] = refl
  below_law steps skipped under within (c ∷ cs) =
      by (has c skipped) refl
      ∙ ap (λ ms. map (under_of under) (filter (avoids skipped) first) ++ ms) (below_law steps skipped under within cs)
      ∙ sym (map-append (under_of under) (filter (avoids skipped) first) (filter (avoids skipped) later))
      ∙ ap (map (under_of under)) (sym (filter-append (avoids skipped) first later))
    where
      listed : List ℕ → List Member
      listed cs = flat_map (λ c. listed_within steps (way skipped) (deeper (way skipped) under c) c) cs

      first : List Line
      first = map (through c) (down_within steps heads bodies c)

      later : List Line
      later = flat_map (λ c. map (through c) (down_within steps heads bodies c)) cs

      by : (b : Bool) → has c skipped ≡ b → listed (cond (not b) (c ∷ kept (way skipped) cs) (kept (way skipped) cs))
          ≡ map (under_of under) (filter (avoids skipped) first) ++ listed (kept (way skipped) cs)
      by true skip = ap (λ ls. map (under_of under) ls ++ listed (kept (way skipped) cs)) (sym (skipped_law skipped c (down_within steps heads bodies c) skip))
      by false keep = ap (λ ms. ms ++ listed (kept (way skipped) cs))
          (within (deeper (way skipped) under c) c ∙ kept_law skipped under c (down_within steps heads bodies c) keep)

  three : (f : Line → Member) (p : Line → Bool) (xs ys zs : List Line) →
      map f (filter p (xs ++ ys ++ zs)) ≡ map f (filter p xs) ++ map f (filter p ys) ++ map f (filter p zs)
  three f p xs ys zs =
      ap (map f) (filter-append p (xs ++ ys) zs ∙ ap (λ ls. ls ++ filter p zs) (filter-append p xs ys))
      ∙ map-append f (filter p xs ++ filter p ys) (filter p zs)
      ∙ ap (λ ms. ms ++ map f (filter p zs)) (map-append f (filter p xs) (filter p ys))

  within_law : (steps : ℕ) (skipped under : List ℕ) (t : ℕ) →
      listed_within steps (way skipped) under t ≡ map (under_of under) (filter (avoids skipped) (down_within steps heads bodies t))
  within_law zero skipped under t = refl
  within_law (suc steps) skipped under t =
      let own : List Line = map (line_of t) (body bodies t).own in
      let more : List Line = map (line_of t) (body bodies t).more in
      let below : List ℕ → List Line = flat_map (λ c. map (through c) (down_within steps heads bodies c)) in
      ap (λ ms. ms ++ flat_map (λ c. listed_within steps (way skipped) (deeper (way skipped) under c) c) (kept (way skipped) (slice_index_or lists t [])) ++ map (member_in t under) (body bodies t).more)
      (own_law skipped under t (body bodies t).own)
      ∙ ap (λ ms. map (under_of under) (filter (avoids skipped) own) ++ ms ++ map (member_in t under) (body bodies t).more)
      (below_law steps skipped under (λ deep c. within_law steps skipped deep c) (slice_index_or lists t [])
      ∙ ap (λ cs. map (under_of under) (filter (avoids skipped) (below cs))) (are t))
      ∙ ap (λ ms. map (under_of under) (filter (avoids skipped) own) ++ map (under_of under) (filter (avoids skipped) (below (subtypes heads bodies t))) ++ ms)
      (own_law skipped under t (body bodies t).more)
      ∙ sym (three (under_of under) (avoids skipped) own (below (subtypes heads bodies t)) more)

  both_law : (skipped : List ℕ) (t : ℕ) (ls : List Line) →
      filter (avoids (skipped ++ t ∷ [])) ls ≡ filter (avoids skipped) (filter (λ l. not (has t l.through)) ls)
  both_law skipped t [] = refl
  both_law skipped t (l ∷ ls) =
      ap (λ b. cond (not b) (l ∷ filter (avoids (skipped ++ t ∷ [])) ls) (filter (avoids (skipped ++ t ∷ [])) ls)) (list_any-append (λ s. has s l.through) skipped (t ∷ []))
      ∙ ap (λ rest. cond (not (list_any (λ s. has s l.through) skipped || (has t l.through || false))) (l ∷ rest) rest) (both_law skipped t ls)
      ∙ by (list_any (λ s. has s l.through) skipped) (has t l.through) refl
    where
      rest : List Line
      rest = filter (λ l. not (has t l.through)) ls

      by : (a b : Bool) → list_any (λ s. has s l.through) skipped ≡ a →
          cond (not (a || (b || false))) (l ∷ filter (avoids skipped) rest) (filter (avoids skipped) rest) ≡ filter (avoids skipped) (cond (not b) (l ∷ rest) rest)
      by true true is = refl
      by false true is = refl
      by true false is = ap (λ b. cond (not b) (l ∷ filter (avoids skipped) rest) (filter (avoids skipped) rest)) (sym is)
      by false false is = ap (λ b. cond (not b) (l ∷ filter (avoids skipped) rest) (filter (avoids skipped) rest)) (sym is)

  along_law : (steps : ℕ) (skipped : List ℕ) (t : ℕ) →
      listed_along (length heads) bodies lists line skipped (line_within steps heads (Some t)) ≡ map (member_of line) (filter (avoids skipped) (lines_within steps heads bodies t))
  along_law zero skipped t = refl
  along_law (suc steps) skipped t =
      ap (λ ms. ms ++ listed_within (length heads) (way skipped) [] t) (by (base heads t) (λ b. along_law steps (skipped ++ t ∷ []) b))
      ∙ ap (λ ms. map (member_of line) (filter (avoids skipped) (far (base heads t))) ++ ms) (within_law (length heads) skipped [] t)
      ∙ sym (map-append (member_of line) (filter (avoids skipped) (far (base heads t))) (filter (avoids skipped) (down heads bodies t)))
      ∙ ap (map (member_of line)) (sym (filter-append (avoids skipped) (far (base heads t)) (down heads bodies t)))
    where
      far : Option ℕ → List Line
      far b = flat_map (λ b. filter (λ l. not (has t l.through)) (lines_within steps heads bodies b)) (option_to_list b)

      by : (b : Option ℕ) → ((b : ℕ) → listed_along (length heads) bodies lists line (skipped ++ t ∷ []) (line_within steps heads (Some b))
          ≡ map (member_of line) (filter (avoids (skipped ++ t ∷ [])) (lines_within steps heads bodies b))) → listed_along (length heads) bodies lists line (skipped ++ t ∷ []) (line_within steps heads b) ≡ map (member_of line) (filter (avoids skipped) (far b))
      by None far_law = ap (listed_along (length heads) bodies lists line (skipped ++ t ∷ [])) (line_none steps heads)
      by (Some b) far_law =
          far_law b
          ∙ ap (map (member_of line)) (both_law skipped t (lines_within steps heads bodies b)
          ∙ ap (filter (avoids skipped)) (sym (append-nil (filter (λ l. not (has t l.through)) (lines_within steps heads bodies b)))))

  all_kept : (ls : List Line) → filter (avoids []) ls ≡ ls
  all_kept [] = refl
  all_kept (l ∷ ls) = ap (λ rest. l ∷ rest) (all_kept ls)

-- the members that are listed along a type and those that it inherits from
listed_members : (heads : List TypeHead) (bodies : List TypeBody) (lists : List (List ℕ)) (t : ℕ) → AreSubtypes heads bodies lists →
    listed_along (length heads) bodies lists (t ∷ bases heads t) [] (line_within (length heads) heads (Some t)) ≡ members_of heads bodies t
listed_members heads bodies lists t are =
    along_law heads bodies lists are (t ∷ bases heads t) (length heads) [] t
    ∙ ap (map (member_of (t ∷ bases heads t))) (all_kept heads bodies lists are (t ∷ bases heads t) (lines_within (length heads) heads bodies t))

pub members_listed : (heads : List TypeHead) (bodies : List TypeBody) (lists : List (List ℕ)) (t steps : ℕ) (line way : List ℕ) → AreSubtypes heads bodies lists →
    steps ≡ length heads → line ≡ t ∷ bases heads t → way ≡ line_within (length heads) heads (Some t) →
    listed_along steps bodies lists line [] way ≡ members_of heads bodies t
members_listed heads bodies lists t steps line way are count line_is way_is =
    ap (λ n. listed_along n bodies lists line [] way) count ∙ ap (λ ts. listed_along (length heads) bodies lists ts [] way) line_is
    ∙ ap (listed_along (length heads) bodies lists (t ∷ bases heads t) []) way_is ∙ listed_members heads bodies lists t are

-- the members that are listed down from a type, given its line, or none if the line ends
part_listed : (heads : List TypeHead) (bodies : List TypeBody) (lists : List (List ℕ)) (line : List ℕ) (t : ℕ) → AreSubtypes heads bodies lists →
    listed_within (length heads) (record { bodies = bodies; subtypes = lists; line = line; skipped = [] }) [] t ≡ map (member_of line) (down heads bodies t)
part_listed heads bodies lists line t are =
    within_law heads bodies lists are line (length heads) [] [] t ∙ ap (map (member_of line)) (all_kept heads bodies lists are line (down heads bodies t))

pub part_beside : (heads : List TypeHead) (bodies : List TypeBody) (lists : List (List ℕ)) (t steps depth : ℕ) (line skipped : List ℕ) → AreSubtypes heads bodies lists →
    steps ≡ length heads → (depth < length heads → HasEnd heads (Some t) depth) → ((line ≡ []) × (depth < length heads)) ⊎ (line ≡ t ∷ bases heads t) → skipped ≡ [] →
    listed_within steps (record { bodies = bodies; subtypes = lists; line = line; skipped = skipped }) [] t ≡ own_part heads bodies t
part_beside heads bodies lists t steps depth line skipped are count ended lines none =
    ap (λ n. listed_within n (record { bodies = bodies; subtypes = lists; line = line; skipped = skipped }) [] t) count
    ∙ ap (λ ss. listed_within (length heads) (record { bodies = bodies; subtypes = lists; line = line; skipped = ss }) [] t) none
    ∙ part_listed heads bodies lists line t are ∙ by lines
  where
    by : ((line ≡ []) × (depth < length heads)) ⊎ (line ≡ t ∷ bases heads t) → map (member_of line) (down heads bodies t) ≡ own_part heads bodies t
    by (inl (empty, below)) = ap (λ ts. map (member_of ts) (down heads bodies t)) empty ∙ sym (own_under_all heads bodies t depth (ended below))
    by (inr whole) = ap (λ ts. map (member_of ts) (down heads bodies t)) whole

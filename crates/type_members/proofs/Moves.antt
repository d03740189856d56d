-- What stands in parts of which a cut is moved to the end.
use Rattle.std.proofs.Common.{◌≡◌, ◌∙◌, refl, sym, ap, ℕ, zero, suc, ◌+◌, ◌≤◌, ◌&&◌, Bool, true, false, cond, List, [], ◌∷◌, ◌++◌, Option, Some, None, arith, map, filter, length, drop, nat_eq, take, true≢false}
use Rattle.std.specs.Prelude.{flat_map, nat_le, nat_lt, slice_get, slice_index_or}
use Rattle.std.specs.Option.{option_map_or}
use Rattle.std.specs.List.{list_all, list_any}
use Rattle.std.proofs.lemmas.Bool.Decides.{nat_tests}
use Rattle.std.proofs.lemmas.List.{append_assoc, append-nil, map-append, take-append-drop, take-take}
use Rattle.std.proofs.lemmas.List.Elements.{filter-append}
use Rattle.std.proofs.lemmas.Grind.{flat_map-append}
use Rattle.type_heads.specs.Types.{Member}
use Rattle.type_members.specs.Cutting.{IsWidened, cut_out, is_free}
use Rattle.type_members.specs.Shared.{around, has_places, inner_part, is_cut, lies_in, members_at, members_in_part, members_in_parts, moved, part_at, parts_at, place_parts, under_inside}
use Rattle.type_members.specs.declared.places.Part.{Part}
use Rattle.type_members.specs.declared.places.Span.{Span}
use Rattle.type_members.specs.declared.rows.Cut.{Cut}
use Rattle.type_members.proofs.ListTests.{both, neither}

module _ {X : Type 0} where
  abbrev none : List X
  none = []

  drop_none : (n : ℕ) → drop n none ≡ none
  drop_none zero = refl
  drop_none (suc n) = refl

  -- what stands between two places, in two pieces
  two_pieces : (xs : List X) (a m b : ℕ) → a ≤ m → m ≤ b → drop a (take b xs) ≡ drop a (take m xs) ++ drop m (take b xs)
  two_pieces xs zero m b first last = sym (take-append-drop m (take b xs)) ∙ ap (λ ys. ys ++ drop m (take b xs)) (take-take m b xs last)
  two_pieces xs (suc a) zero b first last = absurd (omega (arith, first))
  two_pieces xs (suc a) (suc m) zero first last = absurd (omega (arith, last))
  two_pieces [] (suc a) (suc m) (suc b) first last = refl
  two_pieces (x ∷ xs) (suc a) (suc m) (suc b) first last = two_pieces xs a m b (omega (arith, first)) (omega (arith, last))

  -- no more stands there if the second place isn't after the first
  no_piece : (xs : List X) (a b : ℕ) → b ≤ a → drop a (take b xs) ≡ []
  no_piece xs a zero le = drop_none a
  no_piece xs zero (suc b) le = absurd (omega (arith, le))
  no_piece [] (suc a) (suc b) le = refl
  no_piece (x ∷ xs) (suc a) (suc b) le = no_piece xs a b (omega (arith, le))

-- a cut that lies in a part
pub record IsInPart (cut : Cut) (p : Part) : Type 0 where
  pub after : p.from ≤ cut.from
  pub ordered : cut.from ≤ cut.to
  pub before : cut.to ≤ p.to

in_order : (a b c d : ℕ) → (nat_le a b && (nat_le b c && nat_le c d)) ≡ true → (a ≤ b) × ((b ≤ c) × (c ≤ d))
in_order a b c d e =
    let first : (nat_le a b ≡ true) × ((nat_le b c && nat_le c d) ≡ true) = both (nat_le a b) (nat_le b c && nat_le c d) e in
    let rest : (nat_le b c ≡ true) × (nat_le c d ≡ true) = both (nat_le b c) (nat_le c d) first.1 in
    (le a b first.0, (le b c rest.0, le c d rest.1))
  where
    le : (a b : ℕ) → nat_le a b ≡ true → a ≤ b
    le a b e = grind (arith, nat_tests)

pub in_part_is : (cut : Cut) (p : Part) → lies_in cut p ≡ true → IsInPart cut p
in_part_is cut p e = let parts = in_order p.from cut.from cut.to p.to e in record { after = parts.0; ordered = parts.1.0; before = parts.1.1 }

-- the part in which a cut lies
pub record IsCutOf (parts : List Part) (cut : Cut) : Type 0 where
  pub of : Part
  pub there : slice_get parts cut.part ≡ Some of
  pub within : IsInPart cut of

pub cut_of : (parts : List Part) (cut : Cut) → is_cut parts (Some cut) ≡ true → IsCutOf parts cut
cut_of parts cut e = by (slice_get parts cut.part) refl e
  where
    by : (o : Option Part) → slice_get parts cut.part ≡ o → option_map_or (lies_in cut) o false ≡ true → IsCutOf parts cut
    by None at h = let never : false ≡ true = h in absurd (true≢false (sym never))
    by (Some p) at h = record { of = p; there = at; within = in_part_is cut p h }

not_less : (a b : ℕ) → nat_lt a b ≡ false → b ≤ a
not_less a b e = grind (arith, nat_tests)

-- parts without places have nothing
pub parts_left : {Y : Type 0} (f : Part → List Y) → ((p : Part) → p.to ≤ p.from → f p ≡ []) → (ps : List Part) → flat_map f (filter has_places ps) ≡ flat_map f ps
parts_left f nothing [] = refl
parts_left {Y} f nothing (p ∷ ps) = by (has_places p) refl (parts_left f nothing ps)
  where
    by : (b : Bool) → has_places p ≡ b → flat_map f (filter has_places ps) ≡ flat_map f ps → flat_map f (cond b (p ∷ filter has_places ps) (filter has_places ps)) ≡ f p ++ flat_map f ps
    by true is on = ap (λ ys. f p ++ ys) on
    by false is on = on ∙ ap (λ ys. ys ++ flat_map f ps) (sym (nothing p (not_less p.from p.to is)))

pub items_left : {X : Type 0} (rows : List (List X)) (ps : List Part) → parts_at rows (filter has_places ps) ≡ parts_at rows ps
items_left rows ps = parts_left (part_at rows) (λ p le. no_piece (slice_index_or rows p.row []) p.from p.to le) ps

pub members_left : (rows : List (List Member)) (ps : List Part) → members_in_parts rows (filter has_places ps) ≡ members_in_parts rows ps
members_left rows ps =
    parts_left (members_in_part rows) (λ p le. ap (map (under_inside p.inside)) (no_piece (slice_index_or rows p.row []) p.from p.to le)) ps

-- A part, and what is around a cut in it

module _ (rows : List (List Member)) (p : Part) (cut : Cut) (within : IsInPart cut p) where
  pub in_three : members_in_part rows p
      ≡ members_in_part rows (record p { to = cut.from }) ++ (members_in_part rows (cut_out p cut) ++ members_in_part rows (record p { from = cut.to }))
  in_three =
      let row : List Member = slice_index_or rows p.row [] in
      let later : cut.from ≤ p.to = omega (arith, within.ordered, within.before) in
      ap (map (under_inside p.inside)) (two_pieces row p.from cut.from p.to within.after later ∙ ap (λ ys. drop p.from (take cut.from row) ++ ys) (two_pieces row cut.from cut.to p.to within.ordered within.before))
      ∙ map-append (under_inside p.inside) (drop p.from (take cut.from row)) (drop cut.from (take cut.to row) ++ drop cut.to (take p.to row))
      ∙ ap (λ ys. members_in_part rows (record p { to = cut.from }) ++ ys) (map-append (under_inside p.inside) (drop cut.from (take cut.to row)) (drop cut.to (take p.to row)))

drop_more_inside : (k : ℕ) (us : List ℕ) → drop (k + 1) us ≡ drop 1 (drop k us)
drop_more_inside zero us = refl
drop_more_inside (suc k) [] = let e : suc k + 1 ≡ suc (k + 1) = omega arith in ap (λ n. drop n []) e
drop_more_inside (suc k) (u ∷ us) = let e : suc k + 1 ≡ suc (k + 1) = omega arith in ap (λ n. drop n (u ∷ us)) e ∙ drop_more_inside k us

inside_more : (k : ℕ) (ms : List Member) → map (under_inside (k + 1)) ms ≡ map (under_inside 1) (map (under_inside k) ms)
inside_more k [] = refl
inside_more k (m ∷ ms) =
    ap (λ us. record m { under = us } ∷ map (under_inside (k + 1)) ms) (drop_more_inside k m.under)
    ∙ ap (λ rest. under_inside 1 (under_inside k m) ∷ rest) (inside_more k ms)

pub inside_none : (ms : List Member) → map (under_inside 0) ms ≡ ms
inside_none [] = refl
inside_none (m ∷ ms) = ap (λ rest. m ∷ rest) (inside_none ms)

-- Parts

split_at : (ps : List Part) (k : ℕ) (p : Part) → slice_get ps k ≡ Some p → ps ≡ take k ps ++ p ∷ drop (k + 1) ps
split_at [] k p there = absurd (cc there)
split_at (q ∷ ps) zero p there = ap (λ r. r ∷ ps) (same there)
  where
    same : Some q ≡ Some p → q ≡ p
    same e = cc
split_at (q ∷ ps) (suc k) p there =
    let e : suc (k + 1) ≡ suc k + 1 = omega arith in
    ap (λ rs. q ∷ rs) (split_at ps k p there) ∙ ap (λ n. q ∷ (take k ps ++ p ∷ drop n (q ∷ ps))) e

-- before a cut, in it, and after it
abbrev pub first_in : List (List Member) → List Part → Cut → Part → List Member
first_in rows ps cut p = members_in_parts rows (take cut.part ps) ++ members_in_part rows (record p { to = cut.from })

abbrev pub last_in : List (List Member) → List Part → Cut → Part → List Member
last_in rows ps cut p = members_in_part rows (record p { from = cut.to }) ++ members_in_parts rows (drop (cut.part + 1) ps)

regroup : {X : Type 0} (a b c d e : List X) → a ++ ((b ++ (c ++ d)) ++ e) ≡ ((a ++ b) ++ c) ++ (d ++ e)
regroup (x ∷ a) b c d e = ap (λ ys. x ∷ ys) (regroup a b c d e)
regroup [] (x ∷ b) c d e = ap (λ ys. x ∷ ys) (regroup [] b c d e)
regroup [] [] c d e = append_assoc c d e

module _ (rows : List (List Member)) (ps : List Part) (cut : Cut) (p : Part) (there : slice_get ps cut.part ≡ Some p) (within : IsInPart cut p) where
  pub whole_is : members_in_parts rows ps ≡ (first_in rows ps cut p ++ members_in_part rows (cut_out p cut)) ++ last_in rows ps cut p
  whole_is =
      let before : List Part = take cut.part ps in
      let after : List Part = drop (cut.part + 1) ps in
      ap (members_in_parts rows) (split_at ps cut.part p there)
      ∙ flat_map-append (members_in_part rows) before (p ∷ after)
      ∙ ap (λ ms. members_in_parts rows before ++ (ms ++ members_in_parts rows after)) (in_three rows p cut within)
      ∙ regroup (members_in_parts rows before) (members_in_part rows (record p { to = cut.from })) (members_in_part rows (cut_out p cut))
      (members_in_part rows (record p { from = cut.to })) (members_in_parts rows after)

  pub moved_is : members_in_parts rows (moved ps cut) ≡ (first_in rows ps cut p ++ last_in rows ps cut p) ++ map (under_inside 1) (members_in_part rows (cut_out p cut))
  moved_is =
      let before : List Part = take cut.part ps in
      let after : List Part = drop (cut.part + 1) ps in
      ap (λ (o : Option Part). members_in_parts rows (option_map_or (λ (p : Part). (before ++ around p cut ++ after) ++ inner_part p cut ∷ []) o [])) there
      ∙ flat_map-append (members_in_part rows) (before ++ around p cut ++ after) (inner_part p cut ∷ [])
      ∙ ap (λ ms. ms ++ (members_in_part rows (inner_part p cut) ++ [])) (flat_map-append (members_in_part rows) (before ++ around p cut) after)
      ∙ ap (λ ms. (ms ++ members_in_parts rows after) ++ (members_in_part rows (inner_part p cut) ++ [])) (flat_map-append (members_in_part rows) before (around p cut))
      ∙ ap (λ ms. ((members_in_parts rows before ++ (members_in_part rows (record p { to = cut.from }) ++ ms)) ++ members_in_parts rows after) ++ (members_in_part rows (inner_part p cut) ++ []))
      (append-nil (members_in_part rows (record p { from = cut.to })))
      ∙ ap (λ ms. ((members_in_parts rows before ++ (members_in_part rows (record p { to = cut.from }) ++ members_in_part rows (record p { from = cut.to }))) ++ members_in_parts rows after) ++ ms)
      (append-nil (members_in_part rows (inner_part p cut)) ∙ inside_more p.inside (part_at rows (cut_out p cut)))
      ∙ ap (λ ms. ms ++ map (under_inside 1) (members_in_part rows (cut_out p cut)))
      (in_four (members_in_parts rows before) (members_in_part rows (record p { to = cut.from })) (members_in_part rows (record p { from = cut.to })) (members_in_parts rows after))
    where
      in_four : (a b c d : List Member) → (a ++ (b ++ c)) ++ d ≡ (a ++ b) ++ (c ++ d)
      in_four (x ∷ a) b c d = ap (λ ys. x ∷ ys) (in_four a b c d)
      in_four [] b c d = append_assoc b c d

-- parts without places have no members
pub none_there : (rows : List (List Member)) (ps : List Part) → list_any has_places ps ≡ false → members_in_parts rows ps ≡ []
none_there rows [] e = refl
none_there rows (p ∷ ps) e =
    let parts : (has_places p ≡ false) × (list_any has_places ps ≡ false) = neither (has_places p) (list_any has_places ps) e in
    ap (λ ms. map (under_inside p.inside) ms ++ members_in_parts rows ps) (no_piece (slice_index_or rows p.row []) p.from p.to (not_less p.from p.to parts.0))
    ∙ none_there rows ps parts.1

-- members that are under nothing are the same, seen from inside
free_inside : (ms : List Member) → list_all is_free ms ≡ true → map (under_inside 1) ms ≡ ms
free_inside [] free = refl
free_inside (m ∷ ms) free =
    let parts : (is_free m ≡ true) × (list_all is_free ms ≡ true) = both (is_free m) (list_all is_free ms) free in
    ap (λ us. record m { under = us } ∷ map (under_inside 1) ms) (one m.under parts.0) ∙ ap (λ rest. m ∷ rest) (free_inside ms parts.1)
  where
    one : (us : List ℕ) → nat_eq (length us) 0 ≡ true → drop 1 us ≡ us
    one [] e = refl
    one (u ∷ us) e = let none : suc (length us) ≡ 0 = grind (arith, nat_tests) in absurd (omega (arith, none))

-- a wider cut takes out the same
module _ (rows : List (List Member)) (ps : List Part) (told cut : Cut) (is : IsWidened rows ps told cut) (within : IsInPart told is.of) where
  wide_there : slice_get ps cut.part ≡ Some is.of
  wide_there = ap (slice_get ps) is.part ∙ is.there

  wide_within : IsInPart cut is.of
  wide_within = record {
    after = omega (arith, is.from);
    ordered = omega (arith, is.from, is.to, within.after, within.ordered);
    before = omega (arith, is.to, is.end);
  }

  pub wide_is_cut : is_cut ps (Some cut) ≡ true
  wide_is_cut = ap (λ (o : Option Part). option_map_or (lies_in cut) o false) wide_there ∙ lies is.of.from cut.from cut.to is.of.to wide_within.after wide_within.ordered wide_within.before
    where
      lies : (a b c d : ℕ) → a ≤ b → b ≤ c → c ≤ d → (nat_le a b && (nat_le b c && nat_le c d)) ≡ true
      lies a b c d first second third = ap (λ e. e && (nat_le b c && nat_le c d)) (le a b first) ∙ ap (λ e. e && nat_le c d) (le b c second) ∙ le c d third
        where
          le : (a b : ℕ) → a ≤ b → nat_le a b ≡ true
          le a b h = grind (arith, nat_tests)

  pub wide_moved : members_in_parts rows (moved ps cut) ≡ members_in_parts rows (moved ps told)
  wide_moved =
      let p : Part = is.of in
      let before : List Member = members_in_parts rows (take told.part ps) in
      let free : List Member = members_in_part rows (record p { to = told.from }) in
      let inner : List Member = members_in_part rows (cut_out p told) in
      let row : List Member = slice_index_or rows p.row [] in
      let nothing_first : members_in_part rows (record p { to = cut.from }) ≡ [] = ap (map (under_inside p.inside)) (no_piece row p.from cut.from (omega (arith, is.from))) in
      let nothing_after : (k to : ℕ) → k ≡ told.part → to ≡ told.to → members_in_part rows (record p { from = to }) ++ members_in_parts rows (drop (k + 1) ps) ≡ [] =
      λ k to same_part same_to.
      ap (λ ms. ms ++ members_in_parts rows (drop (k + 1) ps)) (ap (map (under_inside p.inside)) (no_piece row to p.to (omega (arith, same_to, is.end))))
      ∙ ap (λ n. members_in_parts rows (drop (n + 1) ps)) same_part ∙ none_there rows (drop (told.part + 1) ps) is.none_after in
      let whole : members_in_part rows (cut_out p cut) ≡ free ++ inner =
      ap (λ n. map (under_inside p.inside) (drop n (take cut.to row))) is.from ∙ ap (λ n. map (under_inside p.inside) (drop p.from (take n row))) is.to
      ∙ ap (map (under_inside p.inside)) (two_pieces row p.from told.from told.to within.after within.ordered)
      ∙ map-append (under_inside p.inside) (drop p.from (take told.from row)) (drop told.from (take told.to row)) in
      moved_is rows ps cut p wide_there wide_within
      ∙ ap (λ ms. ((members_in_parts rows (take cut.part ps) ++ ms) ++ last_in rows ps cut p) ++ map (under_inside 1) (members_in_part rows (cut_out p cut))) nothing_first
      ∙ ap (λ ms. (ms ++ last_in rows ps cut p) ++ map (under_inside 1) (members_in_part rows (cut_out p cut))) (append-nil (members_in_parts rows (take cut.part ps)))
      ∙ ap (λ ms. (members_in_parts rows (take cut.part ps) ++ ms) ++ map (under_inside 1) (members_in_part rows (cut_out p cut))) (nothing_after cut.part cut.to is.part is.to)
      ∙ ap (λ ms. ms ++ map (under_inside 1) (members_in_part rows (cut_out p cut))) (append-nil (members_in_parts rows (take cut.part ps)))
      ∙ ap (λ n. members_in_parts rows (take n ps) ++ map (under_inside 1) (members_in_part rows (cut_out p cut))) is.part
      ∙ ap (λ ms. before ++ map (under_inside 1) ms) whole
      ∙ ap (λ ms. before ++ ms) (map-append (under_inside 1) free inner)
      ∙ ap (λ ms. before ++ (ms ++ map (under_inside 1) inner)) (free_inside free is.free)
      ∙ sym (append_assoc before free (map (under_inside 1) inner))
      ∙ ap (λ ms. ms ++ map (under_inside 1) inner) (sym (append-nil (before ++ free)))
      ∙ ap (λ ms. ((before ++ free) ++ ms) ++ map (under_inside 1) inner) (sym (nothing_after told.part told.to refl refl))
      ∙ sym (moved_is rows ps told p is.there within)

-- what stands at a place stands in its parts
pub place_is : (fronts : List (List Part)) (rows : List (List Member)) (s : Span) → members_in_parts rows (place_parts fronts s) ≡ members_at fronts rows s
place_is fronts rows s =
    let front : List Part = slice_index_or fronts s.row [] in
    let row : List Member = take s.len (slice_index_or rows s.row []) in
    flat_map-append (members_in_part rows) front (record { row = s.row; from = 0; to = s.len; inside = 0 } ∷ [])
    ∙ ap (λ ms. members_in_parts rows front ++ ms) (append-nil (map (under_inside 0) row) ∙ inside_none row)

-- parts that are put down one after the other, those alone that have places
pub moved_pushed : (ps : List Part) (cut : Cut) (p : Part) (start first before after last all : List Part) → slice_get ps cut.part ≡ Some p → start ≡ [] →
    first ≡ start ++ filter has_places (take cut.part ps) → before ≡ first ++ filter has_places (record p { to = cut.from } ∷ []) →
    after ≡ before ++ filter has_places (record p { from = cut.to } ∷ []) → last ≡ after ++ filter has_places (drop (cut.part + 1) ps) →
    all ≡ last ++ filter has_places (inner_part p cut ∷ []) → all ≡ filter has_places (moved ps cut)
moved_pushed ps cut p start first before after last all there empty e1 e2 e3 e4 e5 =
    let f : List Part → List Part = filter has_places in
    let starts : List Part = take cut.part ps in
    let ends : List Part = drop (cut.part + 1) ps in
    let b : Part = record p { to = cut.from } in
    let a : Part = record p { from = cut.to } in
    let first_is : first ≡ f starts = e1 ∙ ap (λ xs. xs ++ f starts) empty in
    let before_is : before ≡ f starts ++ f (b ∷ []) = e2 ∙ ap (λ xs. xs ++ f (b ∷ [])) first_is in
    let around_is : f (b ∷ []) ++ f (a ∷ []) ≡ f (around p cut) = sym (filter-append has_places (b ∷ []) (a ∷ [])) in
    let after_is : after ≡ f (starts ++ around p cut) =
    e3 ∙ ap (λ xs. xs ++ f (a ∷ [])) before_is ∙ append_assoc (f starts) (f (b ∷ [])) (f (a ∷ [])) ∙ ap (λ xs. f starts ++ xs) around_is
    ∙ sym (filter-append has_places starts (around p cut)) in
    let last_is : last ≡ f ((starts ++ around p cut) ++ ends) = e4 ∙ ap (λ xs. xs ++ f ends) after_is ∙ sym (filter-append has_places (starts ++ around p cut) ends) in
    let all_is : all ≡ f (((starts ++ around p cut) ++ ends) ++ inner_part p cut ∷ []) =
    e5 ∙ ap (λ xs. xs ++ f (inner_part p cut ∷ [])) last_is ∙ sym (filter-append has_places ((starts ++ around p cut) ++ ends) (inner_part p cut ∷ [])) in
    all_is ∙ ap (λ (o : Option Part). f (option_map_or (λ (p : Part). (starts ++ around p cut ++ ends) ++ inner_part p cut ∷ []) o [])) (sym there)

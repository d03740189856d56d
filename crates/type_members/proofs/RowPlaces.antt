-- Where the members of types stand in rows, and that rows which come later don't change it.
use Rattle.std.proofs.Common.{◌≡◌, ◌∙◌, refl, sym, ap, subst, ℕ, zero, suc, ◌+◌, ◌<◌, ◌≤◌, ◌⊎◌, inl, inr, ◌&&◌, Bool, true, false, List, [], ◌∷◌, ◌++◌, Option, Some, None, arith, map, filter, length, take, get_or, ltb, length-append, nat_eq, ◌≢◌}
use Rattle.std.specs.Prelude.{drop, slice_get}
use Rattle.std.specs.Option.{option_map_or}
use Rattle.std.specs.List.{list_all}
use Rattle.std.proofs.lemmas.Bool.Decides.{eqb_tells, nat_tests}
use Rattle.std.proofs.lemmas.List.{get_or-map, get_or_append_left, get_or_past, get_or_push, map-append, length-map, take_all}
use Rattle.std.proofs.lemmas.List.Elements.{All-push}
use Rattle.type_heads.specs.Table.{TypeHead, numbers_from}
use Rattle.type_heads.specs.Types.{TypeBody, Member}
use Rattle.type_heads.specs.Members.{members_of}
use Rattle.type_members.specs.Ancestry.{HasEnd}
use Rattle.type_members.specs.Listed.{seen_listed, seen_row}
use Rattle.type_members.specs.Origins.{IsFirstRow, IsWhole}
use Rattle.type_members.specs.RowEnds.{AreEnds, AreRows, IsAt, IsEnd, IsSharedRow, StandsAt}
use Rattle.type_members.specs.Shared.{AreStarted, IsStarted, around, fronts_in, has_places, inner_part, is_cut, members_at, members_in_part, members_in_parts, moved, parts_from, place_parts, under_inside}
use Rattle.type_members.specs.declared.places.Part.{Part}
use Rattle.type_members.specs.declared.places.Span.{Span}
use Rattle.type_members.specs.declared.rows.Cut.{Cut}
use Rattle.type_members.specs.declared.rows.MemberRow.{MemberRow}
use Rattle.type_members.specs.declared.rows.RowEnd.{RowEnd}
use Rattle.type_members.specs.declared.rows.Start.{Start}
use Rattle.type_members.proofs.ListTests.{all_append, all_dropped, all_filtered, all_taken, all_weaker, both}
use Rattle.type_members.proofs.RowSteps.{first_alone}

-- an end of a row is the place of its type
pub end_at : (heads : List TypeHead) (bodies : List TypeBody) (rows : List MemberRow) (i j t : ℕ) (row : MemberRow) (e : RowEnd) → AreRows heads bodies rows → i < length rows →
    row ≡ get_or rows i row → j < length row.ends.items → e ≡ get_or row.ends.items j e → e.of ≡ t →
    StandsAt heads bodies rows t (record { span = record { row = i; len = e.len }; depth = e.depth })
end_at heads bodies rows i j t row e are in_rows row_is in_ends end_is of_is =
    let front : List Member = members_in_parts (map seen_row rows) row.front.items in
    let shared : IsSharedRow heads bodies rows row = subst (IsSharedRow heads bodies rows) (sym row_is) (are.shared i row in_rows) in
    let one : IsEnd heads bodies front (seen_row row) e = subst (IsEnd heads bodies front (seen_row row)) (sym end_is) (shared j e in_ends) in
    let front_is : get_or (fronts_in rows) i [] ≡ row.front.items =
    get_or-map (λ (r : MemberRow). r.front.items) rows i row [] in_rows ∙ ap (λ (r : MemberRow). r.front.items) (sym row_is) in
    let members_are : get_or (map seen_row rows) i [] ≡ seen_row row = get_or-map seen_row rows i row [] in_rows ∙ ap seen_row (sym row_is) in
    record {
      at = record {
        there = in_rows;
        members = ap (λ ps. members_in_parts (map seen_row rows) ps ++ take e.len (get_or (map seen_row rows) i [])) front_is ∙ ap (λ ms. front ++ take e.len ms) members_are
            ∙ one.members ∙ ap (members_of heads bodies) of_is;
      };
      ended = λ less. subst (λ u. HasEnd heads (Some u) e.depth) of_is (one.ended less);
    }

-- Parts of rows

-- parts are of the first rows
abbrev are_below : ℕ → List Part → Bool
are_below n ps = list_all (λ (p : Part). ltb p.row n) ps

parts_kept : (rows more : List (List Member)) (ps : List Part) → are_below (length rows) ps ≡ true → members_in_parts (rows ++ more) ps ≡ members_in_parts rows ps
parts_kept rows more [] f = refl
parts_kept rows more (p ∷ ps) f =
    let here : (ltb p.row (length rows) ≡ true) × (are_below (length rows) ps ≡ true) = both (ltb p.row (length rows)) (are_below (length rows) ps) f in
    let less : p.row < length rows = grind (arith, nat_tests) in
    ap (λ row. map (under_inside p.inside) (drop p.from (take p.to row)) ++ members_in_parts (rows ++ more) ps) (get_or_append_left rows more [] p.row less)
    ∙ ap (λ ms. members_in_part rows p ++ ms) (parts_kept rows more ps here.1)

more_below : (m n : ℕ) (ps : List Part) → m ≤ n → are_below m ps ≡ true → are_below n ps ≡ true
more_below m n ps le f = all_weaker (λ (p : Part). ltb p.row m) (λ (p : Part). ltb p.row n) (λ p h. grind (arith, nat_tests)) ps f

one_below : (a n : ℕ) → a < n → ltb a n ≡ true
one_below a n less = grind (arith, nat_tests)

-- parts of which a cut is moved to the end are of the same rows
part_below : (n : ℕ) (ps : List Part) (k : ℕ) (p : Part) → are_below n ps ≡ true → slice_get ps k ≡ Some p → ltb p.row n ≡ true
part_below n [] k p f at = absurd (cc at)
part_below n (q ∷ ps) zero p f at = ap (λ (r : Part). ltb r.row n) (sym (same at)) ∙ (both (ltb q.row n) (are_below n ps) f).0
  where
    same : Some q ≡ Some p → q ≡ p
    same e = cc
part_below n (q ∷ ps) (suc k) p f at = part_below n ps k p (both (ltb q.row n) (are_below n ps) f).1 at

moved_below : (n : ℕ) (ps : List Part) (cut : Cut) → are_below n ps ≡ true → are_below n (moved ps cut) ≡ true
moved_below n ps cut f = by (slice_get ps cut.part) refl
  where
    below : Part → Bool
    below p = ltb p.row n

    by : (o : Option Part) → slice_get ps cut.part ≡ o →
        are_below n (option_map_or (λ (p : Part). (take cut.part ps ++ around p cut ++ drop (cut.part + 1) ps) ++ inner_part p cut ∷ []) o []) ≡ true
    by None at = refl
    by (Some p) at =
        let here : ltb p.row n ≡ true = part_below n ps cut.part p f at in
        all_append (λ (p : Part). ltb p.row n) ((take cut.part ps ++ around p cut) ++ drop (cut.part + 1) ps) (inner_part p cut ∷ [])
        (all_append (λ (p : Part). ltb p.row n) (take cut.part ps ++ around p cut) (drop (cut.part + 1) ps)
        (all_append (λ (p : Part). ltb p.row n) (take cut.part ps) (around p cut) (all_taken (λ (p : Part). ltb p.row n) cut.part ps f) (ap (λ b. b && (b && true)) here))
        (all_dropped (λ (p : Part). ltb p.row n) (cut.part + 1) ps f))
        (ap (λ b. b && true) here)

-- so is what a row comes after
from_below : (rows : List MemberRow) (n : ℕ) (start : Option Start) →
    ((s : Start) → start ≡ Some s → s.at.row < n) → ((s : Start) → start ≡ Some s → are_below n (get_or (fronts_in rows) s.at.row []) ≡ true) →
    are_below n (parts_from (fronts_in rows) start) ≡ true
from_below rows n None earlier fronts = refl
from_below rows n (Some s) earlier fronts =
    all_filtered (λ (p : Part). ltb p.row n) has_places (option_map_or (moved (place_parts (fronts_in rows) s.at)) s.cut (place_parts (fronts_in rows) s.at)) (by s.cut)
  where
    at_place : are_below n (place_parts (fronts_in rows) s.at) ≡ true
    at_place =
        all_append (λ (p : Part). ltb p.row n) (get_or (fronts_in rows) s.at.row []) (record { row = s.at.row; from = 0; to = s.at.len; inside = 0 } ∷ []) (fronts s refl)
        (ap (λ b. b && true) (one_below s.at.row n (earlier s refl)))

    by : (o : Option Cut) → are_below n (option_map_or (moved (place_parts (fronts_in rows) s.at)) o (place_parts (fronts_in rows) s.at)) ≡ true
    by None = at_place
    by (Some cut) = moved_below n (place_parts (fronts_in rows) s.at) cut at_place

-- what a row comes after is of the rows before it
started_below : (steps : ℕ) (rows : List MemberRow) → AreStarted rows → (n : ℕ) (r : MemberRow) → n ≤ steps → n ≤ length rows → IsStarted rows n r → are_below n r.front.items ≡ true
started_below zero rows are n r few within is =
    ap (are_below n) is.front
    ∙ from_below rows n r.start is.earlier (λ s at. let less : s.at.row < n = is.earlier s at in absurd (omega (arith, less, few)))
started_below (suc steps) rows are n r few within is =
    ap (are_below n) is.front
    ∙ from_below rows n r.start is.earlier
    (λ s at. before s at (λ less in_rows. started_below steps rows are s.at.row (get_or rows s.at.row r) (omega (arith, less, few)) (omega (arith, in_rows)) (are s.at.row r in_rows)))
  where
    before : (s : Start) → r.start ≡ Some s → (s.at.row < n → s.at.row < length rows → are_below s.at.row (get_or rows s.at.row r).front.items ≡ true) →
        are_below n (get_or (fronts_in rows) s.at.row []) ≡ true
    before s at on =
        let less : s.at.row < n = is.earlier s at in
        let in_rows : s.at.row < length rows = omega (arith, less, within) in
        ap (are_below n) (get_or-map (λ (r : MemberRow). r.front.items) rows s.at.row r [] in_rows)
        ∙ more_below s.at.row n (get_or rows s.at.row r).front.items (omega (arith, less)) (on less in_rows)

front_below : (rows : List MemberRow) (n : ℕ) (r : MemberRow) → AreStarted rows → n ≤ length rows → IsStarted rows n r → are_below (length rows) r.front.items ≡ true
front_below rows n r are within is = more_below n (length rows) r.front.items within (started_below n rows are n r (omega arith) within is)

place_below : (rows : List MemberRow) (k : ℕ) (d : MemberRow) → AreStarted rows → k < length rows → are_below (length rows) (get_or (fronts_in rows) k []) ≡ true
place_below rows k d are less =
    ap (are_below (length rows)) (get_or-map (λ (r : MemberRow). r.front.items) rows k d [] less)
    ∙ front_below rows k (get_or rows k d) are (omega (arith, less)) (are k d less)

-- A row more

fronts_more : (rows more : List MemberRow) (k : ℕ) → k < length rows → get_or (fronts_in (rows ++ more)) k [] ≡ get_or (fronts_in rows) k []
fronts_more rows more k less =
    let there : k < length (fronts_in rows) = omega (arith, less, length-map rows (λ (r : MemberRow). r.front.items)) in
    ap (λ fs. get_or fs k []) (map-append (λ (r : MemberRow). r.front.items) rows more) ∙ get_or_append_left (fronts_in rows) (fronts_in more) [] k there

rows_more : (rows more : List MemberRow) (k : ℕ) → k < length rows → get_or (map seen_row (rows ++ more)) k [] ≡ get_or (map seen_row rows) k []
rows_more rows more k less =
    let there : k < length (map seen_row rows) = omega (arith, less, length-map rows seen_row) in
    ap (λ rs. get_or rs k []) (map-append seen_row rows more) ∙ get_or_append_left (map seen_row rows) (map seen_row more) [] k there

parts_same : (rows more : List MemberRow) (ps : List Part) → are_below (length rows) ps ≡ true → members_in_parts (map seen_row (rows ++ more)) ps ≡ members_in_parts (map seen_row rows) ps
parts_same rows more ps f =
    ap (λ rs. members_in_parts rs ps) (map-append seen_row rows more)
    ∙ parts_kept (map seen_row rows) (map seen_row more) ps (ap (λ n. are_below n ps) (length-map rows seen_row) ∙ f)

started_kept : (rows more : List MemberRow) (n : ℕ) (r : MemberRow) → n ≤ length rows → IsStarted rows n r → IsStarted (rows ++ more) n r
started_kept rows more n r within is = record {
  front = is.front ∙ by r.start refl;
  earlier = is.earlier;
  cuts = λ s at. ap (λ ps. is_cut ps s.cut) (sym (places_more s at)) ∙ is.cuts s at;
}
  where
    places_more : (s : Start) → r.start ≡ Some s → place_parts (fronts_in rows) s.at ≡ place_parts (fronts_in (rows ++ more)) s.at
    places_more s at =
        let less : s.at.row < n = is.earlier s at in
        ap (λ ps. ps ++ record { row = s.at.row; from = 0; to = s.at.len; inside = 0 } ∷ []) (sym (fronts_more rows more s.at.row (omega (arith, less, within))))

    by : (o : Option Start) → r.start ≡ o → parts_from (fronts_in rows) o ≡ parts_from (fronts_in (rows ++ more)) o
    by None at = refl
    by (Some s) at = ap (λ ps. filter has_places (option_map_or (moved ps) s.cut ps)) (places_more s at)

shared_kept : (heads : List TypeHead) (bodies : List TypeBody) (rows more : List MemberRow) (r : MemberRow) → are_below (length rows) r.front.items ≡ true →
    IsSharedRow heads bodies rows r → IsSharedRow heads bodies (rows ++ more) r
shared_kept heads bodies rows more r f shared = subst (λ front. AreEnds heads bodies front (seen_row r) r.ends.items) (sym (parts_same rows more r.front.items f)) shared

started_pushed : (rows : List MemberRow) (row : MemberRow) → AreStarted rows → IsStarted rows (length rows) row → AreStarted (rows ++ row ∷ [])
started_pushed rows row are is = λ n r less. by n r less (eqb_tells n (length rows))
  where
    by : (n : ℕ) (r : MemberRow) → n < length (rows ++ row ∷ []) → ((nat_eq n (length rows) ≡ true) × (n ≡ length rows)) ⊎ ((nat_eq n (length rows) ≡ false) × (n ≢ length rows)) →
        IsStarted (rows ++ row ∷ []) n (get_or (rows ++ row ∷ []) n r)
    by n r less (inl (e, same)) =
        subst (λ q. IsStarted (rows ++ row ∷ []) n q) (sym (get_or_push rows row r n (sym same)))
        (subst (λ k. IsStarted (rows ++ row ∷ []) k row) (sym same) (started_kept rows (row ∷ []) (length rows) row (omega arith) is))
    by n r less (inr (e, other)) =
        let longer : length (rows ++ row ∷ []) ≡ length rows + 1 = length-append rows (row ∷ []) in
        let before : n < length rows = omega (arith, less, longer, other) in
        subst (λ q. IsStarted (rows ++ row ∷ []) n q) (sym (get_or_append_left rows (row ∷ []) r n before))
        (started_kept rows (row ∷ []) n (get_or rows n r) (omega (arith, before)) (are n r before))

pub rows_pushed : (heads : List TypeHead) (bodies : List TypeBody) (rows : List MemberRow) (row : MemberRow) → AreRows heads bodies rows → IsSharedRow heads bodies rows row →
    IsStarted rows (length rows) row → AreRows heads bodies (rows ++ row ∷ [])
rows_pushed heads bodies rows row are shared is = record {
  shared = All-push (IsSharedRow heads bodies (rows ++ row ∷ [])) rows row
      (λ k d less. shared_kept heads bodies rows (row ∷ []) (get_or rows k d) (front_below rows k (get_or rows k d) are.started (omega (arith, less)) (are.started k d less)) (are.shared k d less))
      (shared_kept heads bodies rows (row ∷ []) row (front_below rows (length rows) row are.started (omega arith) is) shared);
  started = started_pushed rows row are.started is;
}

-- what stands at a place of the rows before stays there
pub at_pushed : (heads : List TypeHead) (bodies : List TypeBody) (rows : List MemberRow) (row : MemberRow) (t : ℕ) (s : Span) → AreStarted rows → IsAt heads bodies rows t s →
    IsAt heads bodies (rows ++ row ∷ []) t s
at_pushed heads bodies rows row t s are at =
    let longer : length (rows ++ row ∷ []) ≡ length rows + 1 = length-append rows (row ∷ []) in
    let there : s.row < length rows = at.there in
    record {
      there = omega (arith, there, longer);
      members = ap (λ ps. members_in_parts (map seen_row (rows ++ row ∷ [])) ps ++ take s.len (get_or (map seen_row (rows ++ row ∷ [])) s.row [])) (fronts_more rows (row ∷ []) s.row there)
          ∙ ap (λ ms. ms ++ take s.len (get_or (map seen_row (rows ++ row ∷ [])) s.row []))
          (parts_same rows (row ∷ []) (get_or (fronts_in rows) s.row []) (place_below rows s.row row are there))
          ∙ ap (λ ms. members_in_parts (map seen_row rows) (get_or (fronts_in rows) s.row []) ++ take s.len ms) (rows_more rows (row ∷ []) s.row there)
          ∙ at.members;
    }

-- a row without a front that has all members of a type
pub alone_at : (heads : List TypeHead) (bodies : List TypeBody) (rows : List MemberRow) (row : MemberRow) (t : ℕ) → row.front.items ≡ [] → seen_row row ≡ members_of heads bodies t →
    IsAt heads bodies (rows ++ row ∷ []) t (record { row = length rows; len = length row.members.items })
alone_at heads bodies rows row t none is =
    let longer : length (rows ++ row ∷ []) ≡ length rows + 1 = length-append rows (row ∷ []) in
    let there : length rows < length (rows ++ row ∷ []) = omega (arith, longer) in
    let last : get_or (rows ++ row ∷ []) (length rows) row ≡ row = get_or_push rows row row (length rows) refl in
    let front_is : get_or (fronts_in (rows ++ row ∷ [])) (length rows) [] ≡ [] =
    get_or-map (λ (r : MemberRow). r.front.items) (rows ++ row ∷ []) (length rows) row [] there ∙ ap (λ (r : MemberRow). r.front.items) last ∙ none in
    let members_are : get_or (map seen_row (rows ++ row ∷ [])) (length rows) [] ≡ seen_row row = get_or-map seen_row (rows ++ row ∷ []) (length rows) row [] there ∙ ap seen_row last in
    let short : length (seen_row row) ≤ length row.members.items = omega (arith, length-map row.members.items seen_listed) in
    record {
      there = there;
      members = ap (λ ps. members_in_parts (map seen_row (rows ++ row ∷ [])) ps ++ take (length row.members.items) (get_or (map seen_row (rows ++ row ∷ [])) (length rows) [])) front_is
          ∙ ap (take (length row.members.items)) members_are ∙ take_all (length row.members.items) (seen_row row) short ∙ is;
    }

-- a row that begins with a type, and went on with others
pub first_pushed : (heads : List TypeHead) (bodies : List TypeBody) (rows : List MemberRow) (old new : MemberRow) (t : ℕ) → AreRows heads bodies rows → IsFirstRow heads bodies rows t old →
    ((front : List Member) → IsWhole heads bodies front old t → AreEnds heads bodies front (seen_row new) new.ends.items) → new.front.items ≡ old.front.items → new.start ≡ old.start →
    AreRows heads bodies (rows ++ new ∷ [])
first_pushed heads bodies rows old new t are first ends front start =
    rows_pushed heads bodies rows new are
    (subst (λ ps. AreEnds heads bodies (members_in_parts (map seen_row rows) ps) (seen_row new) new.ends.items) (sym front) (ends (members_in_parts (map seen_row rows) old.front.items) first.whole))
    (record {
      front = front ∙ first.started.front ∙ ap (parts_from (fronts_in rows)) (sym start);
      earlier = λ s at. first.started.earlier s (sym start ∙ at);
      cuts = λ s at. first.started.cuts s (sym start ∙ at);
    })

-- a row of the members of one type alone
pub alone_pushed : (heads : List TypeHead) (bodies : List TypeBody) (rows : List MemberRow) (row : MemberRow) (t : ℕ) → AreRows heads bodies rows → row.start ≡ None → row.front.items ≡ [] →
    seen_row row ≡ members_of heads bodies t → row.ends.items ≡ record { of = t; len = length row.members.items; depth = length heads } ∷ [] → AreRows heads bodies (rows ++ row ∷ [])
alone_pushed heads bodies rows row t are begins front is one =
    let first : IsFirstRow heads bodies rows t row = first_alone heads bodies rows row t begins front is one in
    rows_pushed heads bodies rows row are first.whole.ends first.started

-- What stands in rows and at places, as it is asked for

pub front_there : (rows : List MemberRow) (row : MemberRow) (k : ℕ) → k < length rows → row ≡ get_or rows k row → row.front.items ≡ get_or (fronts_in rows) k []
front_there rows row k less is = ap (λ (r : MemberRow). r.front.items) is ∙ sym (get_or-map (λ (r : MemberRow). r.front.items) rows k row [] less)

pub front_past : (rows : List MemberRow) (k : ℕ) → length rows ≤ k → [] ≡ get_or (fronts_in rows) k []
front_past rows k past = sym (get_or_past (fronts_in rows) k [] (omega (arith, past, length-map rows (λ (r : MemberRow). r.front.items))))

pub row_there : (rows : List MemberRow) (row : MemberRow) (k : ℕ) → k < length rows → row ≡ get_or rows k row → seen_row row ≡ get_or (map seen_row rows) k []
row_there rows row k less is = ap seen_row is ∙ sym (get_or-map seen_row rows k row [] less)

pub row_past : (rows : List MemberRow) (k : ℕ) → length rows ≤ k → [] ≡ get_or (map seen_row rows) k []
row_past rows k past = sym (get_or_past (map seen_row rows) k [] (omega (arith, past, length-map rows seen_row)))

pub list_there : (rows : List MemberRow) (spans : List Span) (s : Span) (t : ℕ) → t < length spans → s ≡ get_or spans t s →
    members_at (fronts_in rows) (map seen_row rows) s ≡ get_or (map (members_at (fronts_in rows) (map seen_row rows)) spans) t []
list_there rows spans s t less is =
    ap (members_at (fronts_in rows) (map seen_row rows)) is ∙ sym (get_or-map (members_at (fronts_in rows) (map seen_row rows)) spans t s [] less)

pub list_past : (rows : List MemberRow) (spans : List Span) (t : ℕ) → length spans ≤ t →
    members_at (fronts_in rows) (map seen_row rows) (record { row = length rows; len = 0 }) ≡ get_or (map (members_at (fronts_in rows) (map seen_row rows)) spans) t []
list_past rows spans t past =
    ap (λ ps. members_in_parts (map seen_row rows) ps ++ []) (sym (front_past rows (length rows) (omega arith)))
    ∙ sym (get_or_past (map (members_at (fronts_in rows) (map seen_row rows)) spans) t [] (omega (arith, past, length-map spans (members_at (fronts_in rows) (map seen_row rows)))))

-- Places of all types

-- these are the places of types from one on
abbrev pub AreAt : List TypeHead → List TypeBody → List MemberRow → ℕ → List Span → Type 0
AreAt heads bodies rows t [] = Unit {0}
AreAt heads bodies rows t (s ∷ ss) = IsAt heads bodies rows t s × AreAt heads bodies rows (t + 1) ss

pub at_more : (heads : List TypeHead) (bodies : List TypeBody) (rows : List MemberRow) (t : ℕ) (ss : List Span) (s : Span) → AreAt heads bodies rows t ss →
    IsAt heads bodies rows (t + length ss) s → AreAt heads bodies rows t (ss ++ s ∷ [])
at_more heads bodies rows t [] s are at = let e : t + 0 ≡ t = omega arith in (subst (λ n. IsAt heads bodies rows n s) e at, tt)
at_more heads bodies rows t (x ∷ ss) s are at =
    let e : t + suc (length ss) ≡ t + 1 + length ss = omega arith in
    (are.0, at_more heads bodies rows (t + 1) ss s are.1 (subst (λ n. IsAt heads bodies rows n s) e at))

pub at_kept : (heads : List TypeHead) (bodies : List TypeBody) (rows new : List MemberRow) (t : ℕ) (ss : List Span) →
    ((t : ℕ) (s : Span) → IsAt heads bodies rows t s → IsAt heads bodies new t s) → AreAt heads bodies rows t ss → AreAt heads bodies new t ss
at_kept heads bodies rows new t [] kept are = tt
at_kept heads bodies rows new t (s ∷ ss) kept are = (kept t s are.0, at_kept heads bodies rows new (t + 1) ss kept are.1)

pub lists_at : (heads : List TypeHead) (bodies : List TypeBody) (rows : List MemberRow) (t : ℕ) (ss : List Span) (hs : List TypeHead) → AreAt heads bodies rows t ss →
    length ss ≡ length hs → map (members_at (fronts_in rows) (map seen_row rows)) ss ≡ map (members_of heads bodies) (numbers_from t hs)
lists_at heads bodies rows t [] [] are long = refl
lists_at heads bodies rows t [] (h ∷ hs) are long = absurd (omega (arith, long))
lists_at heads bodies rows t (s ∷ ss) [] are long = absurd (omega (arith, long))
lists_at heads bodies rows t (s ∷ ss) (h ∷ hs) are long =
    let rest : length ss ≡ length hs = omega (arith, long) in
    ap (λ ms. ms ∷ map (members_at (fronts_in rows) (map seen_row rows)) ss) are.0.members ∙ ap (λ lists. members_of heads bodies t ∷ lists) (lists_at heads bodies rows (t + 1) ss hs are.1 rest)

-- Rows that go on with one type more, and the types whose members are the first of a row, after what stands in front of it.
use Rattle.std.proofs.Common.{◌≡◌, ◌∙◌, refl, sym, ap, subst, ℕ, ◌+◌, ◌<◌, ◌≤◌, ◌&&◌, Bool, true, false, not, nat_eq, true≢false, List, [], ◌∷◌, ◌++◌, Option, Some, None, arith, map, length, take, slice_index_or, length-append}
use Rattle.std.specs.Option.{option_map_or}
use Rattle.std.proofs.lemmas.Bool.Decides.{nat_tests}
use Rattle.std.proofs.lemmas.List.{append_assoc, length-map, take-append-le}
use Rattle.std.proofs.Math.Seq.{take-length}
use Rattle.std.proofs.lemmas.List.Elements.{All-nil, All-push}
use Rattle.type_heads.specs.Table.{TypeHead, base}
use Rattle.type_heads.specs.Types.{TypeBody, Member}
use Rattle.type_heads.specs.Members.{is_conditional, members_of}
use Rattle.type_members.specs.Ancestry.{HasEnd}
use Rattle.type_members.specs.Listed.{seen_listed, seen_row}
use Rattle.type_members.specs.Origins.{IsFirstRow, IsStart, IsWhole}
use Rattle.type_members.specs.RowEnds.{AreEnds, IsEnd, is_heir, own_part}
use Rattle.type_members.specs.Shared.{fronts_in, members_in_parts, parts_from}
use Rattle.type_members.specs.declared.rows.MemberRow.{MemberRow}
use Rattle.type_members.specs.declared.rows.RowEnd.{RowEnd}
use Rattle.type_members.specs.declared.rows.Start.{Start}
use Rattle.type_members.proofs.Ancestry.{end_more}
use Rattle.type_members.proofs.Inheriting.{members_more}

-- the last type of a row has all its members
whole_end : (heads : List TypeHead) (bodies : List TypeBody) (front row : List Member) (t len depth : ℕ) → front ++ row ≡ members_of heads bodies t → len ≡ length row →
    (depth < length heads → HasEnd heads (Some t) depth) → IsEnd heads bodies front row (record { of = t; len = len; depth = depth })
whole_end heads bodies front row t len depth is all ended =
    let le : len ≤ length row = omega (arith, all) in
    record { members = ap (λ n. front ++ take n row) all ∙ ap (λ ms. front ++ ms) (take-length row) ∙ is; within = le; ended = ended }

-- a row that is longer begins with the members of the same types
longer_end : (heads : List TypeHead) (bodies : List TypeBody) (front row more : List Member) (e : RowEnd) → IsEnd heads bodies front row e → IsEnd heads bodies front (row ++ more) e
longer_end heads bodies front row more e is =
    let longer : length (row ++ more) ≡ length row + length more = length-append row more in
    let le : e.len ≤ length (row ++ more) = omega (arith, longer, is.within) in
    record { members = ap (λ ms. front ++ ms) (take-append-le e.len row more is.within) ∙ is.members; within = le; ended = is.ended }

longer_ends : (heads : List TypeHead) (bodies : List TypeBody) (front row more : List Member) (es : List RowEnd) → AreEnds heads bodies front row es → AreEnds heads bodies front (row ++ more) es
longer_ends heads bodies front row more es are = λ k d less. longer_end heads bodies front row more (slice_index_or es k d) (are k d less)

-- a row with one end
one_end : (heads : List TypeHead) (bodies : List TypeBody) (front : List Member) (row : MemberRow) (t depth : ℕ) → front ++ seen_row row ≡ members_of heads bodies t →
    (depth < length heads → HasEnd heads (Some t) depth) → row.ends.items ≡ record { of = t; len = length row.members.items; depth = depth } ∷ [] → IsWhole heads bodies front row t
one_end heads bodies front row t depth is ended one = record {
  members = is;
  ends = subst (AreEnds heads bodies front (seen_row row)) (sym one)
      (All-push (IsEnd heads bodies front (seen_row row)) [] (record { of = t; len = length row.members.items; depth = depth }) (All-nil (IsEnd heads bodies front (seen_row row)))
      (whole_end heads bodies front (seen_row row) t (length row.members.items) depth is (sym (length-map row.members.items seen_listed)) ended));
}

-- a row that starts somewhere, and has what its type has beside what stands there
pub first_at : (heads : List TypeHead) (bodies : List TypeBody) (rows : List MemberRow) (row : MemberRow) (start : Option Start) (rest : List Member) (t depth : ℕ) → row.start ≡ start →
    row.front.items ≡ parts_from (fronts_in rows) start → seen_row row ≡ rest →
    row.ends.items ≡ record { of = t; len = length row.members.items; depth = depth } ∷ [] → ((s : Start) → start ≡ Some s → IsStart rows s) →
    members_in_parts (map seen_row rows) (parts_from (fronts_in rows) start) ++ rest ≡ members_of heads bodies t →
    (depth < length heads → HasEnd heads (Some t) depth) → IsFirstRow heads bodies rows t row
first_at heads bodies rows row start rest t depth begins front own one there is ended =
    let all : members_in_parts (map seen_row rows) row.front.items ++ seen_row row ≡ members_of heads bodies t =
    ap (λ ps. members_in_parts (map seen_row rows) ps ++ seen_row row) front ∙ ap (λ ms. members_in_parts (map seen_row rows) (parts_from (fronts_in rows) start) ++ ms) own ∙ is in
    record {
      whole = one_end heads bodies (members_in_parts (map seen_row rows) row.front.items) row t depth all ended one;
      started = record {
        front = front ∙ ap (parts_from (fronts_in rows)) (sym begins);
        earlier = λ s at. (there s (sym begins ∙ at)).there;
        cuts = λ s at. (there s (sym begins ∙ at)).cut;
      };
    }

-- where nothing is, is no start
pub no_start : (rows : List MemberRow) (s : Start) → None ≡ Some s → IsStart rows s
no_start rows s at = absurd (cc at)

-- a row of all members of a type, which starts at no other
pub first_alone : (heads : List TypeHead) (bodies : List TypeBody) (rows : List MemberRow) (row : MemberRow) (t : ℕ) → row.start ≡ None → row.front.items ≡ [] →
    seen_row row ≡ members_of heads bodies t → row.ends.items ≡ record { of = t; len = length row.members.items; depth = length heads } ∷ [] → IsFirstRow heads bodies rows t row
first_alone heads bodies rows row t begins front is one =
    first_at heads bodies rows row None (members_of heads bodies t) t (length heads) begins front is one (no_start rows) refl
    (λ less. absurd (omega (arith, less)))

pub went_on : (heads : List TypeHead) (bodies : List TypeBody) (front : List Member) (row new : MemberRow) (last depth heir : ℕ) → IsWhole heads bodies front row last →
    depth < length heads → HasEnd heads (Some last) depth → base heads heir ≡ Some last → is_conditional bodies heir ≡ false → seen_row new ≡ seen_row row ++ own_part heads bodies heir →
    new.ends.items ≡ row.ends.items ++ record { of = heir; len = length new.members.items; depth = depth + 1 } ∷ [] → IsWhole heads bodies front new heir
went_on heads bodies front row new last depth heir whole below end inherits unconditional more ends =
    let is : front ++ seen_row new ≡ members_of heads bodies heir =
    ap (λ ms. front ++ ms) more ∙ sym (append_assoc front (seen_row row) (own_part heads bodies heir)) ∙ ap (λ ms. ms ++ own_part heads bodies heir) whole.members
    ∙ sym (members_more heads bodies last heir depth inherits unconditional end below) in
    let before : AreEnds heads bodies front (seen_row new) row.ends.items =
    subst (λ ms. AreEnds heads bodies front ms row.ends.items) (sym more) (longer_ends heads bodies front (seen_row row) (own_part heads bodies heir) row.ends.items whole.ends) in
    record {
      members = is;
      ends = subst (AreEnds heads bodies front (seen_row new)) (sym ends)
          (All-push (IsEnd heads bodies front (seen_row new)) row.ends.items (record { of = heir; len = length new.members.items; depth = depth + 1 }) before
          (whole_end heads bodies front (seen_row new) heir (length new.members.items) (depth + 1) is (sym (length-map new.members.items seen_listed))
          (λ less. end_more heads last heir depth inherits end)));
    }

never_both : (a : Bool) → (a && false) ≡ false
never_both true = refl
never_both false = refl

-- a type that inherits from another without a condition
pub heir_found : (heads : List TypeHead) (bodies : List TypeBody) (t u : ℕ) → is_heir heads bodies t u ≡ true → (base heads u ≡ Some t) × (is_conditional bodies u ≡ false)
heir_found heads bodies t u is = by (base heads u) is
  where
    same : (b : ℕ) (c : Bool) → (nat_eq b t && not c) ≡ true → (Some b ≡ Some t) × (c ≡ false)
    same b true h = absurd (true≢false (sym h ∙ never_both (nat_eq b t)))
    same b false h = let e : b ≡ t = grind (arith, nat_tests) in (ap Some e, refl)

    by : (o : Option ℕ) → option_map_or (λ b. nat_eq b t && not (is_conditional bodies u)) o false ≡ true → (o ≡ Some t) × (is_conditional bodies u ≡ false)
    by None h = absurd (true≢false (sym h))
    by (Some b) h = same b (is_conditional bodies u) h

-- The fields of a part of the members of a row are a part of the fields of the row.
use Rattle.std.proofs.Common.{◌≡◌, ◌∙◌, refl, sym, ap, ap₂, ℕ, zero, suc, ◌+◌, ◌<◌, List, [], ◌∷◌, ◌++◌, arith, map, length, take, drop, get_or, slice_index_or, length-append}
use Rattle.std.proofs.lemmas.List.{append_assoc, drop_more}
use Rattle.std.proofs.lemmas.List.Elements.{filter_map-append}
use Rattle.std.proofs.Math.ListN.{get_or-map}
use Rattle.type_members.specs.type_heads.Table.{TypeHead, TableField}
use Rattle.type_members.specs.type_heads.Types.{Member}
use Rattle.type_members.specs.type_heads.Members.{fields_among, fields_declared, table_field, table_fields}
use Rattle.type_members.specs.Listed.{seen_listed, seen_row}
use Rattle.type_members.specs.Shared.{fronts_in, list_at, members_at, part_at}
use Rattle.type_members.specs.declared.listed.ListedMember.{ListedMember}
use Rattle.type_members.specs.declared.places.Part.{Part}
use Rattle.type_members.specs.declared.places.Span.{Span}
use Rattle.type_members.specs.declared.rows.MemberRow.{MemberRow}
use Rattle.type_tables.specs.Entries.{member_entries}
use Rattle.type_tables.specs.FieldEnds.{all_ends, count_in, ends_from, part_of_fields, span_of_fields}
use Rattle.type_tables.specs.declared.field_rows.FieldRow.{FieldRow}
use Rattle.type_tables.proofs.FlatParts.{first_given, joined, part_given}
use Rattle.type_tables.proofs.SeenInside.{fields_inside, joined_at}
use Rattle.type_tables.proofs.SharedLists.{lists_made}

none_taken : {X : Type 0} (n : ℕ) (xs : List X) → xs ≡ [] → take n xs ≡ []
none_taken zero xs e = refl
none_taken (suc n) [] e = refl
none_taken (suc n) (x ∷ xs) e = let never : x ∷ xs ≡ [] = e in cc

abbrev tail_of : {X : Type 0} → List X → List X
tail_of [] = []
tail_of (x ∷ xs) = xs

module _ (heads : List TypeHead) where
  split : (m : Member) (ms : List Member) → table_fields heads (m ∷ ms) ≡ member_entries heads m ++ table_fields heads ms
  split m ms = filter_map-append (table_field heads) (fields_declared m m.written.member) (fields_among ms)

  split_length : (m : Member) (ms : List Member) → length (table_fields heads (m ∷ ms)) ≡ length (member_entries heads m) + length (table_fields heads ms)
  split_length m ms = ap length (split m ms) ∙ length-append (member_entries heads m) (table_fields heads ms)

  end_is : (n : ℕ) (ms : List Member) (k : ℕ) → slice_index_or (n ∷ ends_from heads n ms) k (n + length (table_fields heads ms)) ≡ n + length (table_fields heads (take k ms))
  end_is n ms zero = omega arith
  end_is n [] (suc k) = refl
  end_is n (m ∷ ms) (suc k) =
      let e : ℕ = length (member_entries heads m) in
      let all : n + length (table_fields heads (m ∷ ms)) ≡ (n + e) + length (table_fields heads ms) = omega (arith, split_length m ms) in
      let first : n + length (table_fields heads (m ∷ take k ms)) ≡ (n + e) + length (table_fields heads (take k ms)) = omega (arith, split_length m (take k ms)) in
      ap (slice_index_or ((n + e) ∷ ends_from heads (n + e) ms) k) all ∙ end_is (n + e) ms k ∙ sym first

  -- with nothing before the first
  plus_zero : (n : ℕ) → 0 + n ≡ n
  plus_zero n = omega arith

  end_among : (k : ℕ) (ms : List Member) → slice_index_or (all_ends heads ms) k (length (table_fields heads ms)) ≡ length (table_fields heads (take k ms))
  end_among k ms =
      ap (slice_index_or (all_ends heads ms) k) (sym (plus_zero (length (table_fields heads ms))))
      ∙ end_is 0 ms k
      ∙ plus_zero (length (table_fields heads (take k ms)))

  counted : (rows : List FieldRow) (lists : List (List Member)) (row members : ℕ) → map (λ (r : FieldRow). r.table) rows ≡ map (table_fields heads) lists →
      map (λ (r : FieldRow). r.ends.items) rows ≡ map (all_ends heads) lists → count_in rows row members ≡ length (table_fields heads (take members (slice_index_or lists row [])))
  counted [] [] row members tables ends = ap (λ ms. length (table_fields heads ms)) (sym (none_taken members [] refl))
  counted [] (ms ∷ lists) row members tables ends = let never : [] ≡ table_fields heads ms ∷ map (table_fields heads) lists = tables in cc
  counted (r ∷ rows) [] row members tables ends = let never : r.table ∷ map (λ (r : FieldRow). r.table) rows ≡ [] = tables in cc
  counted (r ∷ rows) (ms ∷ lists) zero members tables ends =
      ap₂ (λ es fs. slice_index_or es members (length fs)) (ap (λ xs. slice_index_or xs 0 []) ends) (ap (λ xs. slice_index_or xs 0 []) tables) ∙ end_among members ms
  counted (r ∷ rows) (ms ∷ lists) (suc row) members tables ends = counted rows lists row members (ap tail_of tables) (ap tail_of ends)

  -- the rows have the fields of these members
  module _ (rows : List FieldRow) (lists : List (List Member)) (tables : map (λ (r : FieldRow). r.table) rows ≡ map (table_fields heads) lists)
      (ends : map (λ (r : FieldRow). r.ends.items) rows ≡ map (all_ends heads) lists) where
    table_is : (row : ℕ) → slice_index_or (map (λ (r : FieldRow). r.table) rows) row [] ≡ table_fields heads (slice_index_or lists row [])
    table_is row = ap (λ ts. slice_index_or ts row []) tables ∙ get_or-map (table_fields heads) lists row []

    count_is : (row members : ℕ) → count_in rows row members ≡ length (table_fields heads (take members (slice_index_or lists row [])))
    count_is row members = counted rows lists row members tables ends

    same_part : (p : Part) → part_at (map (λ (r : FieldRow). r.table) rows) (part_of_fields rows p) ≡ table_fields heads (part_at lists p)
    same_part p =
        let ms : List Member = slice_index_or lists p.row [] in
        ap₂ (λ from to. drop from (take to (slice_index_or (map (λ (r : FieldRow). r.table) rows) p.row []))) (count_is p.row p.from) (count_is p.row p.to)
        ∙ ap (λ fs. drop (length (table_fields heads (take p.from ms))) (take (length (table_fields heads (take p.to ms))) fs)) (table_is p.row)
        ∙ part_given (member_entries heads) (table_fields heads) refl split p.from p.to ms

    same_span : (s : Span) →
        take (count_in rows s.row s.len) (slice_index_or (map (λ (r : FieldRow). r.table) rows) s.row []) ≡ table_fields heads (take s.len (slice_index_or lists s.row []))
    same_span s =
        let ms : List Member = slice_index_or lists s.row [] in
        ap₂ (λ n fs. take n fs) (count_is s.row s.len) (table_is s.row) ∙ first_given (member_entries heads) (table_fields heads) refl split s.len ms

    lists_are : (fronts : List (List Part)) (spans : List Span) →
        map (list_at (map (map (part_of_fields rows)) fronts) (map (λ (r : FieldRow). r.table) rows)) (map (span_of_fields rows) spans) ≡ map (table_fields heads) (map (list_at fronts lists) spans)
    lists_are fronts spans =
        lists_made (member_entries heads) (table_fields heads) refl split lists (map (λ (r : FieldRow). r.table) rows) (part_of_fields rows) same_part
        (span_of_fields rows) (λ s. refl) same_span fronts spans

  -- what members are under tells nothing of the fields in the table
  seen_fields : (rows : List (List Member)) (fronts : List (List Part)) (spans : List Span) →
      map (table_fields heads) (map (members_at fronts rows) spans) ≡ map (table_fields heads) (map (list_at fronts rows) spans)
  seen_fields rows fronts [] = refl
  seen_fields rows fronts (s ∷ ss) =
      ap₂ (λ a b. a ∷ b)
      (joined_at (table_fields heads) (λ a b. a ++ b) (joined (member_entries heads) (table_fields heads) refl split) (fields_inside heads split) rows fronts s)
      (seen_fields rows fronts ss)

  -- the fields of all types
  pub all_fields : (rows seen again : List FieldRow) (held listed told : List MemberRow) (fronts : List (List Part)) (spans placed all : List Span) →
      seen ≡ rows → again ≡ rows → listed ≡ held → told ≡ held → placed ≡ spans →
      map (λ (r : FieldRow). r.table) rows ≡ map (table_fields heads) (map seen_row listed) →
      map (λ (r : FieldRow). r.ends.items) rows ≡ map (all_ends heads) (map seen_row listed) →
      fronts ≡ map (map (part_of_fields seen)) (fronts_in told) →
      all ≡ map (span_of_fields again) placed →
      map (list_at fronts (map (λ (r : FieldRow). r.table) rows)) all ≡ map (table_fields heads) (map (members_at (fronts_in held) (map seen_row held)) spans)
  all_fields rows seen again held listed told fronts spans placed all same_rows rows_again same_lists lists_again same_spans tables ends fronts_are are =
      ap₂ (λ fs ss. map (list_at fs (map (λ (r : FieldRow). r.table) rows)) ss)
      (fronts_are ∙ ap₂ (λ rs ms. map (map (part_of_fields rs)) (fronts_in ms)) same_rows lists_again)
      (are ∙ ap₂ (λ rs ss. map (span_of_fields rs) ss) rows_again same_spans)
      ∙ lists_are rows (map seen_row held) (tables ∙ ap (λ ms. map (table_fields heads) (map seen_row ms)) same_lists)
      (ends ∙ ap (λ ms. map (all_ends heads) (map seen_row ms)) same_lists) (fronts_in held) spans
      ∙ sym (seen_fields (map seen_row held) (fronts_in held) spans)

  -- how many fields there are after one member more
  pub ends_more : (members : List ListedMember) (i : ℕ) (m : ListedMember) (into into' : List TableField) (ends ends' all : List ℕ) → i < length members → m ≡ get_or members i m →
      ends ++ ends_from heads (length into) (map seen_listed (drop i members)) ≡ all → into' ≡ into ++ member_entries heads (seen_listed m) → ends' ≡ ends ++ length into' ∷ [] →
      ends' ++ ends_from heads (length into') (map seen_listed (drop (i + 1) members)) ≡ all
  ends_more members i m into into' ends ends' all within is so_far more longer =
      let later : List Member = map seen_listed (drop (i + 1) members) in
      let count : length into' ≡ length into + length (member_entries heads (seen_listed m)) = ap length more ∙ length-append into (member_entries heads (seen_listed m)) in
      ap (λ es. es ++ ends_from heads (length into') later) longer
      ∙ append_assoc ends (length into' ∷ []) (ends_from heads (length into') later)
      ∙ ap (λ n. ends ++ n ∷ ends_from heads n later) count
      ∙ ap (λ ms. ends ++ ends_from heads (length into) (map seen_listed ms)) (sym (drop_more members i m within ∙ ap (λ x. x ∷ drop (i + 1) members) (sym is)))
      ∙ so_far

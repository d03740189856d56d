-- What a row of the table tells of its row of members.
use Rattle.std.proofs.Common.{◌≡◌, ◌∙◌, refl, sym, ap, ℕ, zero, suc, Bool, true, false, cond, List, [], ◌∷◌, Option, Some, None, Bor, map, length, take, drop, slice_index_or, bytes_eq, option_copied, option_map}
use Rattle.std.specs.Prelude.{find, slice_get}
use Rattle.std.specs.Slice.{IsItemAt}
use Rattle.std.proofs.lemmas.List.{drop-map, length-map, take-map}
use Rattle.std.proofs.Math.Seq.{drop-nil}
use Rattle.std.proofs.lemmas.Option.{slice_get-map}
use Rattle.dsl_tree.specs.declared.parts.Ident.{Ident}
use Rattle.type_heads.specs.Members.{fields_among}
use Rattle.type_heads.specs.Types.{Member}
use Rattle.type_members.specs.Shared.{under_inside}
use Rattle.type_tables.proofs.Firsts.{item_is}
use Rattle.program_fields.specs.Parts.{dos_from, end_of, facts_of, has_text, is_between, spots_between, spots_from}
use Rattle.program_fields.specs.RowFacts.{count_among, row_facts}
use Rattle.program_fields.specs.SeenSpots.{seen_spot}
use Rattle.program_fields.specs.declared.field_row.FieldRow.{FieldRow}
use Rattle.program_fields.specs.declared.spots.FieldSpot.{FieldSpot}
use Rattle.program_fields.proofs.Placed.{Facts, row_there}
use Rattle.program_fields.proofs.SeenInside.{count_inside}

copied_facts : (r : Option (Bor FieldRow)) → option_map (λ (b : Bor FieldRow). row_facts b.now) r ≡ option_map row_facts (option_copied r)
copied_facts None = refl
copied_facts (Some b) = refl

-- the row that is found
pub row_got : (rows held : List FieldRow) (members : List (List Member)) (n : ℕ) (r : Option (Bor FieldRow)) → IsItemAt rows n r → rows ≡ held →
    map row_facts held ≡ map facts_of members → option_map (λ (b : Bor FieldRow). row_facts b.now) r ≡ option_map facts_of (slice_get members n)
row_got rows held members n r at same facts =
    copied_facts r
    ∙ ap (option_map row_facts) (item_is rows n r at ∙ ap (λ rs. slice_get rs n) same)
    ∙ sym (slice_get-map row_facts held n)
    ∙ ap (λ fs. slice_get fs n) facts
    ∙ slice_get-map facts_of members n

-- without members there are no fields
pub no_spots : (from to : ℕ) (ms : List Member) → ms ≡ [] → spots_between from to ms ≡ []
no_spots from to ms e = ap (spots_between from to) e ∙ ap (drop (end_of from [])) (none_taken (end_of to [])) ∙ drop-nil (end_of from [])
  where
    none_taken : (n : ℕ) → take n (spots_from 0 []) ≡ []
    none_taken zero = refl
    none_taken (suc n) = refl

nothing_taken : (n : ℕ) (ms : List Member) → ms ≡ [] → take n ms ≡ []
nothing_taken zero ms e = refl
nothing_taken (suc n) [] e = refl
nothing_taken (suc n) (m ∷ ms) e = let never : m ∷ ms ≡ [] = e in cc

pub no_fields : (k from to : ℕ) (ms : List Member) → ms ≡ [] → fields_among (map (under_inside k) (drop from (take to ms))) ≡ []
no_fields k from to ms e =
    ap (λ ms. fields_among (map (under_inside k) (drop from ms))) (nothing_taken to ms e) ∙ ap (λ ms. fields_among (map (under_inside k) ms)) (drop-nil from)

pub no_dos : (from to : ℕ) (ms : List Member) → ms ≡ [] → find (is_between from to) (dos_from 0 ms) ≡ None
no_dos from to ms e = ap (λ ms. find (is_between from to) (dos_from 0 ms)) e

found_seen : (t : Ident × ℕ → Bool) (ss : List FieldSpot) → option_map seen_spot (find (λ s. t (seen_spot s)) ss) ≡ find t (map seen_spot ss)
found_seen t [] = refl
found_seen t (s ∷ ss) = by (t (seen_spot s)) (found_seen t ss)
  where
    by : (b : Bool) → option_map seen_spot (find (λ s. t (seen_spot s)) ss) ≡ find t (map seen_spot ss) →
        option_map seen_spot (cond b (Some s) (find (λ s. t (seen_spot s)) ss)) ≡ cond b (Some (seen_spot s)) (find t (map seen_spot ss))
    by true h = refl
    by false h = h

part_seen : (a b : ℕ) (ss : List FieldSpot) → map seen_spot (drop a (take b ss)) ≡ drop a (take b (map seen_spot ss))
part_seen a b ss = sym (drop-map seen_spot a (take b ss)) ∙ ap (drop a) (sym (take-map seen_spot b ss))

module _ (r : FieldRow) (rows : List (List Member)) (n from to : ℕ) (there : Some (row_facts r) ≡ option_map facts_of (slice_get rows n)) where
  abbrev spots_here : List FieldSpot
  spots_here = drop (count_among r from) (take (count_among r to) r.spots.items)

  abbrev ms : List Member
  ms = slice_index_or rows n []

  spots_are : map seen_spot spots_here ≡ spots_between from to ms
  spots_are =
      part_seen (count_among r from) (count_among r to) r.spots.items
      ∙ ap (λ c. drop (slice_index_or r.ends.items from c) (take (slice_index_or r.ends.items to c) (map seen_spot r.spots.items))) (sym (length-map r.spots.items seen_spot))
      ∙ ap (λ (f : Facts). drop (slice_index_or f.1 from (length f.0)) (take (slice_index_or f.1 to (length f.0)) f.0)) (row_there rows n (row_facts r) there)

  -- how many fields there are
  pub counted : (k : ℕ) → length spots_here ≡ length (fields_among (map (under_inside k) (drop from (take to ms))))
  counted k = sym (length-map spots_here seen_spot) ∙ ap length spots_are ∙ count_inside k from to ms

  -- the name of a number
  pub numbered : (number : ℕ) (o : Option FieldSpot) → o ≡ slice_get spots_here number → option_map seen_spot o ≡ slice_get (spots_between from to ms) number
  numbered number o is = ap (option_map seen_spot) is ∙ sym (slice_get-map seen_spot spots_here number) ∙ ap (λ ss. slice_get ss number) spots_are

  -- the first of a name
  pub named_among : (name : List ℕ) (o : Option FieldSpot) → o ≡ find (λ (s : FieldSpot). bytes_eq s.name.now.text name) spots_here →
      option_map seen_spot o ≡ find (has_text name) (spots_between from to ms)
  named_among name o is = ap (option_map seen_spot) is ∙ found_seen (has_text name) spots_here ∙ ap (find (has_text name)) spots_are

  -- the place of the first `do`
  pub do_among : (o : Option ℕ) → o ≡ find (is_between from to) r.dos.items → o ≡ find (is_between from to) (dos_from 0 ms)
  do_among o is = is ∙ ap (λ (f : Facts). find (is_between from to) f.2) (row_there rows n (row_facts r) there)

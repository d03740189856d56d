-- What is told of each member stands where the member stands.
use Rattle.std.proofs.Common.{◌≡◌, ◌∙◌, refl, sym, ap, ap₂, ℕ, List, [], ◌∷◌, ◌++◌, Option, map, take, drop, slice_index_or}
use Rattle.std.proofs.lemmas.List.{drop-map, map-append, take-map}
use Rattle.std.proofs.Math.ListN.{get_or-map}
use Rattle.string_texts.specs.type_heads.Told.{member_told}
use Rattle.string_texts.specs.type_heads.Types.{Member}
use Rattle.type_tables.specs.type_members.Shared.{members_at, members_in_part, members_in_parts, part_at, under_inside}
use Rattle.type_tables.specs.type_members.declared.places.Part.{Part}
use Rattle.type_tables.specs.type_members.declared.places.Span.{Span}
use Rattle.type_tables.proofs.of_type_members.Moves.{inside_none}
use Rattle.type_model.specs.RowRefs.{ref_of, refs_in_part, refs_in_parts, told_at, told_inside}
use Rattle.type_model.specs.declared.refs.RowRef.{RowRef}
use Rattle.type_model.proofs.LastNumbers.{last_left}

-- members, seen from inside of conditional subtypes
inside_told : (k : ℕ) (m : Member) → told_inside k (ref_of m) ≡ member_told (under_inside k m)
inside_told k m =
    ap (λ (u : Option ℕ). record { file = m.written.file; declaration = m.written.declaration; index = m.written.index; under = u }) (last_left k m.under)

each_inside : (k : ℕ) (ms : List Member) → map (told_inside k) (map ref_of ms) ≡ map member_told (map (under_inside k) ms)
each_inside k [] = refl
each_inside k (m ∷ ms) = ap₂ (λ a b. a ∷ b) (inside_told k m) (each_inside k ms)

module _ (rows : List (List Member)) where
  part_told : (p : Part) → refs_in_part (map (map ref_of) rows) p ≡ map member_told (members_in_part rows p)
  part_told p =
      ap (λ xs. map (told_inside p.inside) (drop p.from (take p.to xs))) (get_or-map (map ref_of) rows p.row [])
      ∙ ap (λ xs. map (told_inside p.inside) (drop p.from xs)) (take-map ref_of p.to (slice_index_or rows p.row []))
      ∙ ap (map (told_inside p.inside)) (drop-map ref_of p.from (take p.to (slice_index_or rows p.row [])))
      ∙ each_inside p.inside (part_at rows p)

  parts_told : (parts : List Part) → refs_in_parts (map (map ref_of) rows) parts ≡ map member_told (members_in_parts rows parts)
  parts_told [] = refl
  parts_told (p ∷ ps) = ap₂ (λ a b. a ++ b) (part_told p) (parts_told ps) ∙ sym (map-append member_told (members_in_part rows p) (members_in_parts rows ps))

  own_told : (s : Span) → map (told_inside 0) (take s.len (slice_index_or (map (map ref_of) rows) s.row [])) ≡ map member_told (take s.len (slice_index_or rows s.row []))
  own_told s =
      ap (λ xs. map (told_inside 0) (take s.len xs)) (get_or-map (map ref_of) rows s.row [])
      ∙ ap (map (told_inside 0)) (take-map ref_of s.len (slice_index_or rows s.row []))
      ∙ each_inside 0 (take s.len (slice_index_or rows s.row []))
      ∙ ap (map member_told) (inside_none (take s.len (slice_index_or rows s.row [])))

  at_told : (fronts : List (List Part)) (s : Span) → told_at fronts (map (map ref_of) rows) s ≡ map member_told (members_at fronts rows s)
  at_told fronts s =
      ap₂ (λ a b. a ++ b) (parts_told (slice_index_or fronts s.row [])) (own_told s)
      ∙ sym (map-append member_told (members_in_parts rows (slice_index_or fronts s.row [])) (take s.len (slice_index_or rows s.row [])))

  each_told : (fronts : List (List Part)) (spans : List Span) → map (told_at fronts (map (map ref_of) rows)) spans ≡ map (map member_told) (map (members_at fronts rows) spans)
  each_told fronts [] = refl
  each_told fronts (s ∷ ss) = ap₂ (λ a b. a ∷ b) (at_told fronts s) (each_told fronts ss)

pub rows_told : (told : List (List RowRef)) (rows : List (List Member)) (fronts before : List (List Part)) (spans given : List Span) →
    told ≡ map (map ref_of) rows → fronts ≡ before → spans ≡ given → map (told_at fronts told) spans ≡ map (map member_told) (map (members_at before rows) given)
rows_told told rows fronts before spans given told_is same_fronts same =
    ap (λ lists. map (told_at fronts lists) spans) told_is
    ∙ ap₂ (λ fs ss. map (told_at fs (map (map ref_of) rows)) ss) same_fronts same
    ∙ each_told rows before given

-- Lists that are made of shared rows, and what is worked out of each.
use Rattle.std.proofs.Common.{◌≡◌, ◌∙◌, refl, sym, ap, ap₂, List, [], ◌∷◌, ◌++◌, map, take, slice_index_or}
use Rattle.std.proofs.Math.ListN.{get_or-map}
use Rattle.type_members.specs.Shared.{list_at, part_at, parts_at}
use Rattle.type_members.specs.declared.places.Part.{Part}
use Rattle.type_members.specs.declared.places.Span.{Span}
use Rattle.type_tables.proofs.FlatParts.{joined}

module _ {X Y : Type 0} (each : X → List Y) (all : List X → List Y) (none : all [] ≡ []) (split : (x : X) (xs : List X) → all (x ∷ xs) ≡ each x ++ all xs)
    (rows : List (List X)) (made : List (List Y)) (part_of : Part → Part) (same_part : (p : Part) → part_at made (part_of p) ≡ all (part_at rows p))
  where
    pub parts_made : (parts : List Part) → parts_at made (map part_of parts) ≡ all (parts_at rows parts)
    parts_made [] = sym none
    parts_made (p ∷ ps) = ap₂ (λ a b. a ++ b) (same_part p) (parts_made ps) ∙ sym (joined each all none split (part_at rows p) (parts_at rows ps))

    module _ (span_of : Span → Span) (same_row : (s : Span) → (span_of s).row ≡ s.row)
        (same_span : (s : Span) → take (span_of s).len (slice_index_or made (span_of s).row []) ≡ all (take s.len (slice_index_or rows s.row [])))
        (fronts : List (List Part))
      where
        list_made : (s : Span) → list_at (map (map part_of) fronts) made (span_of s) ≡ all (list_at fronts rows s)
        list_made s =
            ap₂ (λ a b. a ++ b)
            (ap (λ n. parts_at made (slice_index_or (map (map part_of) fronts) n [])) (same_row s)
            ∙ ap (parts_at made) (get_or-map (map part_of) fronts s.row [])
            ∙ parts_made (slice_index_or fronts s.row []))
            (same_span s)
            ∙ sym (joined each all none split (parts_at rows (slice_index_or fronts s.row [])) (take s.len (slice_index_or rows s.row [])))

        pub lists_made : (spans : List Span) → map (list_at (map (map part_of) fronts) made) (map span_of spans) ≡ map all (map (list_at fronts rows) spans)
        lists_made [] = refl
        lists_made (s ∷ ss) = ap₂ (λ a b. a ∷ b) (list_made s) (lists_made ss)

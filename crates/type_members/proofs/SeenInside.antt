-- What doesn't depend on what members are under is the same of members that are seen from inside of conditional subtypes.
use Rattle.std.proofs.Common.{◌≡◌, ◌∙◌, refl, sym, ap, ℕ, ◌||◌, Bool, List, [], ◌∷◌, ◌++◌, map, take, slice_index_or}
use Rattle.std.specs.Prelude.{flat_map}
use Rattle.std.specs.List.{list_any}
use Rattle.std.proofs.lemmas.List.{map-append}
use Rattle.std.proofs.lemmas.Grind.{flat_map-append}
use Rattle.type_heads.specs.Types.{Member}
use Rattle.type_members.specs.Shared.{list_at, members_at, members_in_part, members_in_parts, part_at, parts_at, under_inside}
use Rattle.type_members.specs.declared.places.Part.{Part}
use Rattle.type_members.specs.declared.places.Span.{Span}

-- what is worked out of each member
module _ {Y : Type 0} (f : Member → Y) (same : (k : ℕ) (m : Member) → f (under_inside k m) ≡ f m) where
  pub map_inside : (k : ℕ) (ms : List Member) → map f (map (under_inside k) ms) ≡ map f ms
  map_inside k [] = refl
  map_inside k (m ∷ ms) = ap (λ y. y ∷ map f (map (under_inside k) ms)) (same k m) ∙ ap (λ ys. f m ∷ ys) (map_inside k ms)

  pub map_in_part : (rows : List (List Member)) (p : Part) → map f (members_in_part rows p) ≡ map f (part_at rows p)
  map_in_part rows p = map_inside p.inside (part_at rows p)

  pub map_in_parts : (rows : List (List Member)) (ps : List Part) → map f (members_in_parts rows ps) ≡ map f (parts_at rows ps)
  map_in_parts rows [] = refl
  map_in_parts rows (p ∷ ps) =
      map-append f (members_in_part rows p) (members_in_parts rows ps)
      ∙ ap (λ ys. ys ++ map f (members_in_parts rows ps)) (map_in_part rows p)
      ∙ ap (λ ys. map f (part_at rows p) ++ ys) (map_in_parts rows ps)
      ∙ sym (map-append f (part_at rows p) (parts_at rows ps))

  pub map_at : (fronts : List (List Part)) (rows : List (List Member)) (s : Span) → map f (members_at fronts rows s) ≡ map f (list_at fronts rows s)
  map_at fronts rows s =
      let front : List Part = slice_index_or fronts s.row [] in
      let row : List Member = take s.len (slice_index_or rows s.row []) in
      map-append f (members_in_parts rows front) row ∙ ap (λ ys. ys ++ map f row) (map_in_parts rows front) ∙ sym (map-append f (parts_at rows front) row)

-- lists that are worked out of each member
module _ {Y : Type 0} (f : Member → List Y) (same : (k : ℕ) (m : Member) → f (under_inside k m) ≡ f m) where
  pub flat_inside : (k : ℕ) (ms : List Member) → flat_map f (map (under_inside k) ms) ≡ flat_map f ms
  flat_inside k [] = refl
  flat_inside k (m ∷ ms) = ap (λ ys. ys ++ flat_map f (map (under_inside k) ms)) (same k m) ∙ ap (λ ys. f m ++ ys) (flat_inside k ms)

  pub flat_in_part : (rows : List (List Member)) (p : Part) → flat_map f (members_in_part rows p) ≡ flat_map f (part_at rows p)
  flat_in_part rows p = flat_inside p.inside (part_at rows p)

  pub flat_in_parts : (rows : List (List Member)) (ps : List Part) → flat_map f (members_in_parts rows ps) ≡ flat_map f (parts_at rows ps)
  flat_in_parts rows [] = refl
  flat_in_parts rows (p ∷ ps) =
      flat_map-append f (members_in_part rows p) (members_in_parts rows ps)
      ∙ ap (λ ys. ys ++ flat_map f (members_in_parts rows ps)) (flat_in_part rows p)
      ∙ ap (λ ys. flat_map f (part_at rows p) ++ ys) (flat_in_parts rows ps)
      ∙ sym (flat_map-append f (part_at rows p) (parts_at rows ps))

  pub flat_at : (fronts : List (List Part)) (rows : List (List Member)) (s : Span) → flat_map f (members_at fronts rows s) ≡ flat_map f (list_at fronts rows s)
  flat_at fronts rows s =
      let front : List Part = slice_index_or fronts s.row [] in
      let row : List Member = take s.len (slice_index_or rows s.row []) in
      flat_map-append f (members_in_parts rows front) row ∙ ap (λ ys. ys ++ flat_map f row) (flat_in_parts rows front) ∙ sym (flat_map-append f (parts_at rows front) row)

-- what all members have
module _ (p : Member → Bool) (same : (k : ℕ) (m : Member) → p (under_inside k m) ≡ p m) where
  pub any_inside : (k : ℕ) (ms : List Member) → list_any p (map (under_inside k) ms) ≡ list_any p ms
  any_inside k [] = refl
  any_inside k (m ∷ ms) = ap (λ b. b || list_any p (map (under_inside k) ms)) (same k m) ∙ ap (λ b. p m || b) (any_inside k ms)

-- The parts in front of a row, one by one, and then the first members of the row itself. Those of a part are seen from inside.
use Rattle.std.proofs.Common.{◌≡◌, ◌∙◌, sym, ap, ℕ, ◌+◌, ◌<◌, ◌≤◌, List, [], ◌++◌, Option, Some, None, length, drop, take, get_or, append_assoc, flat_map, slice_index_or}
use Rattle.std.specs.Option.{option_or}
use Rattle.std.proofs.lemmas.List.{at_drop_all, drop_more}
use Rattle.std.proofs.lemmas.Grind.{flat_map-append}
use Rattle.type_heads.specs.Types.{Member}
use Rattle.type_members.specs.Shared.{members_at, members_in_part, members_in_parts}
use Rattle.type_members.specs.declared.places.Part.{Part}
use Rattle.type_members.specs.declared.places.Span.{Span}

-- the first members of the row of a place
abbrev pub own_at : List (List Member) → Span → List Member
own_at rows s = take s.len (slice_index_or rows s.row [])

-- what stands in the parts from place i on, and then in the row itself
abbrev pub left_at : List (List Member) → List Part → ℕ → Span → List Member
left_at rows parts i s = members_in_parts rows (drop i parts) ++ own_at rows s

module _ (rows : List (List Member)) (s : Span) where
  -- at first all is left
  pub all_left : {X : Type 0} (h : List Member → X) (fronts : List (List Part)) (parts : List Part) → parts ≡ slice_index_or fronts s.row [] →
      h (left_at rows parts 0 s) ≡ h (members_at fronts rows s)
  all_left h fronts parts is = ap (λ ps. h (members_in_parts rows ps ++ own_at rows s)) is

  module _ (parts : List Part) (i : ℕ) where
    -- when all parts are gone over
    pub own_left : {X : Type 0} (h : List Member → X) (all : X) → length parts ≤ i → h (left_at rows parts i s) ≡ all → h (own_at rows s) ≡ all
    own_left h all done so_far = sym (at_drop_all (λ ps. h (members_in_parts rows ps ++ own_at rows s)) parts i done) ∙ so_far

    module _ (d : Part) (within : i < length parts) where
      pub one_more : left_at rows parts i s ≡ members_in_part rows (get_or parts i d) ++ left_at rows parts (i + 1) s
      one_more =
          ap (λ ps. members_in_parts rows ps ++ own_at rows s) (drop_more parts i d within)
          ∙ append_assoc (members_in_part rows (get_or parts i d)) (members_in_parts rows (drop (i + 1) parts)) (own_at rows s)

      -- what the members of a part give, after what came before
      pub given_more : {X : Type 0} (give : Member → List X) (members : List Member) (into into' all : List X) → members ≡ members_in_part rows (get_or parts i d) →
          into' ≡ into ++ flat_map give members → into ++ flat_map give (left_at rows parts i s) ≡ all → into' ++ flat_map give (left_at rows parts (i + 1) s) ≡ all
      given_more give members into into' all here more so_far =
          ap (λ xs. xs ++ flat_map give (left_at rows parts (i + 1) s)) (more ∙ ap (λ ms. into ++ flat_map give ms) here)
          ∙ append_assoc into (flat_map give (members_in_part rows (get_or parts i d))) (flat_map give (left_at rows parts (i + 1) s))
          ∙ ap (λ xs. into ++ xs) (sym (flat_map-append give (members_in_part rows (get_or parts i d)) (left_at rows parts (i + 1) s)))
          ∙ ap (λ ms. into ++ flat_map give ms) (sym one_more)
          ∙ so_far

      -- what is looked for isn't in the part
      pub none_here : {X : Type 0} (h : List Member → Option X) → ((xs ys : List Member) → h (xs ++ ys) ≡ option_or (h xs) (h ys)) → (all : Option X) →
          None ≡ h (members_in_part rows (get_or parts i d)) → h (left_at rows parts i s) ≡ all → h (left_at rows parts (i + 1) s) ≡ all
      none_here h split all none so_far =
          ap (λ o. option_or o (h (left_at rows parts (i + 1) s))) none
          ∙ sym (split (members_in_part rows (get_or parts i d)) (left_at rows parts (i + 1) s))
          ∙ sym (ap h one_more)
          ∙ so_far

      -- what is looked for is in the part
      pub one_here : {X : Type 0} (h : List Member → Option X) → ((xs ys : List Member) → h (xs ++ ys) ≡ option_or (h xs) (h ys)) → (all : Option X) (x : X) →
          Some x ≡ h (members_in_part rows (get_or parts i d)) → h (left_at rows parts i s) ≡ all → Some x ≡ all
      one_here h split all x one so_far =
          ap (λ o. option_or o (h (left_at rows parts (i + 1) s))) one
          ∙ sym (split (members_in_part rows (get_or parts i d)) (left_at rows parts (i + 1) s))
          ∙ sym (ap h one_more)
          ∙ so_far

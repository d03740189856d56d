-- Expressions stay sound when their paths are replaced.
use Rattle.std.proofs.Common.{◌≡◌, refl, sym, ap, ap₂, ◌∙◌, Bool, true, false, ◌&&◌, ◌||◌, not}
use Rattle.std.specs.List.{list_all, list_any}
use Rattle.field_flatten.specs.osc_base.declared.path.Path.{Path}
use Rattle.expansion_laws.specs.expr_nodes.declared.compare.Compare.{Compare}
use Rattle.expansion_laws.specs.expr_nodes.Kinds.{ValueKind, is_number, is_truth, same_units, are_alike}
use Rattle.expansion_laws.specs.expr_nodes.Typed.{Typed, Constant, Read, Whole, Listed, Span, Minus, Not, Sum, Times, And, Or, Implies, Relation, Within, TypedRow, End, Item, info, kind, items_of, moved, moved_row}
use Rattle.expansion_laws.specs.expr_nodes.Sizes.{Size, size, joined, multiplied, unit_size, is_wide}
use Rattle.expansion_laws.specs.expr_nodes.Parts.{is_scalar, parts_of}
use Rattle.expansion_laws.specs.expr_nodes.Operators.{fit_for, fits_in, is_range_or_list}
use Rattle.expansion_laws.specs.expr_nodes.Sound.{has_size, are_truths, is_truth_info, can_join, is_sound, are_sound}
use Rattle.field_flatten.specs.Seen.{has_values, have_values}

module _ (to : Path → Path) where
  pub info_moved : (t : Typed) → info (moved to t) ≡ info t
  info_moved (Constant i number) = refl
  info_moved (Read i path per) = refl
  info_moved (Whole i path) = refl
  info_moved (Listed i is_field items) = refl
  info_moved (Span i low high) = refl
  info_moved (Minus i part) = refl
  info_moved (Not i part) = refl
  info_moved (Sum i left right) = refl
  info_moved (Times i left right) = refl
  info_moved (And i left right) = refl
  info_moved (Or i left right) = refl
  info_moved (Implies i left right) = refl
  info_moved (Relation i sign left right) = refl
  info_moved (Within i left right) = refl

  pub scalar_moved : (t : Typed) → is_scalar (moved to t) ≡ is_scalar t
  scalar_moved (Constant i number) = refl
  scalar_moved (Read i path per) = refl
  scalar_moved (Whole i path) = refl
  scalar_moved (Listed i is_field items) = refl
  scalar_moved (Span i low high) = refl
  scalar_moved (Minus i part) = refl
  scalar_moved (Not i part) = refl
  scalar_moved (Sum i left right) = refl
  scalar_moved (Times i left right) = refl
  scalar_moved (And i left right) = refl
  scalar_moved (Or i left right) = refl
  scalar_moved (Implies i left right) = refl
  scalar_moved (Relation i sign left right) = refl
  scalar_moved (Within i left right) = refl

  pub range_moved : (t : Typed) → is_range_or_list (moved to t) ≡ is_range_or_list t
  range_moved (Constant i number) = refl
  range_moved (Read i path per) = refl
  range_moved (Whole i path) = refl
  range_moved (Listed i is_field items) = refl
  range_moved (Span i low high) = refl
  range_moved (Minus i part) = refl
  range_moved (Not i part) = refl
  range_moved (Sum i left right) = refl
  range_moved (Times i left right) = refl
  range_moved (And i left right) = refl
  range_moved (Or i left right) = refl
  range_moved (Implies i left right) = refl
  range_moved (Relation i sign left right) = refl
  range_moved (Within i left right) = refl

  pub kind_moved : (t : Typed) → kind (moved to t) ≡ kind t
  kind_moved t = ap (λ i. i.kind) (info_moved t)

  pub size_moved : (t : Typed) → size (moved to t) ≡ size t
  size_moved t = ap (λ i. record { scale = i.scale; reach = i.reach }) (info_moved t)

  mutual
    pub values_moved : (t : Typed) → has_values (moved to t) ≡ has_values t
    values_moved (Constant i number) = refl
    values_moved (Read i path per) = refl
    values_moved (Whole i path) = refl
    values_moved (Listed i is_field items) = row_values_moved items
    values_moved (Span i low high) = ap₂ (◌&&◌) (values_moved low) (values_moved high)
    values_moved (Minus i part) = values_moved part
    values_moved (Not i part) = values_moved part
    values_moved (Times i left right) = ap (λ b. is_number i.kind && b) (ap₂ (◌&&◌) (values_moved left) (values_moved right))
    values_moved (Sum i left right) = ap₂ (◌&&◌) (values_moved left) (values_moved right)
    values_moved (And i left right) = ap₂ (◌&&◌) (values_moved left) (values_moved right)
    values_moved (Or i left right) = ap₂ (◌&&◌) (values_moved left) (values_moved right)
    values_moved (Implies i left right) = ap₂ (◌&&◌) (values_moved left) (values_moved right)
    values_moved (Relation i sign left right) = ap₂ (◌&&◌) (values_moved left) (values_moved right)
    values_moved (Within i left right) = ap₂ (◌&&◌) (values_moved left) (values_moved right)

    pub row_values_moved : (row : TypedRow) → have_values (moved_row to row) ≡ have_values row
    row_values_moved End = refl
    row_values_moved (Item item others) = ap₂ (◌&&◌) (values_moved item) (row_values_moved others)

  alike_moved : (k : ValueKind) (row : TypedRow) → list_any (λ y. not (are_alike k (kind y))) (items_of (moved_row to row)) ≡ list_any (λ y. not (are_alike k (kind y))) (items_of row)
  alike_moved k End = refl
  alike_moved k (Item item others) = ap₂ (λ l b. not (are_alike k l) || b) (kind_moved item) (alike_moved k others)

  joins_row : (s : Size) (row : TypedRow) → list_all (λ y. not (is_wide (joined s (size y)))) (items_of (moved_row to row)) ≡ list_all (λ y. not (is_wide (joined s (size y)))) (items_of row)
  joins_row s End = refl
  joins_row s (Item item others) = ap₂ (λ z b. not (is_wide (joined s z)) && b) (size_moved item) (joins_row s others)

  -- what stands on the right of `in`, for a left side of that kind and size
  abbrev fits_kind : ValueKind → Typed → Bool
  fits_kind k (Span i low high) = (is_number k && is_number (kind low)) && (is_number k && is_number (kind high))
  fits_kind k (Listed i is_field items) = not (list_any (λ y. not (are_alike k (kind y))) (items_of items))
  fits_kind k _ = false

  fits_is : (x : Typed) (t : Typed) → fits_in x t ≡ fits_kind (kind x) t
  fits_is x (Constant i number) = refl
  fits_is x (Read i path per) = refl
  fits_is x (Whole i path) = refl
  fits_is x (Listed i is_field items) = refl
  fits_is x (Span i low high) = refl
  fits_is x (Minus i part) = refl
  fits_is x (Not i part) = refl
  fits_is x (Sum i left right) = refl
  fits_is x (Times i left right) = refl
  fits_is x (And i left right) = refl
  fits_is x (Or i left right) = refl
  fits_is x (Implies i left right) = refl
  fits_is x (Relation i sign left right) = refl
  fits_is x (Within i left right) = refl

  fits_moved : (k : ValueKind) (t : Typed) → fits_kind k (moved to t) ≡ fits_kind k t
  fits_moved k (Constant i number) = refl
  fits_moved k (Read i path per) = refl
  fits_moved k (Whole i path) = refl
  fits_moved k (Listed i is_field items) = ap not (alike_moved k items)
  fits_moved k (Span i low high) = ap₂ (λ a b. (is_number k && is_number a) && (is_number k && is_number b)) (kind_moved low) (kind_moved high)
  fits_moved k (Minus i part) = refl
  fits_moved k (Not i part) = refl
  fits_moved k (Sum i left right) = refl
  fits_moved k (Times i left right) = refl
  fits_moved k (And i left right) = refl
  fits_moved k (Or i left right) = refl
  fits_moved k (Implies i left right) = refl
  fits_moved k (Relation i sign left right) = refl
  fits_moved k (Within i left right) = refl

  joins_moved : (s : Size) (t : Typed) → list_all (λ y. not (is_wide (joined s (size y)))) (parts_of (moved to t)) ≡ list_all (λ y. not (is_wide (joined s (size y)))) (parts_of t)
  joins_moved s (Constant i number) = refl
  joins_moved s (Read i path per) = refl
  joins_moved s (Whole i path) = refl
  joins_moved s (Listed i is_field items) = joins_row s items
  joins_moved s (Span i low high) = ap₂ (λ a b. not (is_wide (joined s a)) && (not (is_wide (joined s b)) && true)) (size_moved low) (size_moved high)
  joins_moved s (Minus i part) = refl
  joins_moved s (Not i part) = refl
  joins_moved s (Sum i left right) = refl
  joins_moved s (Times i left right) = refl
  joins_moved s (And i left right) = refl
  joins_moved s (Or i left right) = refl
  joins_moved s (Implies i left right) = refl
  joins_moved s (Relation i sign left right) = refl
  joins_moved s (Within i left right) = refl

  fit_moved : (sign : Compare) (x y : Typed) → fit_for sign (moved to x) (moved to y) ≡ fit_for sign x y
  fit_moved Compare.Equal x y = ap₂ are_alike (kind_moved x) (kind_moved y)
  fit_moved Compare.Differ x y = ap₂ are_alike (kind_moved x) (kind_moved y)
  fit_moved Compare.Below x y = ap₂ (λ a b. is_number a && is_number b) (kind_moved x) (kind_moved y)
  fit_moved Compare.AtMost x y = ap₂ (λ a b. is_number a && is_number b) (kind_moved x) (kind_moved y)
  fit_moved Compare.Above x y = ap₂ (λ a b. is_number a && is_number b) (kind_moved x) (kind_moved y)
  fit_moved Compare.AtLeast x y = ap₂ (λ a b. is_number a && is_number b) (kind_moved x) (kind_moved y)

  truths_moved : (x y : Typed) → are_truths (moved to x) (moved to y) ≡ are_truths x y
  truths_moved x y =
      ap₂ (λ a b. (a && is_truth (kind (moved to x))) && (b && is_truth (kind (moved to y)))) (scalar_moved x) (scalar_moved y)
      ∙ ap₂ (λ k l. (is_scalar x && is_truth k) && (is_scalar y && is_truth l)) (kind_moved x) (kind_moved y)

  within_moved : (x y : Typed) → (is_range_or_list (moved to y) && fits_in (moved to x) (moved to y) && list_all (can_join (moved to x)) (parts_of (moved to y))) ≡ (is_range_or_list y && fits_in x y && list_all (can_join x) (parts_of y))
  within_moved x y =
      ap₂ (λ a b. a && b && list_all (can_join (moved to x)) (parts_of (moved to y))) (range_moved y)
      (fits_is (moved to x) (moved to y) ∙ ap (λ k. fits_kind k (moved to y)) (kind_moved x) ∙ fits_moved (kind x) y ∙ sym (fits_is x y))
      ∙ ap (λ b. is_range_or_list y && fits_in x y && b) (ap (λ s. list_all (λ z. not (is_wide (joined s (size z)))) (parts_of (moved to y))) (size_moved x) ∙ joins_moved (size x) y)

  mutual
    pub sound_moved : (t : Typed) → is_sound (moved to t) ≡ is_sound t
    sound_moved (Constant i number) = refl
    sound_moved (Read i path per) = refl
    sound_moved (Whole i path) = refl
    sound_moved (Listed i is_field items) = ap (λ b. has_size i unit_size && b) (row_sound_moved items)
    sound_moved (Span i low high) =
        ap₂ (λ a b. (a && b) && (has_size i unit_size && (is_sound (moved to low) && is_sound (moved to high)))) (scalar_moved low) (scalar_moved high)
        ∙ ap₂ (λ a b. (is_scalar low && is_scalar high) && (has_size i unit_size && (a && b))) (sound_moved low) (sound_moved high)
    sound_moved (Minus i part) =
        ap₂ (λ k s. same_units i.kind k && (has_size i s && is_sound (moved to part))) (kind_moved part) (size_moved part)
        ∙ ap (λ b. same_units i.kind (kind part) && (has_size i (size part) && b)) (sound_moved part)
    sound_moved (Not i part) = ap₂ (λ a b. is_truth_info i && (a && b)) (truths_moved part part) (sound_moved part)
    sound_moved (Sum i left right) =
        ap₂ (λ k l. (same_units i.kind k && same_units i.kind l) && (has_size i (joined (size (moved to left)) (size (moved to right))) && (is_sound (moved to left) && is_sound (moved to right)))) (kind_moved left) (kind_moved right)
        ∙ ap₂ (λ r s. (same_units i.kind (kind left) && same_units i.kind (kind right)) && (has_size i (joined r s) && (is_sound (moved to left) && is_sound (moved to right)))) (size_moved left) (size_moved right)
        ∙ ap₂ (λ a b. (same_units i.kind (kind left) && same_units i.kind (kind right)) && (has_size i (joined (size left) (size right)) && (a && b))) (sound_moved left) (sound_moved right)
    sound_moved (Times i left right) =
        ap₂ (λ k l. (is_number k && is_number l) && (has_size i (multiplied (size (moved to left)) (size (moved to right))) && (is_sound (moved to left) && is_sound (moved to right)))) (kind_moved left) (kind_moved right)
        ∙ ap₂ (λ r s. (is_number (kind left) && is_number (kind right)) && (has_size i (multiplied r s) && (is_sound (moved to left) && is_sound (moved to right)))) (size_moved left) (size_moved right)
        ∙ ap₂ (λ a b. (is_number (kind left) && is_number (kind right)) && (has_size i (multiplied (size left) (size right)) && (a && b))) (sound_moved left) (sound_moved right)
    sound_moved (And i left right) = ap₂ (λ a b. is_truth_info i && (a && b)) (truths_moved left right) (ap₂ (◌&&◌) (sound_moved left) (sound_moved right))
    sound_moved (Or i left right) = ap₂ (λ a b. is_truth_info i && (a && b)) (truths_moved left right) (ap₂ (◌&&◌) (sound_moved left) (sound_moved right))
    sound_moved (Implies i left right) = ap₂ (λ a b. is_truth_info i && (a && b)) (truths_moved left right) (ap₂ (◌&&◌) (sound_moved left) (sound_moved right))
    sound_moved (Relation i sign left right) =
        ap₂ (λ a b. is_truth_info i && ((a && b) && (is_sound (moved to left) && is_sound (moved to right)))) (fit_moved sign left right) (ap₂ (λ r s. not (is_wide (joined r s))) (size_moved left) (size_moved right))
        ∙ ap₂ (λ a b. is_truth_info i && ((fit_for sign left right && can_join left right) && (a && b))) (sound_moved left) (sound_moved right)
    sound_moved (Within i left right) =
        ap₂ (λ a b. is_truth_info i && (a && b)) (within_moved left right) (ap₂ (◌&&◌) (sound_moved left) (sound_moved right))

    row_sound_moved : (row : TypedRow) → are_sound (moved_row to row) ≡ are_sound row
    row_sound_moved End = refl
    row_sound_moved (Item item others) =
        ap₂ (λ a b. a && (b && are_sound (moved_row to others))) (scalar_moved item) (sound_moved item)
        ∙ ap (λ b. is_scalar item && (is_sound item && b)) (row_sound_moved others)

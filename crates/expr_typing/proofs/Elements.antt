-- The elements of a list field, one after another.
use Rattle.std.proofs.Common.{◌≡◌, ◌∙◌, refl, sym, ap, ℕ, suc, ◌+◌, ◌-◌, ◌<◌, ◌≤◌, List, [], ◌∷◌, ◌++◌, append_assoc, arith}
use Rattle.std.proofs.lemmas.List.{append-nil}
use Rattle.dsl_tree.specs.osc_base.declared.path.Path.{Path}
use Rattle.dsl_tree.specs.osc_base.Paths.{then_index}
use Rattle.expr_nodes.specs.Typed.{Typed, TypedRow, End, Item, row_of, items_of}
use Rattle.expr_nodes.specs.Names.{elements_from}

row_items : (r : TypedRow) → row_of (items_of r) ≡ r
row_items End = refl
row_items (Item item others) = ap (Item item) (row_items others)

module _ (each : Path → Typed) (path : Path) where
  pub first_elements : (count : ℕ) → row_of (items_of (elements_from 0 (count - 0) each path)) ≡ elements_from 0 count each path
  first_elements count =
      let same : count - 0 ≡ count = omega arith in
      ap (λ k. row_of (items_of (elements_from 0 k each path))) same ∙ row_items (elements_from 0 count each path)

  pub next_element : (n count : ℕ) (xs more : List Typed) (goal : TypedRow) → n < count → more ≡ xs ++ each (then_index path n) ∷ []
      → row_of (xs ++ items_of (elements_from n (count - n) each path)) ≡ goal
      → row_of (more ++ items_of (elements_from (n + 1) (count - (n + 1)) each path)) ≡ goal
  next_element n count xs more goal less is h =
      let left : count - n ≡ suc (count - (n + 1)) = omega arith in
      ap (λ ys. row_of (ys ++ items_of (elements_from (n + 1) (count - (n + 1)) each path))) is
      ∙ ap row_of (append_assoc xs (each (then_index path n) ∷ []) (items_of (elements_from (n + 1) (count - (n + 1)) each path)))
      ∙ ap (λ k. row_of (xs ++ items_of (elements_from n k each path))) (sym left)
      ∙ h

  pub all_elements : (n count : ℕ) (xs : List Typed) (goal : TypedRow) → count ≤ n
      → row_of (xs ++ items_of (elements_from n (count - n) each path)) ≡ goal → row_of xs ≡ goal
  all_elements n count xs goal past h =
      let none : count - n ≡ 0 = omega arith in
      ap row_of (sym (append-nil xs)) ∙ ap (λ k. row_of (xs ++ items_of (elements_from n k each path))) (sym none) ∙ h

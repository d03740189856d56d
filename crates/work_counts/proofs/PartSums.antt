-- Sums over the members of parts. What members are under doesn't count.
use Rattle.std.proofs.Common.{◌≡◌, ◌∙◌, refl, sym, ap, ap₂, ℕ, ◌+◌, ◌<◌, List, [], ◌∷◌, get_or, length, map}
use Rattle.program_texts.specs.type_heads.Types.{Member}
use Rattle.program_texts.specs.type_members.Shared.{members_in_part, part_at, under_inside}
use Rattle.program_texts.specs.type_members.declared.places.Part.{Part}
use Rattle.program_texts.specs.type_members.declared.places.Span.{Span}
use Rattle.program_texts.specs.expansion_laws.Counts.{total}
use Rattle.program_texts.proofs.of_program_fields.Fronts.{left_at, one_more}
use Rattle.work_counts.specs.declared.tally.Tally.{Tally}
use Rattle.work_counts.specs.Amounts.{Amount, kept, sum_of}
use Rattle.work_counts.proofs.Sums.{counted_split, joined}

total_inside : (count : Member → ℕ) → ((k : ℕ) (m : Member) → count (under_inside k m) ≡ count m) → (k : ℕ) (ms : List Member) → total count (map (under_inside k) ms) ≡ total count ms
total_inside count same k [] = refl
total_inside count same k (m ∷ ms) = ap₂ (λ a b. a + b) (same k m) (total_inside count same k ms)

module _ (f : Member → Amount) (same : (k : ℕ) (m : Member) → f (under_inside k m) ≡ f m) where
  sum_inside : (k : ℕ) (ms : List Member) → sum_of f (map (under_inside k) ms) ≡ sum_of f ms
  sum_inside k ms =
      let rules = total_inside (λ m. (f m).rules) (λ k m. ap (λ (a : Amount). a.rules) (same k m)) k ms in
      let tokens = total_inside (λ m. (f m).tokens) (λ k m. ap (λ (a : Amount). a.tokens) (same k m)) k ms in
      λ i. record { rules = rules i; tokens = tokens i }

  -- the members of a part, and then those that are left
  pub counted_part : (rows : List (List Member)) (s : Span) (parts : List Part) (i : ℕ) (d : Part) → i < length parts → (here : List Member) (one : Tally) →
      here ≡ part_at rows (get_or parts i d) → one ≡ kept (sum_of f here) → kept (sum_of f (left_at rows parts i s)) ≡ joined one (kept (sum_of f (left_at rows parts (i + 1) s)))
  counted_part rows s parts i d within here one is own =
      let p : Part = get_or parts i d in
      counted_split f (left_at rows parts i s) (members_in_part rows p) (left_at rows parts (i + 1) s) one (one_more rows s parts i d within)
      (own ∙ ap (λ ms. kept (sum_of f ms)) is ∙ ap kept (sym (sum_inside p.inside (part_at rows p))))

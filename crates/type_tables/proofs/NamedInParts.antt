-- The first of a name in a list that is made of shared rows: in its parts, and then in its own row.
use Rattle.std.proofs.Common.{◌≡◌, ◌∙◌, ap, List, [], ◌∷◌, ◌++◌, Option, None, take, slice_index_or}
use Rattle.std.specs.Option.{option_or}
use Rattle.type_members.specs.Shared.{list_at, part_at, parts_at}
use Rattle.type_members.specs.declared.places.Part.{Part}
use Rattle.type_members.specs.declared.places.Span.{Span}
use Rattle.type_tables.specs.InParts.{first_found}

module _ {X A : Type 0} (look : List X → Option A) (nowhere : look [] ≡ None) (in_both : (xs ys : List X) → look (xs ++ ys) ≡ option_or (look xs) (look ys)) (rows : List (List X)) where
  in_parts : (parts : List Part) → look (parts_at rows parts) ≡ first_found (λ p. look (part_at rows p)) parts
  in_parts [] = nowhere
  in_parts (p ∷ ps) = in_both (part_at rows p) (parts_at rows ps) ∙ ap (option_or (look (part_at rows p))) (in_parts ps)

  pub in_list : (fronts : List (List Part)) (s : Span) →
      look (list_at fronts rows s) ≡ option_or (first_found (λ p. look (part_at rows p)) (slice_index_or fronts s.row [])) (look (take s.len (slice_index_or rows s.row [])))
  in_list fronts s =
      in_both (parts_at rows (slice_index_or fronts s.row [])) (take s.len (slice_index_or rows s.row []))
      ∙ ap (λ o. option_or o (look (take s.len (slice_index_or rows s.row [])))) (in_parts (slice_index_or fronts s.row []))

-- What the members of a part give, seen from inside of conditional subtypes.
use Rattle.std.proofs.Common.{◌≡◌, ◌∙◌, sym, ap, ℕ, ◌+◌, ◌<◌, List, ◌++◌, flat_map, get_or, length, map}
use Rattle.std.proofs.lemmas.List.Folds.{flat_map-map}
use Rattle.expr_nodes.specs.type_heads.Types.{Member}
use Rattle.program_texts.specs.type_members.Shared.{part_at, under_inside}
use Rattle.program_texts.specs.type_members.declared.places.Part.{Part}
use Rattle.program_texts.specs.type_members.declared.places.Span.{Span}
use Rattle.program_texts.proofs.of_program_fields.Fronts.{given_more, left_at}

-- after what came before
pub part_more : {Z : Type 0} (give : Member → List Z) (rows : List (List Member)) (s : Span) (parts : List Part) (i : ℕ) (d : Part) → i < length parts →
    (members : List Member) (into into' all : List Z) → members ≡ part_at rows (get_or parts i d) →
    into' ≡ into ++ flat_map (λ (m : Member). give (under_inside (get_or parts i d).inside m)) members →
    into ++ flat_map give (left_at rows parts i s) ≡ all → into' ++ flat_map give (left_at rows parts (i + 1) s) ≡ all
part_more give rows s parts i d within members into into' all here more so_far =
    let inside : ℕ = (get_or parts i d).inside in
    given_more rows s parts i d within give (map (under_inside inside) members) into into' all (ap (map (under_inside inside)) here)
    (more ∙ ap (λ xs. into ++ xs) (sym (flat_map-map give (under_inside inside) members))) so_far

use Rattle.std.proofs.Common.{◌≡◌, ◌∙◌, ◌++◌, ◌<◌, ◌⊎◌, [], ◌∷◌, ap, length, map, refl, subst, sym}
use Rattle.type_heads.specs.Bodied.{seen_body}
use Rattle.type_heads.specs.Table.{bases}
use Rattle.type_members.specs.Listed.{seen_listed}
use Rattle.type_members.proofs.Listings.{part_beside}
use Rattle.type_members.proofs.along.push_part.Goals as goal

pub returns : goal.returns
returns c =
    c.in_ok-list.ensures
    ∙ ap (λ ms. map seen_listed c.args.into.now.items ++ ms)
    (part_beside c.args.heads.now (map seen_body c.args.bodies.now) c.args.subtypes.now c.args.of c.count-steps.result c.args.depth c.as_slice.result.now [] c.requires.subtypes c.count-steps.ensures
    c.requires.ended
    (subst (λ ts. ((ts ≡ []) × (c.args.depth < length c.args.heads.now)) ⊎ (ts ≡ c.args.of ∷ bases c.args.heads.now c.args.of)) (sym c.as_slice.ensures.value) c.in_ok-line.ensures)
    refl)

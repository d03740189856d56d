use Rattle.std.proofs.Common.{rules, ◌≡◌, ◌∙◌, ◌++◌, ◌<◌, ◌+◌, [], ◌∷◌, Some, ap, filter, length, refl, slice_index_or}
use Rattle.std.specs.Prelude.{slice_get}
use Rattle.std.proofs.lemmas.List.{take_rest}
use Rattle.std.proofs.lemmas.Option.{slice_get_read}
use Rattle.type_members.specs.Shared.{has_places}
use Rattle.type_members.proofs.Moves.{moved_pushed}
use Rattle.type_members.proofs.fronts.moved.Goals as goal

pub returns : goal.returns
returns c =
    let less : c.args.cut.now.part < length c.args.parts.now = search rules in
    let is : c.in-Some.part.now ≡ slice_index_or c.args.parts.now c.args.cut.now.part c.in-Some.part.now = search rules in
    let there : slice_get c.args.parts.now c.args.cut.now.part ≡ Some c.in-Some.part.now =
    slice_get_read c.args.parts.now (length c.args.parts.now) c.args.cut.now.part c.in-Some.part.now refl less is in
    moved_pushed c.args.parts.now c.args.cut.now c.in-Some.part.now c.new-front.result.items c.push_parts.new.into.items c.push_part.new.into.items c.push_part-2.new.into.items
    c.push_parts-2.new.into.items c.push_part-3.new.into.items there c.new-front.ensures.items c.in_ok-push_parts.ensures
    (c.in_ok-push_part.ensures ∙ ap (λ q. c.push_parts.new.into.items ++ filter has_places (q ∷ [])) c.part_before.ensures)
    (c.in_ok-push_part-2.ensures ∙ ap (λ q. c.push_part.new.into.items ++ filter has_places (q ∷ [])) c.part_after.ensures)
    (c.in_ok-push_parts-2.ensures ∙ ap (λ ps. c.push_part-2.new.into.items ++ filter has_places ps) (take_rest c.args.parts.now (c.args.cut.now.part + 1)))
    (c.in_ok-push_part-3.ensures ∙ ap (λ q. c.push_parts-2.new.into.items ++ filter has_places (q ∷ [])) c.in_ok-inner_part.ensures)

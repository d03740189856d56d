use Rattle.std.proofs.Common.{◌∙◌, ◌++◌, ap, ap₂, map}
use Rattle.string_texts.specs.type_heads.Shown.{shown_member}
use Rattle.type_model.specs.RowRefs.{refs_in_parts, told_inside}
use Rattle.type_model.proofs.refs.refs_at.Goals as goal

pub returns : goal.returns
returns c =
    ap (map shown_member) c.of.ensures
    ∙ c.in_ok-push_inside.ensures
    ∙ ap₂ (λ a b. a ++ b) (c.in_ok-refs.ensures ∙ ap (refs_in_parts c.args.rows.now) c.front_of.ensures) (ap (map (told_inside 0)) c.own_refs.ensures)

use Rattle.std.proofs.Common.{◌≡◌, ◌++◌, drop, map}
use Rattle.string_texts.specs.type_heads.Shown.{shown_member}
use Rattle.type_model.specs.RowRefs.{told_inside}
use Rattle.type_model.proofs.refs.push_inside.Given as goal

abbrev pub invariant-loop-member : goal.invariant-loop-member
invariant-loop-member l =
    map shown_member l.refs.items ++ map (told_inside l.inside) (drop l.member-index l.members) ≡ map shown_member l.fn.refs.items ++ map (told_inside l.inside) l.members

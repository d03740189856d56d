use Rattle.std.proofs.Common.{◌≡◌, ◌++◌, drop, map}
use Rattle.string_texts.specs.type_heads.Shown.{shown_member}
use Rattle.type_model.specs.RowRefs.{refs_in_parts}
use Rattle.type_model.proofs.refs.parts_refs.Given as goal

abbrev pub invariant-loop-part : goal.invariant-loop-part
invariant-loop-part l = map shown_member l.refs.items ++ refs_in_parts l.rows (drop l.part-index l.parts) ≡ refs_in_parts l.rows l.parts

use Rattle.std.proofs.Common.{◌≡◌, drop, map}
use Rattle.type_members.specs.Cutting.{is_within, one_begins}
use Rattle.type_members.specs.Listed.{seen_row}
use Rattle.type_members.proofs.cutting.one_begins_within.Given as goal

abbrev pub invariant-loop-part : goal.invariant-loop-part
invariant-loop-part l = one_begins (is_within l.of) (map seen_row l.rows) (drop l.part-index l.parts) ≡ one_begins (is_within l.of) (map seen_row l.rows) l.parts

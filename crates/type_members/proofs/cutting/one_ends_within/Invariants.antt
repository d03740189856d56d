use Rattle.std.proofs.Common.{◌≡◌, drop, map}
use Rattle.type_members.specs.Cutting.{is_within, one_ends}
use Rattle.type_members.specs.Listed.{seen_row}
use Rattle.type_members.proofs.cutting.one_ends_within.Given as goal

abbrev pub invariant-loop-part : goal.invariant-loop-part
invariant-loop-part l = one_ends (is_within l.of) (map seen_row l.rows) (drop l.part-index l.parts) ≡ one_ends (is_within l.of) (map seen_row l.rows) l.parts

use Rattle.std.proofs.Common.{◌≡◌, [], take, drop}
use Rattle.type_heads.specs.Units.{are_bases}
use Rattle.type_heads.proofs.Bases.{names_before}
use Rattle.type_heads.proofs.brackets.have_no_fault.Given as goal

abbrev pub invariant-loop-part : goal.invariant-loop-part
invariant-loop-part l = record {
  count : l.index ≡ l.part-index;
  rest : are_bases [] l.bases ≡ are_bases (names_before (take l.part-index l.bases)) (drop l.part-index l.bases);
}

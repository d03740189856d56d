use Rattle.std.proofs.Common.{◌≡◌, drop, map}
use Rattle.type_members.specs.osc_base.FaultRows.{first_from}
use Rattle.type_members.specs.type_heads.Placing.{seen_type}
use Rattle.type_members.specs.type_heads.Gathered.{all_of, heads_of}
use Rattle.type_members.specs.type_heads.DeclaredTypes.{all_declared}
use Rattle.type_members.specs.type_heads.HeadingFaults.{enum_rows_from}
use Rattle.heading_faults.proofs.declared.with_enums.Given as goal

abbrev pub invariant-loop-own : goal.invariant-loop-own
invariant-loop-own l = record {
  count : l.number ≡ l.own-index;
  rest : first_from l.fn.first (enum_rows_from (heads_of l.declarations) (all_of l.declarations) 0 (all_declared (all_of l.declarations)))
      ≡ first_from l.found (enum_rows_from (heads_of l.declarations) (all_of l.declarations) l.number (map seen_type (drop l.own-index l.declarations.types.items)));
}

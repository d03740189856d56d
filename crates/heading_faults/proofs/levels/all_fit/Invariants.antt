use Rattle.std.proofs.Common.{◌≡◌, drop, map}
use Rattle.std.specs.List.{list_all}
use Rattle.type_members.specs.type_heads.Bodied.{seen_body}
use Rattle.type_members.specs.type_heads.Table.{all_types, numbers_from}
use Rattle.heading_faults.specs.HeldRanks.{type_fits}
use Rattle.heading_faults.proofs.levels.all_fit.Given as goal

abbrev pub invariant-loop-number : goal.invariant-loop-number
invariant-loop-number l =
    list_all (type_fits l.heads (map seen_body l.bodies) l.ranks) (all_types l.heads) ≡ list_all (type_fits l.heads (map seen_body l.bodies) l.ranks) (numbers_from l.number (drop l.number l.heads))

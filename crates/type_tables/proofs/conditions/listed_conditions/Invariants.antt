use Rattle.std.proofs.Common.{◌≡◌, ◌++◌, drop, map}
use Rattle.type_members.specs.type_heads.Bodied.{seen_body}
use Rattle.type_members.specs.type_heads.Table.{numbers_from}
use Rattle.type_members.specs.Listed.{lists_of}
use Rattle.type_tables.specs.Looked.{condition_of}
use Rattle.type_tables.proofs.conditions.listed_conditions.Given as goal

abbrev pub invariant-loop-number : goal.invariant-loop-number
invariant-loop-number l = l.all.items ++ map (condition_of l.heads (map seen_body l.bodies) (lists_of l.lists)) (numbers_from l.number (drop l.number l.heads))
    ≡ map (condition_of l.heads (map seen_body l.bodies) (lists_of l.lists)) (numbers_from 0 l.heads)

use Rattle.std.proofs.Common.{◌≡◌, ◌++◌, drop, map}
use Rattle.std.specs.Prelude.{filter}
use Rattle.type_members.specs.type_heads.Bodied.{seen_body}
use Rattle.type_members.specs.type_heads.Members.{is_conditional}
use Rattle.member_faults.proofs.depends.push_all_conditional.Given as goal

abbrev pub invariant-loop-of : goal.invariant-loop-of
invariant-loop-of l =
    l.fn.into.items ++ filter (is_conditional (map seen_body l.bodies)) l.types ≡ l.into.items ++ filter (is_conditional (map seen_body l.bodies)) (drop l.of-index l.types)

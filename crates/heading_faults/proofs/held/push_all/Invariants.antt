use Rattle.std.proofs.Common.{◌≡◌, ◌++◌, ℕ, List, drop, flat_map, map}
use Rattle.type_members.specs.type_heads.Bodied.{seen_body}
use Rattle.type_members.specs.type_heads.Members.{body}
use Rattle.heading_faults.specs.Holding.{fields_of}
use Rattle.heading_faults.proofs.held.push_all.Given as goal

abbrev pub invariant-loop-of : goal.invariant-loop-of
invariant-loop-of l =
    let held : ℕ → List ℕ = λ u. fields_of l.heads ((body (map seen_body l.bodies) u).own ++ (body (map seen_body l.bodies) u).more) in
    l.fn.into.items ++ flat_map held l.types ≡ l.into.items ++ flat_map held (drop l.of-index l.types)

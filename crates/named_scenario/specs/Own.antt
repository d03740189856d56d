-- The members that stand in the declaration of a type, without those of its bases, subtypes and extensions.
use Rattle.std.specs.Prelude.{ℕ, List, map}
use Rattle.dsl_tree.specs.FileTree.{MemberTree}
use Rattle.program_uses.specs.type_heads.Types.{Written, Types}
use Rattle.program_uses.specs.type_heads.Members.{body}

-- the members that stand in the declaration of type t
abbrev pub own_members : Types → ℕ → List MemberTree
own_members ts t = map (λ (w : Written). w.member) (body ts.bodies t).own

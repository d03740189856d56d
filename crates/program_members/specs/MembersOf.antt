-- What the program's own bodies and members of types are.
use Rattle.std.specs.Prelude.{◌≡◌, ℕ, List, Option, map}
use Rattle.type_members.specs.type_heads.Bodied.{all_bodies, seen_body}
use Rattle.type_members.specs.type_heads.DeclaredTypes.{Placed}
use Rattle.type_members.specs.type_heads.Members.{members_of}
use Rattle.type_members.specs.type_heads.Table.{TypeHead, all_types}
use Rattle.type_members.specs.type_heads.Types.{Types}
use Rattle.type_members.specs.Listed.{lists_of}
use Rattle.program_members.specs.declared.members.ProgramMembers.{ProgramMembers}

-- the bodies and members of the types that are declared, and the number of the library's file
pub record AreDeclaredMembers (all : List Placed) (heads : List TypeHead) (library : Option ℕ) (m : ProgramMembers) : Type 0 where
  pub same_library : m.library ≡ library
  pub same_bodies : map seen_body m.bodies.items ≡ all_bodies all
  pub same_lists : lists_of m.lists ≡ map (members_of heads (all_bodies all)) (all_types heads)

-- the bodies and members of the types, and the number of the library's file
pub record AreMembersOf (ts : Types) (m : ProgramMembers) : Type 0 where
  pub same_library : m.library ≡ ts.library
  pub same_bodies : map seen_body m.bodies.items ≡ ts.bodies
  pub same_lists : lists_of m.lists ≡ ts.members

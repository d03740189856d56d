-- The members of the types of a program.
use Rattle.std.proofs.Common.{◌≡◌, ◌∙◌, refl, sym, ap, ap₂, ℕ, List, Option, map}
use Rattle.type_members.specs.name_scope.FileNumbers.{AddedFile}
use Rattle.type_members.specs.type_heads.Bodied.{all_bodies}
use Rattle.type_members.specs.type_heads.DeclaredTypes.{Placed, placed, program_of, types_from, types_of}
use Rattle.type_members.specs.type_heads.HeadsGrouped.{all_heads}
use Rattle.type_members.specs.type_heads.Members.{members_of}
use Rattle.type_members.specs.type_heads.Table.{TypeHead, all_types}
use Rattle.type_members.specs.type_heads.Types.{Program, Types}
use Rattle.program_members.specs.declared.members.ProgramMembers.{ProgramMembers}
use Rattle.program_members.specs.MembersOf.{AreDeclaredMembers, AreMembersOf}

types_are : (p : Program) → types_from p (all_heads (placed p)) (all_bodies (placed p)) ≡ types_of p
unfolding all_heads all_bodies types_of
types_are p = refl

pub are_members : (p : Program) (all : List Placed) → all ≡ placed p → (heads : List TypeHead) → heads ≡ all_heads all → (library : Option ℕ) → library ≡ p.library
    → (m : ProgramMembers) → AreDeclaredMembers all heads library m → AreMembersOf (types_of p) m
are_members p all same heads same_heads library same_library m are = record {
  same_library = are.same_library ∙ same_library ∙ ap (λ (ts : Types). ts.library) (types_are p);
  same_bodies = are.same_bodies ∙ ap all_bodies same ∙ ap (λ (ts : Types). ts.bodies) (types_are p);
  same_lists =
      are.same_lists
      ∙ ap (λ hs. map (members_of hs (all_bodies all)) (all_types hs)) (same_heads ∙ ap all_heads same)
      ∙ ap (λ ps. map (members_of (all_heads (placed p)) (all_bodies ps)) (all_types (all_heads (placed p)))) same
      ∙ ap (λ (ts : Types). ts.members) (types_are p);
}

use Rattle.std.proofs.Common.{◌≡◌, ℕ, List, take}
use Rattle.type_members.specs.name_scope.Declaring.{first_place}
use Rattle.type_members.specs.declared.listed.ListedMember.{ListedMember}
use Rattle.type_members.specs.Listed.{seen_listed}
use Rattle.member_faults.specs.NamePlaces.{declares_name, number_in}
use Rattle.member_faults.proofs.name_places.FirstMembers.of.Given as goal

abbrev pub invariant-loop-listed : goal.invariant-loop-listed
invariant-loop-listed l = record {
  count : l.number ≡ l.listed-index;
  first : (name : List ℕ) → number_in l.first name ≡ first_place (λ (m : ListedMember). declares_name name (seen_listed m)) 0 (take l.listed-index l.members);
}

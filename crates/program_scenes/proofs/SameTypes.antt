-- The types that the texts of a program stand for are the program's.
use Rattle.std.proofs.Common.{◌≡◌, ◌∙◌, sym, ap}
use Rattle.named_scenario.specs.program_members.declared.members.ProgramMembers.{ProgramMembers}
use Rattle.named_scenario.specs.program_members.MembersOf.{AreMembersOf}
use Rattle.work_parts.specs.program_texts.SeenTexts.{types_with}
use Rattle.named_scenario.specs.type_heads.Told.{Told, told}
use Rattle.named_scenario.specs.type_heads.Types.{Types}

-- what is told of the types, and their members
module _ (ts : Types) (m : ProgramMembers) (t : Told) (members : AreMembersOf ts m) (same : t ≡ told ts) where
  pub types_are : types_with m t.table ≡ ts
  types_are = λ i. record {
    bodies = members.same_bodies i;
    library = members.same_library i;
    members = members.same_lists i;
    table = (ap (λ (x : Told). x.table) same) i;
  }

  pub told_are : t ≡ told (types_with m t.table)
  told_are = same ∙ ap told (sym types_are)

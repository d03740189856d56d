use Rattle.std.proofs.Common.{◌≡◌, drop}
use Rattle.type_members.specs.name_scope.Declaring.{first_place}
use Rattle.type_members.specs.name_scope.FileNumbers.{is_library, numbered_names}
use Rattle.program_members.proofs.library.library_of.Given as goal

abbrev pub invariant-loop-number : goal.invariant-loop-number
invariant-loop-number l = first_place is_library l.number (drop l.number (numbered_names l.program)) ≡ first_place is_library 0 (numbered_names l.program)

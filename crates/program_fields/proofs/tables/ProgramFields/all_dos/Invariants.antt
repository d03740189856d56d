use Rattle.std.proofs.Common.{◌≡◌, ◌++◌, drop, map, option_map}
use Rattle.program_fields.specs.SeenFields.{first_do_in, seen_do}
use Rattle.program_fields.specs.Tables.{lists_in, members_at}
use Rattle.program_fields.proofs.tables.ProgramFields.all_dos.Given as goal

abbrev pub invariant-loop-span : goal.invariant-loop-span
invariant-loop-span l =
    map (option_map seen_do) l.all.items ++ map first_do_in (map (members_at l.self) (drop l.span-index l.span-items)) ≡ map first_do_in (lists_in l.self)

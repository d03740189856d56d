-- What the program's own texts of types are seen as.
use Rattle.program_calls.specs.type_heads.Bodied.{seen_body}
use Rattle.program_calls.specs.type_heads.Table.{Table}
use Rattle.program_calls.specs.type_heads.Types.{Types}
use Rattle.program_fields.specs.type_members.Listed.{lists_of}
use Rattle.std.specs.Prelude.{map}
use Rattle.program_members.specs.declared.members.ProgramMembers.{ProgramMembers}
use Rattle.program_texts.specs.declared.texts.ProgramTexts.{ProgramTexts}
use Rattle.program_texts.specs.SeenFields.{types_of_parts}

-- the types of the texts
abbrev pub types_in : ProgramTexts → Types
types_in t = types_of_parts t.bodies.now t.library t.fields t.types.now.table

-- the types with these members and that table
abbrev pub types_with : ProgramMembers → Table → Types
types_with m table = record { bodies = map seen_body m.bodies.items; library = m.library; members = lists_of m.lists; table = table }

-- What the program's own bodies and fields of types are seen as.
use Rattle.std.specs.Prelude.{ℕ, List, Option, map}
use Rattle.program_calls.specs.type_heads.Bodied.{seen_body}
use Rattle.program_calls.specs.type_heads.Table.{Table}
use Rattle.program_calls.specs.type_heads.Types.{Types}
use Rattle.program_calls.specs.type_heads.declared.body.Body.{Body}
use Rattle.program_fields.specs.Tables.{lists_in}
use Rattle.program_fields.specs.declared.tables.ProgramFields.{ProgramFields}

-- the types with these bodies, fields and table
abbrev pub types_of_parts : List Body → Option ℕ → ProgramFields → Table → Types
types_of_parts bodies library fields table = record { bodies = map seen_body bodies; library = library; members = lists_in fields; table = table }

use Rattle.program_load.specs.SourceReading.{syntactic}
use Rattle.program_load.proofs.SourceReading.{ended}
use Rattle.program_load.proofs.read.read.Goals as goal

pub parse-requires : goal.parse-requires
parse-requires c = record { ended = ended c.in-Ok.tokens c.in-Ok.ensures.end }

pub returns-in-Err-At-parse-clause-stops : goal.returns-in-Err-At-parse-clause-stops
returns-in-Err-At-parse-clause-stops c = syntactic c.in-Ok.tokens c.in-Ok.ensures.tokens (rw c.in-Err-At-parse.field-0-is at c.in-Err-At-parse.ensures.fault)

use Rattle.std.proofs.Common.{◌∙◌}
use Rattle.program_load.proofs.Turning.{import_stops, long_stops, fault_stops, missing_stops}
use Rattle.program_load.proofs.turn.take_file.Goals as goal

pub returns-in-Ok-clause-stops : goal.returns-in-Ok-clause-stops
returns-in-Ok-clause-stops g c = import_stops _ _ _ c.files.result (record { name = c.in_ok-name.name; file = c.in-Ok.file }) c.add.result
    c.files.ensures.count (c.in_ok-name.ensures ∙ c.text_of.ensures) c.in-Ok.ensures.read c.add.ensures.unadded

pub returns-in_ok-missing-in-Err-Missing-clause-stops : goal.returns-in_ok-missing-in-Err-Missing-clause-stops
returns-in_ok-missing-in-Err-Missing-clause-stops g c = missing_stops _ _ _ c.in_ok-missing-in-Err-Missing.field-0
    c.in_ok-missing-in-Err-Missing.ensures c.requires.turn (rw c.in-Err-Missing.field-0-is at c.in-Err-Missing.ensures.stops)

pub returns-in-Err-Long-clause-stops : goal.returns-in-Err-Long-clause-stops
returns-in-Err-Long-clause-stops g c = long_stops _ _ _ c.in_ok-name.name (c.in_ok-name.ensures ∙ c.text_of.ensures)
    (rw c.in-Err-Long.field-0-is at c.in-Err-Long.ensures.stops)

pub returns-in-Err-At-clause-stops : goal.returns-in-Err-At-clause-stops
returns-in-Err-At-clause-stops g c = fault_stops _ _ _ c.files.result c.in_ok-name.name c.in-Err-At.fault c.files.ensures.count (c.in_ok-name.ensures ∙ c.text_of.ensures)
    (rw c.in-Err-At.field-0-is at c.in-Err-At.ensures.stops)

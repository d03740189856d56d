use Rattle.std.proofs.Common.{refl}
use Rattle.record_text.proofs.Headers.{read_head, read_slots, read_rules, stop_head, stop_slots, stop_rules, stop_room}
use Rattle.record_text.proofs.header.read_header.Goals as goal

pub returns-in_err-head-clause-stop : goal.returns-in_err-head-clause-stop
returns-in_err-head-clause-stop g c = stop_head c.from_residual.result c.in_err-head.field-0.0 _ _ _ _ _ c.requires c.from_residual.ensures.1 refl refl c.in_err-head.ensures.stop

pub returns-in_err-slots-clause-stop : goal.returns-in_err-slots-clause-stop
returns-in_err-slots-clause-stop g c = stop_slots c.from_residual-in_err-slots.result c.in_err-slots.field-0.0 _ _ _ _ _ c.requires c.from_residual-in_err-slots.ensures.1 _ _
    (read_head _ _ _ _ _ c.in_ok-head.ensures.line) c.in_err-slots.ensures.stop

pub returns-in_err-rules-clause-stop : goal.returns-in_err-rules-clause-stop
returns-in_err-rules-clause-stop g c = stop_rules c.from_residual-in_err-rules.result c.in_err-rules.field-0.0 _ _ _ _ _ c.requires c.from_residual-in_err-rules.ensures.1 _ _ _
    (read_slots _ _ _ _ _ _ _ _ _ (read_head _ _ _ _ _ c.in_ok-head.ensures.line) c.in_ok-slots.ensures.line) c.in_err-rules.ensures.stop

pub returns-in_err-room-clause-stop : goal.returns-in_err-room-clause-stop
returns-in_err-room-clause-stop g c = stop_room c.from_residual-in_err-room.result c.in_err-room.field-0.0 _ _ _ _ _ c.requires c.from_residual-in_err-room.ensures.1 _ _ _ _
    (read_rules _ _ _ _ _ _ _ _ _ _
    (read_slots _ _ _ _ _ _ _ _ _ (read_head _ _ _ _ _ c.in_ok-head.ensures.line) c.in_ok-slots.ensures.line) c.in_ok-rules.ensures.line) c.in_err-room.ensures.stop

use Rattle.std.proofs.Common.{◌∙◌}
use Rattle.record_text.proofs.Lines.{held_room, held_full}
use Rattle.record_text.proofs.next_line.hold.Goals as goal

pub returns-then-not-is_full : goal.returns-then-not-is_full
returns-then-not-is_full c = c.push.ensures.items
    ∙ held_room c.args.held.now.items c.args.byte c.is_full.result c.is_full.ensures.value c.is_full.ensures.fits c.if-not-is_full.true

pub returns-else-not-is_full : goal.returns-else-not-is_full
returns-else-not-is_full c = held_full c.args.held.now.items c.args.byte c.is_full.result c.is_full.ensures.value c.if-not-is_full.false

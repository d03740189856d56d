use Rattle.record_text.proofs.Lines.{spelled_room}
use Rattle.record_text.proofs.page.spell.Goals as goal

pub returns-clause-few : goal.returns-clause-few
returns-clause-few c = spelled_room _ _ c.args.piece c.requires.short c.push_piece.ensures

use Rattle.std.proofs.Common.{◌∙◌, sym}
use Rattle.dsl_lexer.proofs.WordTables.{no_row_of_length, row_of_length}
use Rattle.dsl_lexer.proofs.words.entry_in.Goals as goal

pub returns-in-Some : goal.returns-in-Some
returns-in-Some c = c.entry.ensures ∙ row_of_length c.args.text.now c.args.rows.now c.in-Some.words c.requires c.in-Some.ensures.lookup

pub returns-in-None : goal.returns-in-None
returns-in-None c = sym (no_row_of_length c.args.text.now c.args.rows.now c.requires c.in-None.ensures.lookup.3)

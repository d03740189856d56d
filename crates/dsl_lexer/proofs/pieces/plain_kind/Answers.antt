use Rattle.dsl_lexer.proofs.Texts.{name_utf8, number_left}
use Rattle.dsl_lexer.proofs.pieces.plain_kind.Goals as goal

pub name_kind-requires : goal.name_kind-requires
name_kind-requires c = name_utf8 c.args.text.now (rw c.in-NameShape.is at c.requires.shape)

pub number_kind-requires : goal.number_kind-requires
number_kind-requires c = number_left c.args.shape c.args.text.now c.requires.lexeme c.in_default.not-MarkShape c.in_default.not-NameShape c.requires.plain c.requires.shape

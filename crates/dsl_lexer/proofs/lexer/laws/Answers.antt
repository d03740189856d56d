use Rattle.dsl_lexer.proofs.LawProofs as laws
use Rattle.dsl_lexer.proofs.Inside.{chars_law}
use Rattle.dsl_lexer.proofs.DecimalParts.{decimal_law, hexadecimal_law}
use Rattle.dsl_lexer.proofs.Total.{cut_or_first_fault}
use Rattle.dsl_lexer.proofs.lexer.laws.Goals as goal

pub returns-clause-one_list : goal.returns-clause-one_list
returns-clause-one_list c = laws.one_list

pub returns-clause-cut_or_fault : goal.returns-clause-cut_or_fault
returns-clause-cut_or_fault c = laws.cut_or_fault

pub returns-clause-one_fault : goal.returns-clause-one_fault
returns-clause-one_fault c = laws.one_fault

pub returns-clause-end_is_last : goal.returns-clause-end_is_last
returns-clause-end_is_last c = laws.end_is_last

pub returns-clause-opened_widths : goal.returns-clause-opened_widths
returns-clause-opened_widths c = laws.opened_law

pub returns-clause-chars : goal.returns-clause-chars
returns-clause-chars c = chars_law

pub returns-clause-cut_or_first_fault : goal.returns-clause-cut_or_first_fault
returns-clause-cut_or_first_fault c = cut_or_first_fault

pub returns-clause-decimal : goal.returns-clause-decimal
returns-clause-decimal c = decimal_law

pub returns-clause-hexadecimal : goal.returns-clause-hexadecimal
returns-clause-hexadecimal c = hexadecimal_law

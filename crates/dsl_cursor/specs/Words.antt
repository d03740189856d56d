-- The words of the definitions, for contracts and proofs, in one place.
pub use Rattle.dsl_cursor.specs.Terms.{ActorWord, AnyRule, At, Bare, Bool, Built, CanBegin, Digits, Ended, Err, Follows, Forest, Ident, IfErr, IfOk, IsErr, IsErrAnd, List, MarkKind, Memory, None, NotTaken, Of, Ok, Option, Parsed, Part, PartFault, Place, Result, RowFault, Seen, Some, Spells, Starts, Stop, Stops, Symbol, Taken, Token, TokenKind, Whole, WordKind, [], bare, code, cond, dedent, drop, empties, empty, factor_text, false, first, firsts, has, ident, indent, length, mark, mark_code, max, name_code, nat_lt, newline, nil, offset_text, physical_code, rules, seen, si_text, small_number, sound, starts, sub, subset, text_code, true, void, word_code, wrong, ℕ}
pub use Rattle.dsl_cursor.specs.Cursor.{at, base_names, enum_member, kind_of, name_token, number_token, numbers, physical_token, sign_codes, text_token, whole_numbers}
unfoldable pub use Rattle.dsl_cursor.specs.Descent.{begins_label, read, take}
pub use Rattle.dsl_cursor.specs.Descent.{Gives, Outcome, Tries, after, and_then, by_rules, colon, deep, in_part, in_row, is_arguments, named_argument, named_rest, names, only_part, onto, optional, plain_argument, rest_at, room, rule_at}
pub use Rattle.dsl_cursor.specs.Rows.{Grows, IsItemRow, IsNext, IsRow, in_block}

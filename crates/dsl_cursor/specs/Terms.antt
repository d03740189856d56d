-- The words of the libraries below that the readers of the grammar speak of, in one place.
pub use Rattle.std.specs.Prelude.{[], List, Err, IfOk, false, length, true, ℕ, Ok, IfErr, None, Option, Result, Some, Bool, drop, nat_lt, suc, zero, cond, max}
pub use Rattle.std.specs.Result.{IsErr, IsErrAnd}
pub use Rattle.dsl_tree.specs.osc_base.{declared.fault.Place.Place, declared.stop.Stop.Stop, declared.stop.Stop.TheVariants.Memory, declared.stop.Stop.TheVariants.At}
pub use Rattle.dsl_tree.specs.Codes.{code, has, mark_code, word_code, factor_text, si_text, offset_text, other_name, physical_code, si_name, small_number, text_code, factor_name, large_number, name_code, offset_name, point_number}
pub use Rattle.dsl_tree.specs.Forest.{nil, Forest, sub, seen, bare, wrong, AnyRule, Follows, Spells}
pub use Rattle.dsl_tree.specs.Grammar.{Part, rules, Symbol, Of, Bare, Seen, dedent, indent, name, newline}
pub use Rattle.dsl_tree.specs.Language.{Ended}
pub use Rattle.dsl_tree.specs.Lookahead.{first, empty, firsts, subset, empties, sound}
pub use Rattle.dsl_tree.specs.Reading.{starts, Stops, Parsed, PartFault, Starts, NotTaken, RowFault, Whole, void, Built, CanBegin, Taken}
pub use Rattle.dsl_tree.specs.Written.{mark, ident}
pub use Rattle.dsl_tree.specs.WrittenPhases.{block_end, opened}
pub use Rattle.dsl_tree.specs.declared.{parts.Digits.Digits, parts.Ident.Ident, token.MarkKind.MarkKind, token.Token.Token, token.TokenKind.TokenKind, token.WordKind.WordKind, token.WordKind.TheVariants.ActorWord}

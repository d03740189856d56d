use Rattle.std.proofs.Common.{ℕ, ◌*◌, ◌+◌, ◌≤◌, [], ◌∷◌, length}
use Rattle.dsl_cursor.specs.Words.{Part}
use Rattle.dsl_expressions.specs.Words.{item_level, items_of, suffixes_of, tail_of, tail_part, RowLevel, OrRow, AndRow, SumRow, ProductRow}
use Rattle.dsl_cursor.proofs.Loops.{Along}
use Rattle.dsl_expressions.proofs.expressions.+expressions.Given as goal

-- Each reader calls only others of a lower rank before it has read a token. Here is the rank of an item of a row.
abbrev pub rank : RowLevel → ℕ
rank OrRow = 17
rank AndRow = 15
rank SumRow = 11
rank ProductRow = 9

abbrev pub decreases-expression : goal.decreases-expression
decreases-expression l = 24 * length l.tokens.now + 20

abbrev pub decreases-item : goal.decreases-item
decreases-item l = 24 * length l.tokens.now + rank l.level

abbrev pub decreases-row : goal.decreases-row
decreases-row l = 24 * length l.tokens.now + (rank l.level + 1)

abbrev pub decreases-tail : goal.decreases-tail
decreases-tail l = 24 * length l.tokens.now + 0

abbrev pub decreases-not : goal.decreases-not
decreases-not l = 24 * length l.tokens.now + 14

abbrev pub decreases-relation : goal.decreases-relation
decreases-relation l = 24 * length l.tokens.now + 13

abbrev pub decreases-minus : goal.decreases-minus
decreases-minus l = 24 * length l.tokens.now + 8

abbrev pub decreases-postfix : goal.decreases-postfix
decreases-postfix l = 24 * length l.tokens.now + 7

abbrev pub decreases-suffixes : goal.decreases-suffixes
decreases-suffixes l = 24 * length l.tokens.now + 2

abbrev pub decreases-suffix : goal.decreases-suffix
decreases-suffix l = 24 * length l.tokens.now + 1

abbrev pub decreases-primary : goal.decreases-primary
decreases-primary l = 24 * length l.tokens.now + 6

abbrev pub decreases-group : goal.decreases-group
decreases-group l = 24 * length l.tokens.now + 5

abbrev pub decreases-range_call : goal.decreases-range_call
decreases-range_call l = 24 * length l.tokens.now + 5

abbrev pub decreases-bracket : goal.decreases-bracket
decreases-bracket l = 24 * length l.tokens.now + 5

abbrev pub decreases-bracket_rest : goal.decreases-bracket_rest
decreases-bracket_rest l = 24 * length l.tokens.now + 2

abbrev pub decreases-listed : goal.decreases-listed
decreases-listed l = 24 * length l.tokens.now + 1

abbrev pub invariant-tail-items : goal.invariant-tail-items
invariant-tail-items l = Along (tail_part l.level) (tail_of (item_level l.level)) [] l.items l.fn.tokens l.tokens × (length l.tokens ≤ length l.fn.tokens)

abbrev pub decreases-tail-items : goal.decreases-tail-items
decreases-tail-items l = length l.tokens

abbrev pub invariant-suffixes-suffixes : goal.invariant-suffixes-suffixes
invariant-suffixes-suffixes l = Along Part.SuffixesTail suffixes_of [] l.suffixes l.fn.tokens l.tokens × (length l.tokens ≤ length l.fn.tokens)

abbrev pub decreases-suffixes-suffixes : goal.decreases-suffixes-suffixes
decreases-suffixes-suffixes l = length l.tokens

abbrev pub invariant-listed-items : goal.invariant-listed-items
invariant-listed-items l = Along Part.ListedTail items_of (l.fn.first ∷ []) l.items l.fn.tokens l.tokens × (length l.tokens ≤ length l.fn.tokens)

abbrev pub decreases-listed-items : goal.decreases-listed-items
decreases-listed-items l = length l.tokens

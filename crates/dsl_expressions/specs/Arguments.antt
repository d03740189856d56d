-- What the readers of one argument ensure.
use Rattle.std.specs.Prelude.{◌≡◌, ◌≢◌, ◌<◌, ◌∷◌, map}
use Rattle.dsl_tree.specs.{declared.phases.Argument.Argument, Views.argument_tree}
use Rattle.dsl_cursor.specs.Words.{ℕ, List, [], length, true, false, Bool, Result, Ok, Err, Stop, Memory, Token, MarkKind, Part, Forest, nil, sub, mark, read, in_row, named_argument}
use Rattle.dsl_tree.specs.WrittenPhases as written

abbrev pub arguments_of : List Argument → Forest
arguments_of items = written.arguments (map argument_tree items)

-- an argument with a name was read, and the others with names are left
abbrev pub IsNamed : List Token → Result Argument (Stop ℕ) → List Token → Type 0
IsNamed old (Ok item) new =
    (length new < length old)
    × ((others : List Argument) → written.named_tail (map argument_tree (item ∷ others)) ≡ mark MarkKind.Comma (arguments_of (item ∷ others)))
    × ((others : List Argument) (end : List Token) → read Part.NamedTail new ≡ Ok (written.named_tail (map argument_tree others), end) → in_row read named_argument old ≡ Ok (arguments_of (item ∷ others), end))
    × ((e : Stop ℕ) → read Part.NamedTail new ≡ Err e → in_row read named_argument old ≡ Err e)
IsNamed old (Err e) new = e ≢ Memory → in_row read named_argument old ≡ Err e

-- whether more arguments are left after one without a name
abbrev pub HasMore : List Token → Result Bool (Stop ℕ) → List Token → Type 0
HasMore old (Ok false) new = read Part.ArgumentsTail old ≡ Ok (mark MarkKind.CloseRound nil, new)
HasMore old (Ok true) new =
    (length new < length old)
    × ((others : Forest) (end : List Token) → read Part.Arguments new ≡ Ok (others, end) → read Part.ArgumentsTail old ≡ Ok (mark MarkKind.Comma (sub others nil), end))
    × ((e : Stop ℕ) → read Part.Arguments new ≡ Err e → read Part.ArgumentsTail old ≡ Err e)
HasMore old (Err e) new = e ≢ Memory → read Part.ArgumentsTail old ≡ Err e

-- an argument without a name was read: the last one, or one with others after it
abbrev pub IsPlain : List Token → Result (Argument × Bool) (Stop ℕ) → List Token → Type 0
IsPlain old (Ok (item, false)) new = read Part.Arguments old ≡ Ok (arguments_of (item ∷ []), new)
IsPlain old (Ok (item, true)) new =
    (length new < length old)
    × ((next : Argument) (others : List Argument) (end : List Token) → read Part.Arguments new ≡ Ok (arguments_of (next ∷ others), end) → read Part.Arguments old ≡ Ok (arguments_of (item ∷ next ∷ others), end))
    × ((e : Stop ℕ) → read Part.Arguments new ≡ Err e → read Part.Arguments old ≡ Err e)
IsPlain old (Err e) new = e ≢ Memory → read Part.Arguments old ≡ Err e

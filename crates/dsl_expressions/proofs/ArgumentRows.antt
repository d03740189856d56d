-- The steps of arguments, and the loop that reads those without names.
use Rattle.std.proofs.Common.{◌≡◌, ◌<◌, ◌≤◌, ℕ, List, [], ◌∷◌, ◌++◌, length, map, Bool, true, false, cond, Some, None, refl, sym, ◌∙◌, ap, subst, append_assoc, Ok, Err, arith}
use Rattle.dsl_cursor.specs.Words.{Place, Stop, Token, TokenKind, MarkKind, Ident, mark_code, Part, nil, seen, bare, sub, Stops, mark, at, name_token, rule_at, Outcome, onto, take, after, in_row, in_part, names, colon, begins_label, plain_argument, named_argument, read, Grows, IsRow}
use Rattle.dsl_expressions.specs.Words.{Expr, Argument, expr_tree, argument_tree, expr, arguments_of, HasMore, IsPlain, IsNamed}
use Rattle.dsl_tree.specs.WrittenPhases as written
use Rattle.dsl_cursor.proofs.{Lengths.take_shorter, Lengths.read_within, ReadParts.Took, ReadSteps.read_step, RowSteps.pair, RowSteps.pair_read, RowSteps.pair_second, RowSteps.read_so}

-- The first argument

pub labelled : (ts : List Token) → begins_label ts ≡ true → read Part.Arguments ts ≡ in_row read named_argument ts
labelled ts h = read_step Part.Arguments ts ∙ ap (λ (b : Bool). cond b (in_row read named_argument ts) (in_row read plain_argument ts)) h

pub unlabelled : (ts : List Token) → begins_label ts ≡ false → read Part.Arguments ts ≡ pair Part.Expr Part.ArgumentsTail ts
unlabelled ts h = read_step Part.Arguments ts ∙ ap (λ (b : Bool). cond b (in_row read named_argument ts) (in_row read plain_argument ts)) h

pub step_arguments_tail : (ts : List Token) → read Part.ArgumentsTail ts ≡ in_part read Part.ArgumentsTail ts
step_arguments_tail ts = read_step Part.ArgumentsTail ts

abbrev plain_of : Expr → Argument
plain_of value = record { name = None; value = value }

pub plain_item : (value : Expr) (ts m n : List Token) (more : Bool) → begins_label ts ≡ false → read Part.Expr ts ≡ Ok (expr (expr_tree value), m) → HasMore m (Ok more) n → IsPlain ts (Ok (plain_of value, more)) n
plain_item value ts m n false plain one tail = unlabelled ts plain ∙ pair_read Part.Expr Part.ArgumentsTail (expr (expr_tree value)) (mark MarkKind.CloseRound nil) ts m n one tail
plain_item value ts m n true plain one (less, reads, fails) = (
  let within : length m ≤ length ts = read_within Part.Expr ts (expr (expr_tree value)) m one in omega (arith, less, within),
  λ next others end h. unlabelled ts plain ∙ pair_read Part.Expr Part.ArgumentsTail (expr (expr_tree value)) (mark MarkKind.Comma (sub (arguments_of (next ∷ others)) nil)) ts m end one (reads (arguments_of (next ∷ others)) end h),
  λ e h. unlabelled ts plain ∙ pair_second Part.Expr Part.ArgumentsTail (expr (expr_tree value)) ts m e one (fails e h),
)

abbrev named_of : Ident → Expr → Argument
named_of name value = record { name = Some name; value = value }

named_row : (name : Ident) (place : Place) (ts m n : List Token) → take names ts ≡ Ok (name_token name, m) → take colon m ≡ Ok (at (TokenKind.Mark MarkKind.Colon) place, n)
    → in_row read named_argument ts ≡ onto (seen name.place (TokenKind.Name name.text)) (onto (bare (TokenKind.Mark MarkKind.Colon)) (pair Part.Expr Part.NamedTail n))
named_row name place ts m n one two =
    ap (λ (o : Took). after o (λ t r. onto (seen t.place t.kind) (after (take colon r) (λ u s. onto (bare u.kind) (pair Part.Expr Part.NamedTail s))))) one
    ∙ ap (λ (o : Took). onto (seen name.place (TokenKind.Name name.text)) (after o (λ u s. onto (bare u.kind) (pair Part.Expr Part.NamedTail s)))) two

-- what is read after a name and a colon, with both before it
abbrev behind_name : Ident → Outcome → Outcome
behind_name name o = onto (seen name.place (TokenKind.Name name.text)) (onto (bare (TokenKind.Mark MarkKind.Colon)) o)

pub named_item : (name : Ident) (value : Expr) (place : Place) (ts m n z : List Token) → take names ts ≡ Ok (name_token name, m) → take colon m ≡ Ok (at (TokenKind.Mark MarkKind.Colon) place, n)
    → read Part.Expr n ≡ Ok (expr (expr_tree value), z) → IsNamed ts (Ok (named_of name value)) z
named_item name value place ts m n z one two three = (
  let a : length m < length ts = take_shorter names ts (name_token name) m one in
      let b : length n < length m = take_shorter colon m (at (TokenKind.Mark MarkKind.Colon) place) n two in
      let d : length z ≤ length n = read_within Part.Expr n (expr (expr_tree value)) z three in
      omega (arith, a, b, d),
  λ others. refl,
  λ others end h. named_row name place ts m n one two
      ∙ ap (behind_name name) (pair_read Part.Expr Part.NamedTail (expr (expr_tree value)) (written.named_tail (map argument_tree others)) n z end three h),
  λ e h. named_row name place ts m n one two ∙ ap (behind_name name) (pair_second Part.Expr Part.NamedTail (expr (expr_tree value)) n z e three h),
)

-- Further arguments with names

abbrev close : List ℕ
close = mark_code MarkKind.CloseRound ∷ []

abbrev comma : List ℕ
comma = mark_code MarkKind.Comma ∷ []

comma_row : (place : Place) (ts m : List Token) → Stops close ts → take comma ts ≡ Ok (at (TokenKind.Mark MarkKind.Comma) place, m) → read Part.NamedTail ts ≡ onto (bare (TokenKind.Mark MarkKind.Comma)) (in_row read named_argument m)
comma_row place ts m stop h =
    read_step Part.NamedTail ts
    ∙ (ap (λ (b : Bool). cond b (in_row read (rule_at Part.NamedTail 0) ts) (in_row read (rule_at Part.NamedTail 1) ts)) stop
    ∙ ap (λ (o : Took). after o (λ t r. onto (bare t.kind) (in_row read named_argument r))) h)

pub named_grows : (item : Argument) (place : Place) (ts k m z : List Token) → Stops close ts → k ≡ ts → take comma k ≡ Ok (at (TokenKind.Mark MarkKind.Comma) place, m) → IsNamed m (Ok item) z
    → Grows Part.NamedTail (λ xs. written.named_tail (map argument_tree xs)) ts item z
named_grows item place ts k m z stop same one (less, forest, reads, fails) = (
  let a : length m < length ts = take_shorter comma ts (at (TokenKind.Mark MarkKind.Comma) place) m taken in omega (arith, a, less),
  λ others end h. comma_row place ts m stop taken ∙ (ap (onto (bare (TokenKind.Mark MarkKind.Comma))) (reads others end h) ∙ ap (read_so end) (sym (forest others))),
  λ e h. comma_row place ts m stop taken ∙ ap (onto (bare (TokenKind.Mark MarkKind.Comma))) (fails e h),
)
  where
    taken : take comma ts ≡ Ok (at (TokenKind.Mark MarkKind.Comma) place, m)
    taken = ap (take comma) (sym same) ∙ one

-- The loop

-- what is read of the rest is read of the whole, with the arguments so far before it
pub record Plain (start : List Token) (items : List Argument) (now : List Token) : Type 0 where
  pub reads : (next : Argument) (others : List Argument) (end : List Token) → read Part.Arguments now ≡ Ok (arguments_of (next ∷ others), end) → read Part.Arguments start ≡ Ok (arguments_of (items ++ next ∷ others), end)
  pub fails : (e : Stop ℕ) → read Part.Arguments now ≡ Err e → read Part.Arguments start ≡ Err e

pub none : (start : List Token) → Plain start [] start
none start = record { reads = λ next others end h. h; fails = λ e h. h }

pub more : (start now new : List Token) (items grown : List Argument) (item : Argument) → Plain start items now → grown ≡ items ++ item ∷ []
    → ((next : Argument) (others : List Argument) (end : List Token) → read Part.Arguments new ≡ Ok (arguments_of (next ∷ others), end) → read Part.Arguments now ≡ Ok (arguments_of (item ∷ next ∷ others), end))
    → ((e : Stop ℕ) → read Part.Arguments new ≡ Err e → read Part.Arguments now ≡ Err e) → Plain start grown new
more start now new items grown item plain grows reads fails = record {
  reads = λ next others end h. subst (λ (v : List Argument). read Part.Arguments start ≡ Ok (arguments_of v, end)) (sym (append_assoc items (item ∷ []) (next ∷ others)) ∙ ap (λ (v : List Argument). v ++ next ∷ others) (sym grows)) (plain.reads item (next ∷ others) end (reads next others end h));
  fails = λ e h. plain.fails e (fails e h);
}

pub last : (start now new : List Token) (items grown : List Argument) (item : Argument) → Plain start items now → grown ≡ items ++ item ∷ []
    → read Part.Arguments now ≡ Ok (arguments_of (item ∷ []), new) → read Part.Arguments start ≡ Ok (arguments_of grown, new)
last start now new items grown item plain grows h = subst (λ (v : List Argument). read Part.Arguments start ≡ Ok (arguments_of v, new)) (sym grows) (plain.reads item [] new h)

pub with_named : (start now m new : List Token) (items grown all : List Argument) (item : Argument) → Plain start items now → grown ≡ items ++ item ∷ []
    → ((others : List Argument) (end : List Token) → read Part.NamedTail m ≡ Ok (written.named_tail (map argument_tree others), end) → read Part.Arguments now ≡ Ok (arguments_of (item ∷ others), end))
    → IsRow Part.NamedTail (λ xs. written.named_tail (map argument_tree xs)) grown all m new → read Part.Arguments start ≡ Ok (arguments_of all, new)
with_named start now m new items grown all item plain grows reads row =
    subst (λ (v : List Argument). read Part.Arguments start ≡ Ok (arguments_of v, new))
    (sym (row.split ∙ (ap (λ (v : List Argument). v ++ row.others) grows ∙ append_assoc items (item ∷ []) row.others)))
    (plain.reads item row.others new (reads row.others new row.reads))

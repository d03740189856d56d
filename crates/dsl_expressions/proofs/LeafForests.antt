-- What operands without brackets are written as.
use Rattle.std.proofs.Common.{◌≡◌, List, ℕ, true, false, Some, None, refl}
use Rattle.dsl_cursor.specs.Words.{Place, Digits, Ident, TokenKind, WordKind, nil, seen, sub, ident, enum_member}
use Rattle.dsl_expressions.specs.Words.{Expr, ExprTree, word_at, at_level}
use Rattle.dsl_tree.proofs.{Seen.seen_number, Seen.seen_physical, Seen.seen_chars, Seen.seen_truth, Seen.seen_it, Seen.seen_actor, Seen.seen_name, Seen.seen_enum_name}
use Rattle.dsl_expressions.proofs.ExprForests.{level_own}

pub number_forest : (number : Digits) → at_level 9 (Expr.Number number) ≡ seen number.place (TokenKind.Number number.digits number.places) nil
number_forest number = level_own 9 (Expr.Number number) (ExprTree.Number number) (seen_number number) refl

pub physical_forest : (number : Digits) (unit : List ℕ) → at_level 9 (Expr.Physical number unit) ≡ seen number.place (TokenKind.Physical number.digits number.places unit) nil
physical_forest number unit = level_own 9 (Expr.Physical number unit) (ExprTree.Physical number unit) (seen_physical number unit) refl

pub chars_forest : (place : Place) (text : List ℕ) → at_level 9 (Expr.Chars place text) ≡ seen place (TokenKind.Chars text) nil
chars_forest place text = level_own 9 (Expr.Chars place text) (ExprTree.Chars place text) (seen_chars place text) refl

pub true_forest : (place : Place) → at_level 9 (Expr.Truth place true) ≡ word_at place WordKind.TrueWord nil
true_forest place = level_own 9 (Expr.Truth place true) (ExprTree.Truth place true) (seen_truth place true) refl

pub false_forest : (place : Place) → at_level 9 (Expr.Truth place false) ≡ word_at place WordKind.FalseWord nil
false_forest place = level_own 9 (Expr.Truth place false) (ExprTree.Truth place false) (seen_truth place false) refl

pub it_forest : (place : Place) → at_level 9 (Expr.It place) ≡ word_at place WordKind.ItWord nil
it_forest place = level_own 9 (Expr.It place) (ExprTree.It place) (seen_it place) refl

pub actor_forest : (place : Place) → at_level 9 (Expr.Actor place) ≡ word_at place WordKind.ActorWord nil
actor_forest place = level_own 9 (Expr.Actor place) (ExprTree.Actor place) (seen_actor place) refl

pub name_forest : (name : Ident) → at_level 9 (Expr.Name name) ≡ ident name (sub (enum_member None) nil)
name_forest name = level_own 9 (Expr.Name name) (ExprTree.Name name) (seen_name name) refl

pub enum_name_forest : (of member : Ident) → at_level 9 (Expr.EnumName of member) ≡ ident of (sub (enum_member (Some member)) nil)
enum_name_forest of member = level_own 9 (Expr.EnumName of member) (ExprTree.EnumName of member) (seen_enum_name of member) refl

pub ruleset word_forests = (true_forest, false_forest, it_forest, actor_forest)

pub ruleset leaf_forests = (number_forest, physical_forest, chars_forest)

pub ruleset name_forests = (name_forest, enum_name_forest)

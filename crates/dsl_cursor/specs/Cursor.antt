-- What a cursor shows: the tokens that are left.
use Rattle.std.specs.Prelude.{◌∷◌}
use Rattle.dsl_cursor.specs.Terms.{ℕ, List, [], Option, Some, None, Place, Digits, Ident, Token, TokenKind, MarkKind, code, si_text, factor_text, offset_text, si_name, other_name, small_number, large_number, point_number, Ended, Forest, nil, mark, ident}
use Rattle.dsl_cursor.specs.declared.{tokens.Cursor.TheInside.Inside, signs.Sign.Sign}

abbrev pub left_of : Inside → List Token
left_of c = c.left.now

-- the last token is `End`, and no other one is
abbrev pub EndsOnce : Inside → Type 0
EndsOnce c = Ended c.left.now

abbrev pub at : TokenKind → Place → Token
at kind place = record { place = place; kind = kind }

-- the token that a sign stands for, and its code
abbrev pub kind_of : Sign → TokenKind
kind_of (Sign.Mark m) = TokenKind.Mark m
kind_of (Sign.Word w) = TokenKind.Word w
kind_of Sign.Si = TokenKind.Name si_text
kind_of Sign.Factor = TokenKind.Name factor_text
kind_of Sign.Offset = TokenKind.Name offset_text
kind_of Sign.Newline = TokenKind.Newline
kind_of Sign.Indent = TokenKind.Indent
kind_of Sign.Dedent = TokenKind.Dedent

abbrev pub sign_codes : Sign → List ℕ
sign_codes sign = code (kind_of sign) ∷ []

-- names and numbers as tokens
abbrev pub name_token : Ident → Token
name_token name = at (TokenKind.Name name.text) name.place

abbrev pub number_token : Digits → Token
number_token number = at (TokenKind.Number number.digits number.places) number.place

abbrev pub numbers : List ℕ
numbers = small_number ∷ large_number ∷ point_number ∷ []

abbrev pub whole_numbers : List ℕ
whole_numbers = small_number ∷ large_number ∷ []

-- the names of bases
abbrev pub base_names : List ℕ
base_names = si_name ∷ other_name ∷ []

abbrev pub text_token : Place × List ℕ → Token
text_token text = at (TokenKind.Chars text.1) text.0

abbrev pub physical_token : Digits × List ℕ → Token
physical_token number = at (TokenKind.Physical number.0.digits number.0.places number.1) number.0.place

-- what the member after the name of an enum is written as
abbrev pub enum_member : Option Ident → Forest
enum_member None = nil
enum_member (Some name) = mark MarkKind.Bang (ident name nil)

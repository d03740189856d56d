-- What the steps of the lexer make of what it knows, as its functions compute it. This is no part of the meaning: the
-- lemmas of proofs/ tie it to `TokensCut` and `IsFirstFault`.
use Rattle.std.specs.Prelude.{ℕ, ◌+◌, ◌-◌, ◌==◌, ◌&&◌, replicate, Bool, true, false, nat_lt, if◌then◌else◌, List, [], ◌∷◌, ◌++◌, filter, length, take, slice_index, Option, Some, None}
use Rattle.osc_base.specs.declared.fault.FaultCode.{FaultCode}
use Rattle.osc_base.specs.declared.fault.Place.{Place}
use Rattle.dsl_tree.specs.declared.token.Token.{Token}
use Rattle.dsl_tree.specs.declared.token.TokenKind.{TokenKind}
use Rattle.dsl_tree.specs.declared.token.TokenKind.TheVariants.{Newline, Dedent, End}
use Rattle.dsl_lexer.specs.declared.spot.Spot.{Spot}
use Rattle.dsl_lexer.specs.declared.layout.Layout.{Layout}
use Rattle.dsl_lexer.specs.declared.shape.Shape.{Shape}
use Rattle.dsl_lexer.specs.Bytes.{is_quote}
use Rattle.dsl_lexer.specs.Shapes.{Space, Tab, Comment, Joint, StringShape, is_lexeme}
use Rattle.dsl_lexer.specs.Kinds.{kind_of}
use Rattle.dsl_lexer.specs.SourceTokens.{Lexeme, TokenFault, token_faults, begins_with}
use Rattle.dsl_lexer.specs.Layout.{brackets_behind, fits, blocks}
use Rattle.dsl_lexer.specs.Scan.{first_shape, piece_len, control_at}

-- the opened widths above 0 after a line of width w
abbrev pub with_width : ℕ → List ℕ → List ℕ
with_width w narrower = if w == 0 then narrower else w ∷ narrower

abbrev pub opened_behind : ℕ → List ℕ → List ℕ
opened_behind w before = with_width w (filter (λ v. nat_lt v w) before)

abbrev pub moved : Spot → ℕ → Spot
moved s len = record s { at = s.at + len; column = s.column + len }

abbrev pub on_next_line : Spot → ℕ → Spot
on_next_line s len = record { at = s.at + len; line = s.line + 1; column = 1 }

abbrev pub place_of : ℕ → Spot → ℕ → Place
place_of file s count = record { file = file; line = s.line; column = s.column; token = count }

-- tokens at one spot, after so many others
abbrev pub stamped : ℕ → Spot → ℕ → List TokenKind → List Token
stamped file s count [] = []
stamped file s count (kind ∷ more) = record { place = place_of file s count; kind = kind } ∷ stamped file s (count + 1) more

abbrev pub first_spot : Option Spot → Spot → Option Spot
first_spot None s = Some s
first_spot (Some t) s = Some t

abbrev pub at_start : Layout
at_start = record {
  spot = record { at = 0; line = 1; column = 1 };
  started = false;
  spaces = 0;
  tab = None;
  brackets = 0;
  widths = [];
  behind = record { at = 0; line = 1; column = 1 };
  tokens = [];
}

abbrev pub after_space : Layout → Layout
after_space l = record l { spot = moved l.spot 1; spaces = l.spaces + 1 }

abbrev pub after_tab : Layout → Layout
after_tab l = record l { spot = moved l.spot 1; tab = first_spot l.tab l.spot }

abbrev pub after_comment : Layout → ℕ → Layout
after_comment l len = record l { spot = moved l.spot len }

abbrev pub after_joint : Layout → ℕ → Layout
after_joint l len = record l { spot = on_next_line l.spot len }

abbrev pub with_newline : ℕ → Layout → List Token
with_newline file l = if l.started then l.tokens ++ stamped file l.behind (length l.tokens) (Newline ∷ []) else l.tokens

abbrev pub after_line_end : ℕ → Layout → ℕ → Layout
after_line_end file l len =
    if l.brackets == 0 then record l { spot = on_next_line l.spot len; started = false; spaces = 0; tab = None; tokens = with_newline file l } else after_joint l len

-- the opened widths after a token
abbrev pub widths_behind : Layout → List ℕ
widths_behind l = if l.started then l.widths else opened_behind l.spaces l.widths

-- the tokens that stand before the token itself at its place
abbrev pub with_blocks : ℕ → Layout → List Token
with_blocks file l = if l.started then l.tokens else l.tokens ++ stamped file l.spot (length l.tokens) (blocks l.spaces l.widths)

abbrev pub after_blocks : ℕ → Layout → Layout
after_blocks file l = record l { widths = widths_behind l; tokens = with_blocks file l }

abbrev pub after_lexeme : ℕ → Layout → ℕ → TokenKind → Layout
after_lexeme file l len kind = record l {
  spot = moved l.spot len;
  started = true;
  brackets = brackets_behind (Some kind) l.brackets;
  widths = widths_behind l;
  behind = moved l.spot len;
  tokens = with_blocks file l ++ stamped file l.spot (length (with_blocks file l)) (kind ∷ []);
}

-- the tokens of the file at its end
abbrev pub with_last_newline : ℕ → Layout → List Token
with_last_newline file l = if l.brackets == 0 && l.started then l.tokens ++ stamped file l.behind (length l.tokens) (Newline ∷ []) else l.tokens

abbrev pub with_dedents : ℕ → Layout → List Token
with_dedents file l = with_last_newline file l ++ stamped file l.spot (length (with_last_newline file l)) (replicate (length l.widths) Dedent)

abbrev pub all_tokens : ℕ → Layout → List Token
all_tokens file l = with_dedents file l ++ stamped file l.spot (length (with_dedents file l)) (End ∷ [])

-- faults: the spot and the code

abbrev pub SpottedFault : Type 0
SpottedFault = Spot × FaultCode

-- a tab before the first token, a byte that begins no character, or a width that doesn't fit
abbrev pub bad_byte_or : Layout → ℕ → Option SpottedFault → Option SpottedFault
bad_byte_or l valid other = if valid == l.spot.at then Some (l.spot, FaultCode.Utf8) else other

abbrev pub first_white_fault : Layout → ℕ → Option Spot → Option SpottedFault
first_white_fault l valid (Some tab) = Some (tab, FaultCode.Tab)
first_white_fault l valid None = bad_byte_or l valid (if fits l.spaces l.widths then None else Some (l.spot, FaultCode.Indent))

abbrev pub white_fault : Layout → ℕ → Option SpottedFault
white_fault l valid = if l.started then bad_byte_or l valid None else first_white_fault l valid l.tab

-- a byte of the piece that begins no character
abbrev pub end_fault : Layout → ℕ → ℕ → Option SpottedFault
end_fault l valid len = if nat_lt valid (l.spot.at + len) then Some (moved l.spot (valid - l.spot.at), FaultCode.Utf8) else None

-- a control character that stands before such a byte
abbrev pub control_or_end : Layout → ℕ → ℕ → Option ℕ → Option SpottedFault
control_or_end l valid len None = end_fault l valid len
control_or_end l valid len (Some i) = if nat_lt (l.spot.at + i) valid then Some (moved l.spot i, FaultCode.Character) else end_fault l valid len

abbrev pub controls : Shape → List ℕ → Option ℕ
controls StringShape text = control_at text
controls _ text = None

-- a token at the spot, after which so many brackets are open
abbrev pub lexeme_at : Layout → Shape → List ℕ → ℕ → Lexeme
lexeme_at l shape text brackets = record { shape = shape; text = text; depth_before = l.brackets + length l.widths; depth_behind = brackets + length (widths_behind l) }

-- the first of these faults that is there
abbrev pub first_code : List TokenFault → Lexeme → Option FaultCode
first_code [] x = None
first_code ((code, test) ∷ more) x = if test x then Some code else first_code more x

abbrev pub here_or : Layout → Option FaultCode → Option SpottedFault → Option SpottedFault
here_or l None other = other
here_or l (Some code) other = Some (l.spot, code)

-- a fault at the token's start, a control character, or a byte that begins no character
abbrev pub lexeme_fault : Layout → ℕ → Shape → List ℕ → ℕ → Option SpottedFault
lexeme_fault l valid shape text brackets = here_or l (first_code token_faults (lexeme_at l shape text brackets)) (control_or_end l valid (length text) (controls shape text))

-- a step: either the lexer goes on, or it stops at a fault

pub data Outcome : Type 0 where
  Goes : Layout → Outcome
  Stops : Spot → (code : FaultCode) → Outcome

abbrev pub or_stop : Option SpottedFault → Outcome → Outcome
or_stop None next = next
or_stop (Some fault) next = Stops fault.0 fault.1

abbrev pub after_separator : ℕ → Layout → Shape → ℕ → Layout
after_separator file l Space len = after_space l
after_separator file l Tab len = after_tab l
after_separator file l Comment len = after_comment l len
after_separator file l Joint len = after_joint l len
after_separator file l _ len = after_line_end file l len

abbrev pub separator_of : ℕ → ℕ → Layout → Shape → ℕ → Outcome
separator_of file valid l shape len = or_stop (end_fault l valid len) (Goes (after_separator file l shape len))

abbrev pub lexeme_of : ℕ → ℕ → Layout → Shape → List ℕ → Option TokenKind → Outcome
lexeme_of file valid l shape text None = Stops l.spot FaultCode.Number
lexeme_of file valid l shape text (Some kind) =
    or_stop (lexeme_fault l valid shape text (brackets_behind (Some kind) l.brackets)) (Goes (after_lexeme file l (length text) kind))

abbrev pub content_of : ℕ → ℕ → Layout → Shape → List ℕ → Option ℕ → Outcome
content_of file valid l shape rest None = Stops l.spot (if begins_with is_quote rest then FaultCode.Text else FaultCode.Character)
content_of file valid l shape rest (Some len) = lexeme_of file valid l shape (take len rest) (kind_of shape (take len rest))

abbrev pub piece_of : ℕ → ℕ → Layout → Shape → List ℕ → Bool → Option ℕ → Outcome
piece_of file valid l shape rest false (Some len) = separator_of file valid l shape len
piece_of file valid l shape rest lexeme len = or_stop (white_fault l valid) (content_of file valid l shape rest len)

-- the shape of the piece at the start
abbrev pub front_shape : List ℕ → Shape
front_shape rest = first_shape (slice_index rest 0)

abbrev pub step_of : ℕ → ℕ → Layout → List ℕ → Outcome
step_of file valid l rest = piece_of file valid l (front_shape rest) rest (is_lexeme (front_shape rest)) (piece_len (front_shape rest) rest)

-- Brackets, logical lines, their widths and the tokens that come of them. Lists of pieces have the latest first.
use Rattle.std.specs.Prelude.{ℕ, ◌+◌, ◌-◌, ◌≡◌, ◌≤◌, ◌==◌, Bool, true, false, ◌||◌, ◌&&◌, not, nat_lt, if◌then◌else◌, List, [], ◌∷◌, ◌++◌, map, length, filter, Option, Some, None, ◌⊎◌}
use Rattle.std.specs.List.{list_any, list_all, AllByRecursion}
use Rattle.dsl_tree.specs.declared.token.Token.{Token}
use Rattle.dsl_tree.specs.declared.token.TokenKind.{TokenKind}
use Rattle.dsl_tree.specs.declared.token.TokenKind.TheVariants.{Newline, Indent, Dedent, End, Mark}
use Rattle.dsl_tree.specs.declared.token.MarkKind.TheVariants.{OpenRound, CloseRound, OpenSquare, CloseSquare}
use Rattle.dsl_lexer.specs.Bytes.{place_at}
use Rattle.dsl_lexer.specs.declared.shape.Shape.{Shape}
use Rattle.dsl_lexer.specs.Shapes.{Space, Tab, LineEnd, is_lexeme}
use Rattle.dsl_lexer.specs.Kinds.{kind_of}
use Rattle.dsl_lexer.specs.Pieces.{Piece, reach}

-- the number of open brackets after a token: an opening one raises it, a closing one lowers it unless it is 0
abbrev pub brackets_behind : Option TokenKind → ℕ → ℕ
brackets_behind (Some (Mark OpenRound)) n = n + 1
brackets_behind (Some (Mark OpenSquare)) n = n + 1
brackets_behind (Some (Mark CloseRound)) n = n - 1
brackets_behind (Some (Mark CloseSquare)) n = n - 1
brackets_behind _ n = n

-- the number of brackets that are open after these pieces
abbrev pub brackets : List Piece → ℕ
brackets [] = 0
brackets (p ∷ before) = brackets_behind (kind_of p.shape p.text) (brackets before)

abbrev pub is_line_end : Shape → Bool
is_line_end LineEnd = true
is_line_end _ = false

-- a line end ends the logical line if no bracket is open
abbrev pub ends_line : Piece → List Piece → Bool
ends_line p before = is_line_end p.shape && brackets before == 0

-- the pieces of the logical line that goes on after these pieces
abbrev pub line : List Piece → List Piece
line [] = []
line (p ∷ before) = if ends_line p before then [] else p ∷ line before

-- whether a token is among these pieces
abbrev pub has_lexeme : List Piece → Bool
has_lexeme pieces = list_any (λ p. is_lexeme p.shape) pieces

abbrev pub is_space : Shape → Bool
is_space Space = true
is_space _ = false

abbrev pub is_tab : Shape → Bool
is_tab Tab = true
is_tab _ = false

-- the width of a logical line: the number of spaces before its first token
abbrev pub width : List Piece → ℕ
width pieces = length (filter (λ p. is_space p.shape) pieces)

abbrev pub or_else : Option ℕ → Option ℕ → Option ℕ
or_else (Some n) other = Some n
or_else None other = other

-- where the first tab of a line stands
abbrev pub first_tab : List Piece → Option ℕ
first_tab [] = None
first_tab (p ∷ before) = or_else (first_tab before) (if is_tab p.shape then Some p.at else None)

-- whether p is the first token of its logical line
abbrev pub begins_line : Piece → List Piece → Bool
begins_line p before = is_lexeme p.shape && not (has_lexeme (line before))

-- the widths of the logical lines that have begun with a token, the latest first
abbrev pub widths : List Piece → List ℕ
widths [] = []
widths (p ∷ before) = if begins_line p before then width (line before) ∷ widths before else widths before

-- The opened widths after lines of these widths (the latest first): 0, and the width of each line such that
-- no line since is narrower.
abbrev pub IsOpened : List ℕ → ℕ → Type 0
IsOpened widths w = (w ≡ 0) ⊎ ((since earlier : List ℕ) × (widths ≡ since ++ w ∷ earlier) × AllByRecursion (λ v. w ≤ v) since)

-- The opened widths above 0 as a list, each once: the width of each line such that all lines since are wider. The argument
-- `since` holds the widths of later lines. The law `OpenedLaw` says that the list falls and has exactly the opened widths above 0.
abbrev pub opened_since : List ℕ → List ℕ → List ℕ
opened_since since [] = []
opened_since since (w ∷ earlier) = if nat_lt 0 w && list_all (λ v. nat_lt w v) since then w ∷ opened_since (w ∷ since) earlier else opened_since (w ∷ since) earlier

abbrev pub opened : List ℕ → List ℕ
opened widths = opened_since [] widths

-- The rest is said of the opened widths above 0.

-- whether a line of width w is wider than all that is opened, 0 too
abbrev pub is_widest : ℕ → List ℕ → Bool
is_widest w ws = nat_lt 0 w && list_all (λ v. nat_lt v w) ws

-- whether a line may have the width w: wider than all that is opened, or opened itself
abbrev pub fits : ℕ → List ℕ → Bool
fits w ws = is_widest w ws || w == 0 || list_any (λ v. v == w) ws

-- the tokens that open or close blocks at a line of width w: one INDENT, or one DEDENT for each greater opened width
abbrev pub blocks : ℕ → List ℕ → List TokenKind
blocks w ws = if is_widest w ws then Indent ∷ [] else map (λ v. Dedent) (filter (λ v. nat_lt w v) ws)

-- open brackets and opened blocks after these pieces
abbrev pub depth : List Piece → ℕ
depth pieces = brackets pieces + length (opened (widths pieces))

-- a token's kind, and before it the offset of its place
abbrev pub OffsetToken : Type 0
OffsetToken = ℕ × TokenKind

-- the offset after the last token
abbrev pub behind_last : List Piece → ℕ
behind_last [] = 0
behind_last (p ∷ before) = if is_lexeme p.shape then p.at + length p.text else behind_last before

-- the NEWLINE after a logical line with a token
abbrev pub newline : List Piece → List OffsetToken
newline pieces = if has_lexeme (line pieces) then (behind_last pieces, Newline) ∷ [] else []

abbrev pub own_token : ℕ → Option TokenKind → List OffsetToken
own_token at None = []
own_token at (Some kind) = (at, kind) ∷ []

-- The tokens that p brings after the pieces before it. If p is the first token of its line, those of the blocks come first.
-- Then comes the token that p itself is. If p ends a logical line, the NEWLINE of that line comes last.
abbrev pub brought : Piece → List Piece → List OffsetToken
brought p before =
    (if begins_line p before then map (λ kind. (p.at, kind)) (blocks (width (line before)) (opened (widths before))) else [])
    ++ (own_token p.at (kind_of p.shape p.text) ++ (if ends_line p before then newline before else []))

abbrev pub tokens : List Piece → List OffsetToken
tokens [] = []
tokens (p ∷ before) = tokens before ++ brought p before

-- the tokens that the end of the file brings: a last NEWLINE unless a bracket is open, one DEDENT for each opened
-- width above 0, and END
abbrev pub last_tokens : List Piece → List OffsetToken
last_tokens pieces = (if brackets pieces == 0 then newline pieces else [])
    ++ (map (λ v. (reach pieces, Dedent)) (opened (widths pieces)) ++ (reach pieces, End) ∷ [])

-- the tokens with their places; n tokens stand before them
abbrev pub placed : ℕ → List ℕ → ℕ → List OffsetToken → List Token
placed file bytes n [] = []
placed file bytes n ((at, kind) ∷ more) = record { place = place_at file bytes at n; kind = kind } ∷ placed file bytes (n + 1) more

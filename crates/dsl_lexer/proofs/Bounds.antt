-- What is counted is bounded by the bytes so far.
use Rattle.std.proofs.Common.{◌≡◌, ℕ, suc, ◌+◌, ◌-◌, ◌*◌, ◌≤◌, Bool, true, false, cond, not, Option, Some, None, List, [], ◌∷◌, ◌++◌, length, take, map, refl, ap, arith}
use Rattle.std.specs.Prelude.{filter, nat_lt, ◌==◌}
use Rattle.std.specs.List.{suffix_len}
use Rattle.std.proofs.lemmas.Bool.{cond_both, ltb-true}
use Rattle.std.proofs.lemmas.List.{length-append, length-take, length-drop, length-map}
use Rattle.std.proofs.lemmas.List.Sums.{length-filter, count_by-le-length}
use Rattle.dsl_tree.specs.declared.token.TokenKind.{TokenKind}
use Rattle.dsl_tree.specs.declared.token.TokenKind.TheVariants.{Indent, Dedent, Mark}
use Rattle.dsl_tree.specs.declared.token.MarkKind.TheVariants.{OpenRound, CloseRound, OpenSquare, CloseSquare}
use Rattle.dsl_lexer.specs.Bytes.{is_line_feed, line_at, column_at}
use Rattle.dsl_lexer.specs.Kinds.{kind_of}
use Rattle.dsl_lexer.specs.Pieces.{Piece, reach, Cut}
use Rattle.dsl_lexer.specs.Layout.{OffsetToken, brackets_behind, brackets, ends_line, is_space, line, width, begins_line, widths, opened, is_widest, blocks, newline, has_lexeme, own_token, brought, tokens}
use Rattle.dsl_lexer.specs.Steps.{opened_behind}
use Rattle.dsl_lexer.proofs.Opened.{opened-cons}
use Rattle.dsl_lexer.proofs.Cutting.{some_text}

filter_le : {A : Type 0} (p : A → Bool) (xs : List A) → length (filter p xs) ≤ length xs
filter_le p xs = omega (arith, length-filter p xs, count_by-le-length p xs)

pub line_le : (bytes : List ℕ) (n : ℕ) → line_at bytes n ≤ n + 1
line_le bytes n = omega (arith, filter_le is_line_feed (take n bytes), length-take n bytes)

pub column_le : (bytes : List ℕ) (n : ℕ) → column_at bytes n ≤ n + 1
column_le bytes n = omega (arith, length-drop (length (take n bytes) - suffix_len (λ x. not (is_line_feed x)) (take n bytes)) (take n bytes), length-take n bytes)

pub brackets_le : (kind : Option TokenKind) (n : ℕ) → brackets_behind kind n ≤ n + 1
brackets_le (Some (Mark OpenRound)) n = omega arith
brackets_le (Some (Mark OpenSquare)) n = omega arith
brackets_le (Some (Mark CloseRound)) n = omega arith
brackets_le (Some (Mark CloseSquare)) n = omega arith
brackets_le _ n = omega arith

width_step : (space : Bool) (p : Piece) (rest : List Piece) (n : ℕ) → length (filter (λ q. is_space q.shape) rest) ≤ n → length (cond space (p ∷ filter (λ q. is_space q.shape) rest) (filter (λ q. is_space q.shape) rest)) ≤ n + 1
width_step true p rest n h = omega arith
width_step false p rest n h = omega arith

line_step : (ends : Bool) (p : Piece) (rest : List Piece) (n : ℕ) → width rest ≤ n → width (cond ends [] (p ∷ rest)) ≤ n + 1
line_step true p rest n h = omega arith
line_step false p rest n h = width_step (is_space p.shape) p rest n h

opened_behind_le : (w : ℕ) (ws : List ℕ) → length (opened_behind w ws) ≤ length (filter (λ v. nat_lt v w) ws) + 1
opened_behind_le w ws = cond_both (w == 0) (filter (λ v. nat_lt v w) ws) (w ∷ filter (λ v. nat_lt v w) ws) (λ r. length r ≤ length (filter (λ v. nat_lt v w) ws) + 1) (λ _. omega arith) (λ _. omega arith)

two_filters : (w : ℕ) (ws : List ℕ) → length (filter (λ v. nat_lt v w) ws) + length (filter (λ v. nat_lt w v) ws) ≤ length ws
two_filters w [] = omega arith
two_filters w (v ∷ ws) = go (nat_lt v w) (nat_lt w v) refl refl (two_filters w ws)
  where
    go : (a b : Bool) → nat_lt v w ≡ a → nat_lt w v ≡ b → length (filter (λ u. nat_lt u w) ws) + length (filter (λ u. nat_lt w u) ws) ≤ length ws
        → length (cond a (v ∷ filter (λ u. nat_lt u w) ws) (filter (λ u. nat_lt u w) ws)) + length (cond b (v ∷ filter (λ u. nat_lt w u) ws) (filter (λ u. nat_lt w u) ws)) ≤ suc (length ws)
    go true true e f h = let x = ltb-true v w e in let y = ltb-true w v f in absurd (omega arith)
    go true false e f h = omega arith
    go false true e f h = omega arith
    go false false e f h = omega arith

-- blocks and the widths that are left
blocks_le : (w : ℕ) (ws : List ℕ) → length (blocks w ws) + length (opened_behind w ws) ≤ length ws + 2
blocks_le w ws =
    let b = opened_behind_le w ws in let f = two_filters w ws in let g = filter_le (λ v. nat_lt v w) ws in
    cond_both (is_widest w ws) (Indent ∷ []) (map (λ v. Dedent) (filter (λ v. nat_lt w v) ws)) (λ r. length r + length (opened_behind w ws) ≤ length ws + 2)
    (λ _. omega arith) (λ _. omega (arith, length-map (filter (λ v. nat_lt w v) ws) (λ (v : ℕ). Dedent)))

pub length-at : (at : ℕ) (kinds : List TokenKind) → length (map {A = TokenKind} {B = OffsetToken} (λ k. (at, k)) kinds) ≡ length kinds
length-at at [] = refl
length-at at (k ∷ kinds) = ap suc (length-at at kinds)

own_le : (at : ℕ) (kind : Option TokenKind) → length (own_token at kind) ≤ 1
own_le at None = omega arith
own_le at (Some kind) = omega arith

newline_le : (pieces : List Piece) → length (newline pieces) ≤ 1
newline_le pieces = cond_both (has_lexeme (line pieces)) _ [] (λ (r : List OffsetToken). length r ≤ 1) (λ _. omega arith) (λ _. omega arith)

ending_le : (ends : Bool) (pieces : List Piece) → length (cond ends (newline pieces) []) ≤ 1
ending_le true pieces = newline_le pieces
ending_le false pieces = omega arith

brought_le : (first ends : Bool) (at w : ℕ) (ws : List ℕ) (kind : Option TokenKind) (pieces : List Piece)
    → length (cond first (map (λ k. (at, k)) (blocks w (opened ws))) [] ++ (own_token at kind ++ cond ends (newline pieces) [])) + length (opened (cond first (w ∷ ws) ws)) ≤ length (opened ws) + 4
brought_le true ends at w ws kind pieces =
    let a = own_le at kind in let b = ending_le ends pieces in let c = blocks_le w (opened ws) in
    let e : length (opened (w ∷ ws)) ≡ length (opened_behind w (opened ws)) = ap length (opened-cons w ws) in
    let m = length-at at (blocks w (opened ws)) in
    omega (arith, length-append (map {A = TokenKind} {B = OffsetToken} (λ k. (at, k)) (blocks w (opened ws))) (own_token at kind ++ cond ends (newline pieces) []), length-append (own_token at kind) (cond ends (newline pieces) []))
brought_le false ends at w ws kind pieces =
    let a = own_le at kind in let b = ending_le ends pieces in
    omega (arith, length-append (own_token at kind) (cond ends (newline pieces) []))

-- the bounds of the pieces before
pub record Bounded (before : List Piece) : Type 0 where
  pub width : width (line before) ≤ reach before
  pub brackets : brackets before ≤ reach before
  pub tokens : length (tokens before) + length (opened (widths before)) ≤ 4 * reach before

pub bounded : (bytes : List ℕ) (before : List Piece) (rest : List ℕ) → Cut bytes before rest → Bounded before
bounded bytes [] rest h = record { width = omega arith; brackets = omega arith; tokens = omega arith }
bounded bytes (p ∷ before) rest h =
    let b = bounded bytes before (p.text ++ rest) h.1 in
    let w = b.width in let k = b.brackets in let t = b.tokens in
    let some = some_text p.shape p.text h.0.shape in
    let x = line_step (ends_line p before) p (line before) (reach before) w in
    let y = brackets_le (kind_of p.shape p.text) (brackets before) in
    let z = brought_le (begins_line p before) (ends_line p before) p.at (width (line before)) (widths before) (kind_of p.shape p.text) before in
    record { width = omega arith; brackets = omega arith; tokens = omega (arith, length-append (tokens before) (brought p before)) }

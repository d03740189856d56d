-- What the lexer knows matches the pieces so far, and each step keeps that.
use Rattle.std.proofs.Common.{◌≡◌, ℕ, suc, ◌+◌, Bool, true, false, cond, not, Option, Some, None, List, [], ◌∷◌, ◌++◌, length, map, replicate, refl, ap, sym, ◌∙◌, arith, zero-add}
use Rattle.std.specs.Prelude.{◌==◌}
use Rattle.std.proofs.lemmas.Bool.{false≢true}
use Rattle.std.proofs.lemmas.List.{append_assoc, append-nil}
use Rattle.dsl_tree.specs.declared.token.Token.{Token}
use Rattle.dsl_tree.specs.declared.token.TokenKind.{TokenKind}
use Rattle.dsl_tree.specs.declared.token.TokenKind.TheVariants.{Dedent, Newline, End}
use Rattle.dsl_lexer.specs.Progress.{IsSpot, IsTab, Matches}
use Rattle.dsl_lexer.specs.declared.spot.Spot.{Spot}
use Rattle.dsl_lexer.specs.declared.layout.Layout.{Layout}
use Rattle.dsl_lexer.specs.declared.shape.Shape.{Shape}
use Rattle.dsl_lexer.specs.Bytes.{place_at, line_at}
use Rattle.dsl_lexer.specs.Shapes.{Space, Tab, Comment, LineEnd, Joint, MarkShape, NameShape, NumberShape, StringShape, is_lexeme}
use Rattle.dsl_lexer.specs.Kinds.{kind_of}
use Rattle.dsl_lexer.specs.Pieces.{Piece, reach}
use Rattle.dsl_lexer.specs.Layout.{OffsetToken, brackets, is_line_end, is_space, is_tab, line, width, or_else, first_tab, widths, opened, blocks, newline, has_lexeme, behind_last, tokens, last_tokens, placed}
use Rattle.dsl_lexer.specs.Steps as steps
use Rattle.dsl_lexer.specs.Steps.{moved, on_next_line, stamped, first_spot, opened_behind, at_start, after_space, after_tab, after_comment, after_joint, after_line_end, after_lexeme, with_newline, with_blocks, widths_behind, with_last_newline, with_dedents, all_tokens}
use Rattle.dsl_lexer.proofs.Opened.{opened-cons}

-- tokens with places

pub length-placed : (file : ℕ) (bytes : List ℕ) (n : ℕ) (xs : List OffsetToken) → length (placed file bytes n xs) ≡ length xs
length-placed file bytes n [] = refl
length-placed file bytes n ((at, kind) ∷ xs) = ap suc (length-placed file bytes (n + 1) xs)

pub placed-append : (file : ℕ) (bytes : List ℕ) (n : ℕ) (xs ys : List OffsetToken) → placed file bytes n (xs ++ ys) ≡ placed file bytes n xs ++ placed file bytes (n + length xs) ys
placed-append file bytes n [] ys = let e : n ≡ n + 0 = omega arith in ap (λ k. placed file bytes k ys) e
placed-append file bytes n ((at, kind) ∷ xs) ys =
    let e : n + 1 + length xs ≡ n + suc (length xs) = omega arith in
    let rest : placed file bytes (n + 1) (xs ++ ys) ≡ placed file bytes (n + 1) xs ++ placed file bytes (n + suc (length xs)) ys =
    placed-append file bytes (n + 1) xs ys ∙ ap (λ k. placed file bytes (n + 1) xs ++ placed file bytes k ys) e in
    ap (λ t. record { place = place_at file bytes at n; kind = kind } ∷ t) rest

pub place_same : (file : ℕ) (bytes : List ℕ) (at : ℕ) (s : Spot) (n : ℕ) → IsSpot bytes at s → steps.place_of file s n ≡ place_at file bytes at n
place_same file bytes at s n is =
    ap (λ x. record { file = file; line = x; column = s.column; token = n }) is.line ∙ ap (λ x. record { file = file; line = line_at bytes at; column = x; token = n }) is.column

pub stamped_placed : (file : ℕ) (bytes : List ℕ) (at : ℕ) (s : Spot) (n : ℕ) (kinds : List TokenKind) → IsSpot bytes at s → stamped file s n kinds ≡ placed file bytes n (map (λ k. (at, k)) kinds)
stamped_placed file bytes at s n [] is = refl
stamped_placed file bytes at s n (kind ∷ more) is =
    ap (λ p. record { place = p; kind = kind } ∷ stamped file s (n + 1) more) (place_same file bytes at s n is)
    ∙ ap (λ t. record { place = place_at file bytes at n; kind = kind } ∷ t) (stamped_placed file bytes at s (n + 1) more is)

-- tokens at one spot after those so far
pub stamp_on : (file : ℕ) (bytes : List ℕ) (now : List Token) (so_far : List OffsetToken) (at : ℕ) (s : Spot) (kinds : List TokenKind) → now ≡ placed file bytes 0 so_far → IsSpot bytes at s
    → now ++ stamped file s (length now) kinds ≡ placed file bytes 0 (so_far ++ map (λ k. (at, k)) kinds)
stamp_on file bytes now so_far at s kinds e is =
    let size : length now ≡ 0 + length so_far = ap length e ∙ length-placed file bytes 0 so_far ∙ sym (zero-add (length so_far)) in
    ap (λ k. now ++ stamped file s k kinds) size ∙ ap (λ t. now ++ t) (stamped_placed file bytes at s (0 + length so_far) kinds is)
    ∙ ap (λ t. t ++ placed file bytes (0 + length so_far) (map (λ k. (at, k)) kinds)) e ∙ sym (placed-append file bytes 0 so_far (map (λ k. (at, k)) kinds))

or_else-none : (o : Option ℕ) → or_else o None ≡ o
or_else-none None = refl
or_else-none (Some n) = refl

tab_step : (bytes : List ℕ) (o : Option ℕ) (t : Option Spot) (at : ℕ) (s : Spot) → IsTab bytes o t → IsSpot bytes at s → IsTab bytes (or_else o (Some at)) (first_spot t s)
tab_step bytes None None at s h is = is
tab_step bytes None (Some x) at s h is = absurd h
tab_step bytes (Some n) None at s h is = absurd h
tab_step bytes (Some n) (Some x) at s h is = h

-- a lexeme is no line end, no space and no tab
pub lexeme_is : (s : Shape) → is_lexeme s ≡ true → (is_line_end s ≡ false) × (is_space s ≡ false) × (is_tab s ≡ false)
lexeme_is Space h = absurd (false≢true h)
lexeme_is Tab h = absurd (false≢true h)
lexeme_is Comment h = absurd (false≢true h)
lexeme_is LineEnd h = absurd (false≢true h)
lexeme_is Joint h = absurd (false≢true h)
lexeme_is MarkShape h = (refl, refl, refl)
lexeme_is NameShape h = (refl, refl, refl)
lexeme_is NumberShape h = (refl, refl, refl)
lexeme_is StringShape h = (refl, refl, refl)

all_at : (at : ℕ) (kind : TokenKind) (ws : List ℕ) → map {A = TokenKind} {B = OffsetToken} (λ k. (at, k)) (replicate (length ws) kind) ≡ map (λ v. (at, kind)) ws
all_at at kind [] = refl
all_at at kind (w ∷ ws) = ap (λ t. (at, kind) ∷ t) (all_at at kind ws)

pub start_matches : (file : ℕ) (bytes : List ℕ) → Matches file bytes [] at_start
start_matches file bytes =
    let first : IsSpot bytes 0 (record { at = 0; line = 1; column = 1 }) = record { at = refl; line = refl; column = refl } in
    record { spot = first; started = refl; spaces = refl; tab = tt; brackets = refl; widths = refl; behind = first; tokens = refl }

module _ (file : ℕ) (bytes : List ℕ) (before : List Piece) (l : Layout) (at : ℕ) (text : List ℕ) (m : Matches file bytes before l) where
  pub space_matches : (s : Spot) → IsSpot bytes (reach before + length text) s → s ≡ moved l.spot 1 → Matches file bytes (record { at = at; shape = Space; text = text } ∷ before) (after_space l)
  space_matches s is e = record {
    spot = rw (← e) is;
    started = m.started;
    spaces = let w = m.spaces in omega arith;
    tab = rw (or_else-none (first_tab (line before))) m.tab;
    brackets = m.brackets;
    widths = m.widths;
    behind = m.behind;
    tokens = m.tokens ∙ ap (placed file bytes 0) (sym (append-nil (tokens before)));
  }

  pub tab_matches : (s : Spot) → IsSpot bytes (reach before + length text) s → s ≡ moved l.spot 1 → at ≡ reach before → Matches file bytes (record { at = at; shape = Tab; text = text } ∷ before) (after_tab l)
  tab_matches s is e here = record {
    spot = rw (← e) is;
    started = m.started;
    spaces = m.spaces;
    tab = tab_step bytes (first_tab (line before)) l.tab at l.spot m.tab (rw here m.spot);
    brackets = m.brackets;
    widths = m.widths;
    behind = m.behind;
    tokens = m.tokens ∙ ap (placed file bytes 0) (sym (append-nil (tokens before)));
  }

  pub comment_matches : (len : ℕ) (s : Spot) → IsSpot bytes (reach before + length text) s → s ≡ moved l.spot len → Matches file bytes (record { at = at; shape = Comment; text = text } ∷ before) (after_comment l len)
  comment_matches len s is e = record {
    spot = rw (← e) is;
    started = m.started;
    spaces = m.spaces;
    tab = rw (or_else-none (first_tab (line before))) m.tab;
    brackets = m.brackets;
    widths = m.widths;
    behind = m.behind;
    tokens = m.tokens ∙ ap (placed file bytes 0) (sym (append-nil (tokens before)));
  }

  pub joint_matches : (len : ℕ) (s : Spot) → IsSpot bytes (reach before + length text) s → s ≡ on_next_line l.spot len → Matches file bytes (record { at = at; shape = Joint; text = text } ∷ before) (after_joint l len)
  joint_matches len s is e = record {
    spot = rw (← e) is;
    started = m.started;
    spaces = m.spaces;
    tab = rw (or_else-none (first_tab (line before))) m.tab;
    brackets = m.brackets;
    widths = m.widths;
    behind = m.behind;
    tokens = m.tokens ∙ ap (placed file bytes 0) (sym (append-nil (tokens before)));
  }

  newline_by : (t : Bool) → l.started ≡ t → has_lexeme (line before) ≡ t → with_newline file l ≡ placed file bytes 0 (tokens before ++ newline before)
  newline_by true e f = rw (e, f) (stamp_on file bytes l.tokens (tokens before) (behind_last before) l.behind (Newline ∷ []) m.tokens m.behind)
  newline_by false e f = rw (e, f) (m.tokens ∙ ap (placed file bytes 0) (sym (append-nil (tokens before))))

  pub with_newline-is : with_newline file l ≡ placed file bytes 0 (tokens before ++ newline before)
  with_newline-is = newline_by l.started refl (sym m.started)

  line_end_by : (len : ℕ) (s : Spot) (t : Bool) → IsSpot bytes (reach before + length text) s → s ≡ on_next_line l.spot len → (brackets before == 0) ≡ t
      → Matches file bytes (record { at = at; shape = LineEnd; text = text } ∷ before)
      (cond t (record l { spot = on_next_line l.spot len; started = false; spaces = 0; tab = None; tokens = with_newline file l }) (after_joint l len))
  line_end_by len s true is e z = record {
    spot = rw (← e) is;
    started = rw z refl;
    spaces = rw z refl;
    tab = rw z tt;
    brackets = m.brackets;
    widths = m.widths;
    behind = m.behind;
    tokens = rw z with_newline-is;
  }
  line_end_by len s false is e z = record {
    spot = rw (← e) is;
    started = rw z m.started;
    spaces = rw z m.spaces;
    tab = rw (z, or_else-none (first_tab (line before))) m.tab;
    brackets = m.brackets;
    widths = m.widths;
    behind = m.behind;
    tokens = rw z (m.tokens ∙ ap (placed file bytes 0) (sym (append-nil (tokens before))));
  }

  pub line_end_matches : (len : ℕ) (s : Spot) → IsSpot bytes (reach before + length text) s → s ≡ on_next_line l.spot len → Matches file bytes (record { at = at; shape = LineEnd; text = text } ∷ before) (after_line_end file l len)
  line_end_matches len s is e = line_end_by len s (l.brackets == 0) is e (ap (λ n. n == 0) (sym m.brackets))

  blocks_by : (t : Bool) → l.started ≡ t → has_lexeme (line before) ≡ t → IsSpot bytes at l.spot
      → with_blocks file l ≡ placed file bytes 0 (tokens before ++ cond (not (has_lexeme (line before))) (map (λ kind. (at, kind)) (blocks (width (line before)) (opened (widths before)))) [])
  blocks_by true e f is = rw (e, f) (m.tokens ∙ ap (placed file bytes 0) (sym (append-nil (tokens before))))
  blocks_by false e f is = rw (e, f, ← m.spaces, ← m.widths) (stamp_on file bytes l.tokens (tokens before) at l.spot (blocks l.spaces l.widths) m.tokens is)

  widths_by : (t : Bool) → l.started ≡ t → has_lexeme (line before) ≡ t → widths_behind l ≡ opened (cond (not (has_lexeme (line before))) (width (line before) ∷ widths before) (widths before))
  widths_by true e f = rw (e, f) m.widths
  widths_by false e f = rw (e, f, opened-cons (width (line before)) (widths before), ← m.spaces, ← m.widths) refl

  pub lexeme_matches : (shape : Shape) (kind : TokenKind) (len : ℕ) (s : Spot) → is_lexeme shape ≡ true → kind_of shape text ≡ Some kind → IsSpot bytes (reach before + length text) s → s ≡ moved l.spot len → at ≡ reach before
      → Matches file bytes (record { at = at; shape = shape; text = text } ∷ before) (after_lexeme file l len kind)
  lexeme_matches shape kind len s lex k is e here =
      let others = lexeme_is shape lex in
      let spot : IsSpot bytes (reach before + length text) (moved l.spot len) = rw (← e) is in
      let blocks' = blocks_by l.started refl (sym m.started) (rw here m.spot) in
      let widths' = widths_by l.started refl (sym m.started) in
      let opening = cond (not (has_lexeme (line before))) (map {A = TokenKind} {B = OffsetToken} (λ kind. (at, kind)) (blocks (width (line before)) (opened (widths before)))) [] in
      let stamped' : with_blocks file l ++ stamped file l.spot (length (with_blocks file l)) (kind ∷ []) ≡ placed file bytes 0 ((tokens before ++ opening) ++ (at, kind) ∷ []) =
      stamp_on file bytes (with_blocks file l) (tokens before ++ opening) at l.spot (kind ∷ []) blocks' (rw here m.spot) in
      record {
        spot = spot;
        started = rw (others.0, lex) refl;
        spaces = rw (others.0, others.1) m.spaces;
        tab = rw (others.0, others.2, or_else-none (first_tab (line before))) m.tab;
        brackets = rw (k, m.brackets) refl;
        widths = rw lex widths';
        behind = rw (lex, here) spot;
        tokens = rw (lex, others.0, k) (stamped' ∙ ap (placed file bytes 0) (append_assoc (tokens before) opening ((at, kind) ∷ [])));
      }

  last_by : (t u : Bool) → (l.brackets == 0) ≡ t → (brackets before == 0) ≡ t → l.started ≡ u → has_lexeme (line before) ≡ u
      → with_last_newline file l ≡ placed file bytes 0 (tokens before ++ cond (brackets before == 0) (newline before) [])
  last_by true true a b c d = rw (a, b, c, d) (stamp_on file bytes l.tokens (tokens before) (behind_last before) l.behind (Newline ∷ []) m.tokens m.behind)
  last_by true false a b c d = rw (a, b, c, d) (m.tokens ∙ ap (placed file bytes 0) (sym (append-nil (tokens before))))
  last_by false u a b c d = rw (a, b) (m.tokens ∙ ap (placed file bytes 0) (sym (append-nil (tokens before))))

  pub all_tokens-is : all_tokens file l ≡ placed file bytes 0 (tokens before ++ last_tokens before)
  all_tokens-is =
      let newline' = last_by (l.brackets == 0) l.started refl (ap (λ n. n == 0) (sym m.brackets)) refl (sym m.started) in
      let last : List OffsetToken = cond (brackets before == 0) (newline before) [] in
      let ws = opened (widths before) in
      let closing : with_dedents file l ≡ placed file bytes 0 ((tokens before ++ last) ++ map (λ v. (reach before, Dedent)) ws) =
      stamp_on file bytes (with_last_newline file l) (tokens before ++ last) (reach before) l.spot (replicate (length l.widths) Dedent) newline' m.spot
      ∙ ap (λ t. placed file bytes 0 ((tokens before ++ last) ++ t)) (ap (λ ws. map (λ k. (reach before, k)) (replicate (length ws) Dedent)) m.widths ∙ all_at (reach before) Dedent ws) in
      stamp_on file bytes (with_dedents file l) ((tokens before ++ last) ++ map (λ v. (reach before, Dedent)) ws) (reach before) l.spot (End ∷ []) closing m.spot
      ∙ ap (placed file bytes 0) (append_assoc (tokens before ++ last) (map (λ v. (reach before, Dedent)) ws) ((reach before, End) ∷ [])
      ∙ append_assoc (tokens before) last (map (λ v. (reach before, Dedent)) ws ++ (reach before, End) ∷ []))

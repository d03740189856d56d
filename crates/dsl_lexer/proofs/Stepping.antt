-- A step of the lexer goes on after one sound piece more, or stops at the first fault.
use Rattle.std.proofs.Common.{◌≡◌, ℕ, ◌+◌, ◌<◌, ◌≤◌, Bool, true, false, cond, ◌⊎◌, inl, inr, Option, Some, None, List, [], ◌∷◌, ◌++◌, length, take, drop, refl, ap, sym, ◌∙◌, subst, arith}
use Rattle.std.specs.List.{list_all}
use Rattle.std.specs.Str.{IsValidUpTo}
use Rattle.std.proofs.lemmas.Bool.{and_parts, true≢false}
use Rattle.std.proofs.lemmas.List.{append_assoc, length-append, take-append-drop, length-take-le}
use Rattle.std.proofs.lemmas.List.Folds.{list_all-append}
use Rattle.osc_base.specs.declared.fault.FaultCode.{FaultCode}
use Rattle.osc_base.specs.FaultRows.{IsNoLater}
use Rattle.dsl_lexer.specs.Progress.{IsSpot, Matches, Valid, Reached, IsStop}
use Rattle.dsl_lexer.specs.declared.spot.Spot.{Spot}
use Rattle.dsl_lexer.specs.declared.layout.Layout.{Layout}
use Rattle.dsl_lexer.specs.declared.shape.Shape.{Shape}
use Rattle.dsl_lexer.specs.Bytes.{is_quote}
use Rattle.dsl_lexer.specs.Shapes.{Space, Tab, Comment, LineEnd, Joint, MarkShape, NameShape, NumberShape, StringShape, is_lexeme, IsShape}
use Rattle.dsl_lexer.specs.Pieces.{Piece, reach, Cut, IsStuck}
use Rattle.dsl_lexer.specs.Layout.{ends_line, is_tab, line, width, or_else, first_tab, widths, opened, fits, tokens}
use Rattle.dsl_lexer.specs.SourceTokens.{HasControl, HasTokenFault, IsSound, AreSound, BeginsContent, IsNext, begins_with, FaultBehind, bad_byte, early_tab, bad_width, no_piece, bad_control, no_string, bad_token}
use Rattle.dsl_lexer.specs.Steps.{moved, on_next_line, after_separator}
use Rattle.dsl_lexer.proofs.Spots.{no_feed, spot_over, spot_below, flat, Ends, line_end_ends, joint_ends}
use Rattle.dsl_lexer.proofs.Ascii.{separator_ascii, ascii_piece}
use Rattle.dsl_lexer.proofs.Matching.{length-placed, place_same, space_matches, tab_matches, comment_matches, joint_matches, line_end_matches}
use Rattle.dsl_lexer.proofs.Firsts.{IsFirstHere, some_is, bad_later, first_of_all}
use Rattle.dsl_lexer.proofs.Cutting.{some_text, spelled}

-- the faults at one place, each with its offset and code

module _ (bytes : List ℕ) (valid : ℕ) (before : List Piece) (rest : List ℕ) (v : Valid bytes valid) (n : ℕ) (code : FaultCode) where
  pub least_of : ((n < valid) ⊎ ((n ≡ valid) × (code ≡ FaultCode.Utf8)))
      → ((m : ℕ) → BeginsContent before rest → first_tab (line before) ≡ Some m → IsNoLater n code m FaultCode.Tab)
      → (BeginsContent before rest → fits (width (line before)) (opened (widths before)) ≡ false → IsNoLater n code (reach before) FaultCode.Indent)
      → (IsStuck rest → (t : Bool) → begins_with is_quote rest ≡ t → IsNoLater n code (reach before) (cond t FaultCode.Text FaultCode.Character))
      → ((p : Piece) (i : ℕ) → IsNext before rest p → p.shape ≡ StringShape → HasControl p.text i → IsNoLater n code (reach before + i) FaultCode.Character)
      → ((p : Piece) (c : FaultCode) → IsNext before rest p → HasTokenFault p before c → IsNoLater n code (reach before) c)
      → (m : ℕ) (c : FaultCode) → FaultBehind bytes before rest m c → IsNoLater n code m c
  least_of early t w s k r m c (bad_byte e bad reached ends) = bad_later n code valid m c early (v.only m bad) e
  least_of early t w s k r m c (early_tab e begun there) = rw e (t m begun there)
  least_of early t w s k r m c (bad_width e at begun off) = rw (e, at) (w begun off)
  least_of early t w s k r m c (no_piece e at sticks quote) = rw (e, at) (s sticks false quote)
  least_of early t w s k r m c (bad_control p i e next string there at) = rw (e, at) (k p i next string there)
  least_of early t w s k r m c (no_string e at sticks quote) = rw (e, at) (s sticks true quote)
  least_of early t w s k r m c (bad_token p at next has) = rw at (r p c next has)

-- a tab stands before the place
tab_or : (k n at : ℕ) (o : Option ℕ) (t : Bool) → at < k → ((m : ℕ) → o ≡ Some m → m < k) → or_else o (cond t (Some at) None) ≡ Some n → n < k
tab_or k n at (Some m) t h earlier e = let x = earlier m refl in let y = some_is m n e in omega arith
tab_or k n at None true h earlier e = let y = some_is at n e in omega arith
tab_or k n at None false h earlier e = absurd (cc)

tab_line : (p : Piece) (lb : List Piece) (n k : ℕ) (t : Bool) → p.at < k → ((m : ℕ) → first_tab lb ≡ Some m → m < k) → first_tab (cond t [] (p ∷ lb)) ≡ Some n → n < k
tab_line p lb n k true h earlier e = absurd (cc)
tab_line p lb n k false h earlier e = tab_or k n p.at (first_tab lb) (is_tab p.shape) h earlier e

pub tab_before : (bytes : List ℕ) (before : List Piece) (rest : List ℕ) (n : ℕ) → Cut bytes before rest → first_tab (line before) ≡ Some n → n < reach before
tab_before bytes [] rest n cut e = absurd (cc)
tab_before bytes (p ∷ before) rest n cut e =
    let at = cut.0.at in
    let some = some_text p.shape p.text cut.0.shape in
    tab_line p (line before) n (reach before + length p.text) (ends_line p before) (omega arith)
    (λ m f. let x = tab_before bytes before (p.text ++ rest) m cut.1 f in omega arith) e

-- from the first fault at the pieces to the first at all
module _ (file : ℕ) (bytes : List ℕ) (valid : ℕ) (l : Layout) (v : Valid bytes valid) (before : List Piece) (rest : List ℕ) (cut : Cut bytes before rest) (sound : AreSound before) (m : Matches file bytes before l) (within : reach before ≤ valid) where
  pub stop_here : (n : ℕ) (code : FaultCode) (s : Spot) → IsSpot bytes n s → IsFirstHere bytes valid before rest n code → IsStop file bytes l s code
  stop_here n code s is first = record {
    first = λ fault place same.
        let count : length l.tokens ≡ length (tokens before) = ap length m.tokens ∙ length-placed file bytes 0 (tokens before) in
        record {
          at = n;
          count = length l.tokens;
          is_fault = record { before = before; rest = rest; cut = cut; fault = rw same first.fault; counted = count };
          place = place ∙ place_same file bytes n s (length l.tokens) is;
          first = λ k c tokens x. rw same (first_of_all bytes valid before rest n code v first cut sound within k c tokens x);
        };
  }

-- spots inside and after a piece

take_flat : (k : ℕ) (xs : List ℕ) → list_all no_feed xs ≡ true → list_all no_feed (take k xs) ≡ true
take_flat k xs all = (and_parts (list_all no_feed (take k xs)) (list_all no_feed (drop k xs)) (sym (list_all-append no_feed (take k xs) (drop k xs)) ∙ ap (list_all no_feed) (take-append-drop k xs) ∙ all)).0

module _ (bytes : List ℕ) (before : List Piece) (pieces_text behind : List ℕ) (cut : Cut bytes before (pieces_text ++ behind)) (s : Spot) (is : IsSpot bytes (reach before) s) where
  pub inner_spot : (k : ℕ) → k ≤ length pieces_text → list_all no_feed pieces_text ≡ true → IsSpot bytes (reach before + k) (moved s k)
  inner_spot k h all =
      let x = spelled bytes before (pieces_text ++ behind) cut in
      let cut_text : pieces_text ++ behind ≡ take k pieces_text ++ (drop k pieces_text ++ behind) = ap (λ t. t ++ behind) (sym (take-append-drop k pieces_text)) ∙ append_assoc (take k pieces_text) (drop k pieces_text) behind in
      let size : length (take k pieces_text) ≡ k = length-take-le k pieces_text h in
      let is' : IsSpot bytes (length x.front) s = rw x.size is in
      let over = spot_over bytes x.front (take k pieces_text) (drop k pieces_text ++ behind) (x.split ∙ ap (λ t. x.front ++ t) cut_text) s is' (take_flat k pieces_text all) in
      subst (λ n. IsSpot bytes (n + k) (moved s k)) x.size (subst (λ n. IsSpot bytes (length x.front + n) (moved s n)) size over)

  pub flat_spot : (n : ℕ) → length pieces_text ≡ n → list_all no_feed pieces_text ≡ true → IsSpot bytes (reach before + length pieces_text) (moved s n)
  flat_spot n size all = subst (λ k. IsSpot bytes (reach before + length pieces_text) (moved s k)) size (inner_spot (length pieces_text) (omega arith) all)

  below_spot : (n : ℕ) → length pieces_text ≡ n → Ends pieces_text → IsSpot bytes (reach before + length pieces_text) (on_next_line s n)
  below_spot n size ends =
      let x = spelled bytes before (pieces_text ++ behind) cut in
      let is' : IsSpot bytes (length x.front) s = rw x.size is in
      let whole : bytes ≡ x.front ++ (ends.inner ++ 10 ∷ behind) = x.split ∙ ap (λ t. x.front ++ (t ++ behind)) ends.split ∙ ap (λ t. x.front ++ t) (append_assoc ends.inner (10 ∷ []) behind) in
      let below = spot_below bytes x.front ends.inner behind s whole is' ends.flat in
      let len : length ends.inner + 1 ≡ length pieces_text = sym (ap length ends.split ∙ length-append ends.inner (10 ∷ [])) in
      let at : IsSpot bytes (length x.front + length pieces_text) (on_next_line s (length pieces_text)) = subst (λ n. IsSpot bytes (length x.front + n) (on_next_line s n)) len below in
      subst (λ k. IsSpot bytes (reach before + length pieces_text) (on_next_line s k)) size (subst (λ n. IsSpot bytes (n + length pieces_text) (on_next_line s (length pieces_text))) x.size at)

-- one separator more

module _ (file : ℕ) (bytes : List ℕ) (before : List Piece) (l : Layout) (m : Matches file bytes before l) (piece_text behind : List ℕ) (cut : Cut bytes before (piece_text ++ behind)) where
  pub separator_matches : (s : Shape) (n : ℕ) → is_lexeme s ≡ false → IsShape s piece_text → length piece_text ≡ n
      → Matches file bytes (record { at = reach before; shape = s; text = piece_text } ∷ before) (after_separator file l s n)
  separator_matches Space n off e size =
      space_matches file bytes before l (reach before) piece_text m (moved l.spot n) (flat_spot bytes before piece_text behind cut l.spot m.spot n size (rw e refl)) (ap (moved l.spot) (sym size ∙ ap length e))
  separator_matches Tab n off e size =
      tab_matches file bytes before l (reach before) piece_text m (moved l.spot n) (flat_spot bytes before piece_text behind cut l.spot m.spot n size (rw e refl)) (ap (moved l.spot) (sym size ∙ ap length e)) refl
  separator_matches Comment n off e size =
      comment_matches file bytes before l (reach before) piece_text m n (moved l.spot n) (flat_spot bytes before piece_text behind cut l.spot m.spot n size (flat Comment piece_text refl e)) refl
  separator_matches Joint n off (end, e, h) size =
      joint_matches file bytes before l (reach before) piece_text m n (on_next_line l.spot n) (below_spot bytes before piece_text behind cut l.spot m.spot n size (joint_ends piece_text end e h)) refl
  separator_matches LineEnd n off h size =
      line_end_matches file bytes before l (reach before) piece_text m n (on_next_line l.spot n) (below_spot bytes before piece_text behind cut l.spot m.spot n size (line_end_ends piece_text h)) refl
  separator_matches MarkShape n off h size = absurd (true≢false off)
  separator_matches NameShape n off h size = absurd (true≢false off)
  separator_matches NumberShape n off h size = absurd (true≢false off)
  separator_matches StringShape n off h size = absurd (true≢false off)

-- one piece more is reached

pub reached_more : (file : ℕ) (bytes : List ℕ) (valid : ℕ) (l next : Layout) (before : List Piece) (rest : List ℕ) (p : Piece) → Matches file bytes before l → Cut bytes before rest → AreSound before → (n : IsNext before rest p) → IsSound p before
    → Matches file bytes (p ∷ before) next → reach before + length p.text ≤ valid → Reached file bytes valid next × (l.spot.at < next.spot.at)
reached_more file bytes valid l next before rest p m cut sound n good mm within =
    let some = some_text p.shape p.text n.stands.shape in
    let a = m.spot.at in let b = mm.spot.at in
    (record { before = p ∷ before; rest = n.behind; cut = (n.stands, subst (Cut bytes before) n.split cut); sound = (good, sound); matches = mm; within = within }, omega arith)

-- a byte in a separator that begins no character stands in a comment
pub bad_comment : (bytes : List ℕ) (valid : ℕ) (before : List Piece) (s : Shape) (piece_text behind : List ℕ) → Cut bytes before (piece_text ++ behind) → IsShape s piece_text → is_lexeme s ≡ false → IsValidUpTo bytes valid → reach before ≤ valid → valid < reach before + length piece_text → s ≡ Comment
bad_comment bytes valid before s piece_text behind cut shape off bad low high =
    elim (separator_ascii s piece_text shape off) [ inl e ↦ e | inr ascii ↦ absurd (ascii_piece bytes before piece_text behind valid cut ascii bad low high) ]

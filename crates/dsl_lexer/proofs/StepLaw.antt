-- A step of the lexer goes on after one sound piece more, or stops at the first fault: the law.
use Rattle.std.proofs.Common.{◌≡◌, ℕ, suc, ◌+◌, ◌-◌, ◌<◌, ◌≤◌, Bool, true, false, cond, not, ◌⊎◌, inl, inr, Option, Some, None, List, ◌∷◌, ◌++◌, length, zero, take, refl, ap, sym, ◌∙◌, subst, arith}
use Rattle.std.specs.Prelude.{nat_lt, ◌==◌, is_some}
use Rattle.std.specs.List.{list_all}
use Rattle.std.specs.Str.{IsValidUpTo}
use Rattle.std.proofs.lemmas.Bool.{and_parts, eqb-true, eqb-false, cases_order, false≢true, true≢false, not-true, ltb-true, ltb-false}
use Rattle.std.proofs.lemmas.List.{length-append, take_at}
use Rattle.dsl_tree.specs.declared.token.TokenKind.{TokenKind}
use Rattle.dsl_lexer.specs.Progress.{IsSpot, IsTab, Matches, Valid, Follows}
use Rattle.dsl_lexer.specs.declared.spot.Spot.{Spot}
use Rattle.dsl_lexer.specs.declared.layout.Layout.{Layout}
use Rattle.dsl_lexer.specs.declared.shape.Shape.{Shape}
use Rattle.dsl_lexer.specs.Bytes.{is_quote}
use Rattle.dsl_lexer.specs.Shapes.{Space, Tab, Comment, LineEnd, Joint, MarkShape, NameShape, NumberShape, StringShape, is_lexeme, IsShape}
use Rattle.dsl_lexer.specs.Kinds.{kind_of}
use Rattle.dsl_lexer.specs.Scan.{first_shape, piece_len, control_at}
use Rattle.dsl_lexer.specs.Pieces.{Piece, reach, Cut, IsStuck, IsContent}
use Rattle.dsl_lexer.specs.Layout.{brackets_behind, brackets, line, width, first_tab, widths, opened, fits, has_lexeme, depth}
use Rattle.dsl_lexer.specs.SourceTokens.{HasControl, IsLaidOut, Lexeme, lexeme, token_faults, IsThere, IsSound, AreSound, BeginsContent, IsNext, FaultBehind, bad_byte, early_tab, bad_width, no_piece, bad_control, no_string, bad_token}
use Rattle.dsl_lexer.specs.Steps.{moved, widths_behind, bad_byte_or, first_white_fault, white_fault, end_fault, control_or_end, controls, SpottedFault, lexeme_at, first_code, here_or, Outcome, Goes, Stops, or_stop, after_separator, after_lexeme, separator_of, lexeme_of, content_of, piece_of, step_of}
use Rattle.dsl_lexer.proofs.Spots.{no_feed, is_flat, flat}
use Rattle.dsl_lexer.proofs.Fronts.{Next, next_found, stuck, content, stuck_content}
use Rattle.dsl_lexer.proofs.Ascii.{FirstControl, control_none, control_some, control_within, string_control}
use Rattle.dsl_lexer.proofs.Matching.{lexeme_matches}
use Rattle.dsl_lexer.proofs.TokenFaults.{after_indent, least_fault, no_fault}
use Rattle.dsl_lexer.proofs.FaultClasses.{some_not_none}
use Rattle.dsl_lexer.proofs.Firsts.{IsFirstHere, some_is}
use Rattle.dsl_lexer.proofs.Cutting.{some_text, is_next_same, cut_length}
use Rattle.osc_base.specs.declared.fault.FaultCode.{FaultCode}
use Rattle.osc_base.specs.FaultCodes.{number_of}
use Rattle.osc_base.specs.FaultRows.{IsNoLater}
use Rattle.dsl_lexer.proofs.Stepping.{least_of, tab_before, inner_spot, separator_matches, reached_more, bad_comment, stop_here}

-- what is known of a place after its white space
pub record Clear (valid : ℕ) (before : List Piece) : Type 0 where
  pub early : reach before < valid
  pub laid : has_lexeme (line before) ≡ false → IsLaidOut before

abbrev piece_of_text : List Piece → Shape → List ℕ → Piece
piece_of_text before s t = record { at = reach before; shape = s; text = t }

lexeme_is_flat : (s : Shape) → is_lexeme s ≡ true → is_flat s ≡ true
lexeme_is_flat MarkShape lex = refl
lexeme_is_flat NameShape lex = refl
lexeme_is_flat NumberShape lex = refl
lexeme_is_flat StringShape lex = refl
lexeme_is_flat Space lex = absurd (false≢true lex)
lexeme_is_flat Tab lex = absurd (false≢true lex)
lexeme_is_flat Comment lex = absurd (false≢true lex)
lexeme_is_flat LineEnd lex = absurd (false≢true lex)
lexeme_is_flat Joint lex = absurd (false≢true lex)

-- where the first control character of a string stands
abbrev ControlsAre : Shape → List ℕ → Option ℕ → Type 0
ControlsAre s t None = s ≡ StringShape → (i : ℕ) → HasControl t i → ⊥
ControlsAre s t (Some i) = (s ≡ StringShape) × FirstControl t i

string_controls : (t : List ℕ) (o : Option ℕ) → control_at t ≡ o → ControlsAre StringShape t o
string_controls t None e = λ h. control_none t e
string_controls t (Some i) e = (refl, control_some t i e)

number_no_string : NumberShape ≡ StringShape → ⊥
number_no_string e = cc

controls_are : (s : Shape) (t : List ℕ) → is_lexeme s ≡ true → ControlsAre s t (controls s t)
controls_are MarkShape t lex = λ e i h. mark_no_string e
  where
    mark_no_string : MarkShape ≡ StringShape → ⊥
    mark_no_string e = cc
controls_are NameShape t lex = λ e i h. name_no_string e
  where
    name_no_string : NameShape ≡ StringShape → ⊥
    name_no_string e = cc
controls_are NumberShape t lex = λ e i h. number_no_string e
controls_are StringShape t lex = string_controls t (control_at t) refl
controls_are Space t lex = absurd (false≢true lex)
controls_are Tab t lex = absurd (false≢true lex)
controls_are Comment t lex = absurd (false≢true lex)
controls_are LineEnd t lex = absurd (false≢true lex)
controls_are Joint t lex = absurd (false≢true lex)

not_before : (a b : ℕ) (c d : FaultCode) → a ≤ b → number_of c ≤ number_of d → IsNoLater a c b d
not_before a b c d h k = elim (cases_order a b) [ inl e ↦ inr (e, k) | inr (inl lt) ↦ inl lt | inr (inr gt) ↦ absurd (omega arith) ]

module _ (file : ℕ) (bytes : List ℕ) (valid : ℕ) (l : Layout) (v : Valid bytes valid) (before : List Piece) (b : ℕ) (more : List ℕ)
    (cut : Cut bytes before (b ∷ more)) (sound : AreSound before) (m : Matches file bytes before l) (within : reach before ≤ valid) where
  room : reach before < length bytes
  room = omega (arith, cut_length bytes before (b ∷ more) cut)

  stops : (n : ℕ) (code : FaultCode) (s : Spot) → IsSpot bytes n s → IsFirstHere bytes valid before (b ∷ more) n code → Follows file bytes valid l (Stops s code)
  stops n code s is first = stop_here file bytes valid l v before (b ∷ more) cut sound m within n code s is first

  -- a separator

  is_next : (s : Shape) (n : ℕ) (x : Next s (b ∷ more) n) → IsNext before (b ∷ more) (piece_of_text before s x.text)
  is_next s n x = record { behind = x.behind; split = x.split; stands = record { at = refl; shape = x.shape; longest = x.longest } }

  inside_bytes : (s : Shape) (n : ℕ) (x : Next s (b ∷ more) n) → reach before + length x.text ≤ length bytes
  inside_bytes s n x = omega (arith, cut_length bytes before (b ∷ more) cut, ap length x.split, length-append x.text x.behind)

  separator_first : (s : Shape) (n : ℕ) (x : Next s (b ∷ more) n) → is_lexeme s ≡ false → valid < reach before + length x.text → s ≡ Comment → IsFirstHere bytes valid before (b ∷ more) valid FaultCode.Utf8
  separator_first s n x off inside comment =
      let p = piece_of_text before s x.text in
      let end = inside_bytes s n x in
      let next = is_next s n x in
      let same : (q : Piece) → IsNext before (b ∷ more) q → q ≡ p = λ q nq. is_next_same before (b ∷ more) q p nq next in
      let content : BeginsContent before (b ∷ more) → ⊥ = λ c. false≢true (sym off ∙ c.content.lexeme s x.text x.behind x.shape x.split) in
      let stuck : IsStuck (b ∷ more) → ⊥ = λ k. k.none s x.text x.behind x.shape x.split in
      let shape : (q : Piece) → IsNext before (b ∷ more) q → q.shape ≡ s = λ q nq. ap (λ (r : Piece). r.shape) (same q nq) in
      let inside' : (q : Piece) → IsNext before (b ∷ more) q → valid < reach before + length q.text = λ q nq. subst (λ (r : Piece). valid < reach before + length r.text) (sym (same q nq)) inside in
      record {
        fault = bad_byte refl (v.bad (omega arith)) within inside';
        early = inr (refl, refl);
        least = least_of bytes valid before (b ∷ more) v valid FaultCode.Utf8 (inr (refl, refl)) (λ k c e. absurd (content c)) (λ c e. absurd (content c)) (λ k t e. absurd (stuck k))
            (λ q i nq e h. absurd (false≢true (sym off ∙ ap is_lexeme (sym (shape q nq) ∙ e))))
            (λ q c nq has. absurd (false≢true (sym off ∙ ap is_lexeme (sym (shape q nq)) ∙ has.token)));
        inside = inside';
        next = λ q nq. inr (shape q nq ∙ comment);
      }

  separator_by : (s : Shape) (n : ℕ) (x : Next s (b ∷ more) n) (t : Bool) → is_lexeme s ≡ false → nat_lt valid (l.spot.at + n) ≡ t
      → Follows file bytes valid l (or_stop (cond t (Some (moved l.spot (valid - l.spot.at), FaultCode.Utf8)) None) (Goes (after_separator file l s n)))
  separator_by s n x true off e =
      let at = m.spot.at in
      let size = x.size in
      let low = ltb-true valid (l.spot.at + n) e in
      let end = inside_bytes s n x in
      let cut' : Cut bytes before (x.text ++ x.behind) = subst (Cut bytes before) x.split cut in
      let comment = bad_comment bytes valid before s x.text x.behind cut' x.shape off (v.bad (omega arith)) within (omega arith) in
      let flat' : list_all no_feed x.text ≡ true = flat s x.text (ap is_flat comment) x.shape in
      let spot = inner_spot bytes before x.text x.behind cut' l.spot m.spot (valid - l.spot.at) (omega arith) flat' in
      let here : reach before + (valid - l.spot.at) ≡ valid = omega arith in
      stops valid FaultCode.Utf8 (moved l.spot (valid - l.spot.at)) (subst (λ k. IsSpot bytes k (moved l.spot (valid - l.spot.at))) here spot) (separator_first s n x off (omega arith) comment)
  separator_by s n x false off e =
      let at = m.spot.at in
      let size = x.size in
      let high = ltb-false valid (l.spot.at + n) e in
      let p = piece_of_text before s x.text in
      let cut' : Cut bytes before (x.text ++ x.behind) = subst (Cut bytes before) x.split cut in
      let mm = separator_matches file bytes before l m x.text x.behind cut' s n off x.shape x.size in
      let good : IsSound p before = record {
        laid_out = λ h. absurd (false≢true (sym off ∙ (and_parts (is_lexeme s) (not (has_lexeme (line before))) h).0));
        no_control = λ h i k. false≢true (sym off ∙ ap is_lexeme h);
        no_fault = λ code has. false≢true (sym off ∙ has.token);
      } in
      reached_more file bytes valid l (after_separator file l s n) before (b ∷ more) p m cut sound (is_next s n x) good mm (omega arith)

  pub separator_step : (n : ℕ) → piece_len (first_shape b) (b ∷ more) ≡ Some n → is_lexeme (first_shape b) ≡ false → Follows file bytes valid l (separator_of file valid l (first_shape b) n)
  separator_step n found off = separator_by (first_shape b) n (next_found b more n found) (nat_lt valid (l.spot.at + n)) off refl

  -- white space before the content

  content_next : IsContent (b ∷ more) → (q : Piece) → IsNext before (b ∷ more) q → is_lexeme q.shape ≡ true
  content_next c q nq = c.lexeme q.shape q.text nq.behind nq.stands.shape nq.split

  tab_first : (n : ℕ) → BeginsContent before (b ∷ more) → first_tab (line before) ≡ Some n → IsFirstHere bytes valid before (b ∷ more) n FaultCode.Tab
  tab_first n c e =
      let low = tab_before bytes before (b ∷ more) n cut e in
      record {
        fault = early_tab refl c e;
        early = inl (omega arith);
        least = least_of bytes valid before (b ∷ more) v n FaultCode.Tab (inl (omega arith)) (λ k d f. inr (some_is n k (sym e ∙ f), omega arith)) (λ d f. inl low) (λ k t f. inl low)
            (λ q i nq f h. inl (omega arith)) (λ q c nq has. inl low);
        inside = λ q nq. omega arith;
        next = λ q nq. inl (content_next c.content q nq);
      }

  bad_first : IsContent (b ∷ more) → valid ≡ reach before → ((k : ℕ) → BeginsContent before (b ∷ more) → first_tab (line before) ≡ Some k → ⊥) → IsFirstHere bytes valid before (b ∷ more) (reach before) FaultCode.Utf8
  bad_first c at no_tab =
      record {
        fault = bad_byte refl (subst (IsValidUpTo bytes) at (v.bad (let r = room in omega arith))) (omega arith) (λ q nq. let some = some_text q.shape q.text nq.stands.shape in omega arith);
        early = inr (sym at, refl);
        least = least_of bytes valid before (b ∷ more) v (reach before) FaultCode.Utf8 (inr (sym at, refl)) (λ k d f. absurd (no_tab k d f)) (λ d f. inr (refl, omega arith)) (λ k t f. stuck_after t)
            (λ q i nq f h. control_after i) (λ q c nq has. let far = after_indent (lexeme q before) c has.there in inr (refl, omega arith));
        inside = λ q nq. let some = some_text q.shape q.text nq.stands.shape in omega arith;
        next = λ q nq. inl (content_next c q nq);
      }
    where
      stuck_after : (t : Bool) → IsNoLater (reach before) FaultCode.Utf8 (reach before) (cond t FaultCode.Text FaultCode.Character)
      stuck_after true = inr (refl, omega arith)
      stuck_after false = inr (refl, omega arith)

      control_after : (i : ℕ) → IsNoLater (reach before) FaultCode.Utf8 (reach before + i) FaultCode.Character
      control_after zero = inr (omega arith, omega arith)
      control_after (suc i) = inl (omega arith)

  width_first : BeginsContent before (b ∷ more) → reach before < valid → ((k : ℕ) → first_tab (line before) ≡ Some k → ⊥) → fits (width (line before)) (opened (widths before)) ≡ false → IsFirstHere bytes valid before (b ∷ more) (reach before) FaultCode.Indent
  width_first c early no_tab off =
      record {
        fault = bad_width refl refl c off;
        early = inl early;
        least = least_of bytes valid before (b ∷ more) v (reach before) FaultCode.Indent (inl early) (λ k d f. absurd (no_tab k f)) (λ d f. inr (refl, omega arith)) (λ k t f. stuck_after t)
            (λ q i nq f h. control_after i) (λ q c nq has. let far = after_indent (lexeme q before) c has.there in inr (refl, omega arith));
        inside = λ q nq. let some = some_text q.shape q.text nq.stands.shape in omega arith;
        next = λ q nq. inl (content_next c.content q nq);
      }
    where
      stuck_after : (t : Bool) → IsNoLater (reach before) FaultCode.Indent (reach before) (cond t FaultCode.Text FaultCode.Character)
      stuck_after true = inr (refl, omega arith)
      stuck_after false = inr (refl, omega arith)

      control_after : (i : ℕ) → IsNoLater (reach before) FaultCode.Indent (reach before + i) FaultCode.Character
      control_after zero = inr (omega arith, omega arith)
      control_after (suc i) = inl (omega arith)

  -- the byte at the place begins a character, or not
  byte_by : (next : Outcome) (other : Option SpottedFault) (t : Bool) → IsContent (b ∷ more) → (valid == l.spot.at) ≡ t → ((k : ℕ) → BeginsContent before (b ∷ more) → first_tab (line before) ≡ Some k → ⊥)
      → (reach before < valid → Follows file bytes valid l (or_stop other next)) → Follows file bytes valid l (or_stop (cond t (Some (l.spot, FaultCode.Utf8)) other) next)
  byte_by next other true c e no_tab go =
      let at = m.spot.at in let same = eqb-true valid l.spot.at e in
      stops (reach before) FaultCode.Utf8 l.spot m.spot (bad_first c (omega arith) no_tab)
  byte_by next other false c e no_tab go = let at = m.spot.at in let other' = eqb-false valid l.spot.at e in go (early_go at other' within)
    where
      early_go : l.spot.at ≡ reach before → (valid ≡ l.spot.at → ⊥) → reach before ≤ valid → reach before < valid
      early_go at ne h = elim (cases_order (reach before) valid) [ inl e ↦ absurd (ne (sym e ∙ sym at)) | inr (inl lt) ↦ lt | inr (inr gt) ↦ absurd (omega arith) ]

  width_by : (next : Outcome) (t : Bool) → BeginsContent before (b ∷ more) → reach before < valid → first_tab (line before) ≡ None → fits l.spaces l.widths ≡ t
      → (Clear valid before → Follows file bytes valid l next) → Follows file bytes valid l (or_stop (cond t None (Some (l.spot, FaultCode.Indent))) next)
  width_by next true c early none e go = go (record { early = early; laid = λ h. record { no_tab = none; fitting = rw (← m.spaces, ← m.widths) e } })
  width_by next false c early none e go = stops (reach before) FaultCode.Indent l.spot m.spot (width_first c early (λ k f. none_some k (sym none ∙ f)) (rw (← m.spaces, ← m.widths) e))
    where
      none_some : (k : ℕ) → None ≡ Some k → ⊥
      none_some k e = cc

  tab_by : (next : Outcome) (o : Option ℕ) (t : Option Spot) → BeginsContent before (b ∷ more) → first_tab (line before) ≡ o → IsTab bytes o t
      → (Clear valid before → Follows file bytes valid l next) → Follows file bytes valid l (or_stop (first_white_fault l valid t) next)
  tab_by next None None c e is go =
      byte_by next (cond (fits l.spaces l.widths) None (Some (l.spot, FaultCode.Indent))) (valid == l.spot.at) c.content refl (λ k d f. none_some k (sym e ∙ f))
      (λ early. width_by next (fits l.spaces l.widths) c early e refl go)
    where
      none_some : (k : ℕ) → None ≡ Some k → ⊥
      none_some k e = cc
  tab_by next (Some n) (Some s) c e is go = stops n FaultCode.Tab s is (tab_first n c e)
  tab_by next None (Some s) c e is go = absurd is
  tab_by next (Some n) None c e is go = absurd is

  white_by : (next : Outcome) (t : Bool) → IsContent (b ∷ more) → l.started ≡ t → has_lexeme (line before) ≡ t → (Clear valid before → Follows file bytes valid l next)
      → Follows file bytes valid l (or_stop (cond t (bad_byte_or l valid None) (first_white_fault l valid l.tab)) next)
  white_by next true c e f go =
      byte_by next None (valid == l.spot.at) c refl (λ k d g. true≢false (sym f ∙ d.first)) (λ early. go (record { early = early; laid = λ h. absurd (true≢false (sym f ∙ h)) }))
  white_by next false c e f go = tab_by next (first_tab (line before)) l.tab (record { first = f; content = c }) refl m.tab go

  pub white_step : (next : Outcome) → IsContent (b ∷ more) → (Clear valid before → Follows file bytes valid l next) → Follows file bytes valid l (or_stop (white_fault l valid) next)
  white_step next c go = white_by next l.started c refl (sym m.started) go

  -- nothing fits

  stuck_first : Clear valid before → IsStuck (b ∷ more) → (t : Bool) → is_quote b ≡ t → IsFirstHere bytes valid before (b ∷ more) (reach before) (cond t FaultCode.Text FaultCode.Character)
  stuck_first clear k t e =
      let no_piece' : (q : Piece) → IsNext before (b ∷ more) q → ⊥ = λ q nq. k.none q.shape q.text nq.behind nq.stands.shape nq.split in
      let laid : BeginsContent before (b ∷ more) → IsLaidOut before = λ c. clear.laid c.first in
      record {
        fault = fault_go k t e;
        early = inl clear.early;
        least = least_of bytes valid before (b ∷ more) v (reach before) (cond t FaultCode.Text FaultCode.Character) (inl clear.early)
            (λ j d f. absurd (some_not_none (first_tab (line before)) (ap is_some f) (laid d).no_tab)) (λ d f. absurd (false≢true (sym f ∙ (laid d).fitting)))
            (λ k' u f. same_go t u (sym e ∙ f)) (λ q i nq f h. absurd (no_piece' q nq)) (λ q c nq has. absurd (no_piece' q nq));
        inside = λ q nq. absurd (no_piece' q nq);
        next = λ q nq. absurd (no_piece' q nq);
      }
    where
      fault_go : IsStuck (b ∷ more) → (t : Bool) → is_quote b ≡ t → FaultBehind bytes before (b ∷ more) (reach before) (cond t FaultCode.Text FaultCode.Character)
      fault_go k true e = no_string refl refl k e
      fault_go k false e = no_piece refl refl k e

      same_go : (t u : Bool) → t ≡ u → IsNoLater (reach before) (cond t FaultCode.Text FaultCode.Character) (reach before) (cond u FaultCode.Text FaultCode.Character)
      same_go t u e = inr (refl, subst (λ w. number_of (cond t FaultCode.Text FaultCode.Character) ≤ number_of (cond w FaultCode.Text FaultCode.Character)) e (le_same (number_of (cond t FaultCode.Text FaultCode.Character))))
        where
          le_same : (n : ℕ) → n ≤ n
          le_same n = omega arith

  pub stuck_step : IsStuck (b ∷ more) → Clear valid before → Follows file bytes valid l (Stops l.spot (cond (is_quote b) FaultCode.Text FaultCode.Character))
  stuck_step k clear = stops (reach before) (cond (is_quote b) FaultCode.Text FaultCode.Character) l.spot m.spot (stuck_first clear k (is_quote b) refl)

  -- a token

  laid_or : Clear valid before → BeginsContent before (b ∷ more) → IsLaidOut before
  laid_or clear c = clear.laid c.first

  -- the faults at a token, but for those of the token itself
  token_least : (s : Shape) (n : ℕ) (x : Next s (b ∷ more) n) → is_lexeme s ≡ true → Clear valid before → (at : ℕ) (code : FaultCode) → (at < valid) ⊎ ((at ≡ valid) × (code ≡ FaultCode.Utf8))
      → ((i : ℕ) → s ≡ StringShape → HasControl x.text i → IsNoLater at code (reach before + i) FaultCode.Character)
      → ((c : FaultCode) → IsThere token_faults (lexeme (piece_of_text before s x.text) before) c → IsNoLater at code (reach before) c)
      → (k : ℕ) (c : FaultCode) → FaultBehind bytes before (b ∷ more) k c → IsNoLater at code k c
  token_least s n x lex clear at code early control start =
      let p = piece_of_text before s x.text in
      let same : (q : Piece) → IsNext before (b ∷ more) q → q ≡ p = λ q nq. is_next_same before (b ∷ more) q p nq (is_next s n x) in
      least_of bytes valid before (b ∷ more) v at code early
      (λ k d f. absurd (some_not_none (first_tab (line before)) (ap is_some f) (laid_or clear d).no_tab))
      (λ d f. absurd (false≢true (sym f ∙ (laid_or clear d).fitting)))
      (λ k t f. absurd (k.none s x.text x.behind x.shape x.split))
      (λ q i nq f h. control i (ap (λ (r : Piece). r.shape) (sym (same q nq)) ∙ f) (subst (λ (r : Piece). HasControl r.text i) (same q nq) h))
      (λ q c nq has. start c (subst (λ (r : Piece). IsThere token_faults (lexeme r before) c) (same q nq) has.there))

  token_inside : (s : Shape) (n : ℕ) (x : Next s (b ∷ more) n) (at : ℕ) → at < reach before + length x.text → (q : Piece) → IsNext before (b ∷ more) q → at < reach before + length q.text
  token_inside s n x at h q nq = subst (λ (r : Piece). at < reach before + length r.text) (sym (is_next_same before (b ∷ more) q (piece_of_text before s x.text) nq (is_next s n x))) h

  token_next : (s : Shape) (n : ℕ) (x : Next s (b ∷ more) n) → is_lexeme s ≡ true → (q : Piece) → IsNext before (b ∷ more) q → (is_lexeme q.shape ≡ true) ⊎ (q.shape ≡ Comment)
  token_next s n x lex q nq = inl (ap (λ (r : Piece). is_lexeme r.shape) (is_next_same before (b ∷ more) q (piece_of_text before s x.text) nq (is_next s n x)) ∙ lex)

  start_first : (s : Shape) (n : ℕ) (x : Next s (b ∷ more) n) → is_lexeme s ≡ true → Clear valid before → (code : FaultCode) → first_code token_faults (lexeme (piece_of_text before s x.text) before) ≡ Some code
      → IsFirstHere bytes valid before (b ∷ more) (reach before) code
  start_first s n x lex clear code e =
      let first = least_fault (lexeme (piece_of_text before s x.text) before) code e in
      let some = some_text s x.text x.shape in
      record {
        fault = bad_token (piece_of_text before s x.text) refl (is_next s n x) (record { token = lex; there = first.there });
        early = inl clear.early;
        least = token_least s n x lex clear (reach before) code (inl clear.early)
            (λ i e h. let far = string_control x.text i (subst (λ u. IsShape u x.text) e x.shape) h in inl (omega arith))
            (λ c there. inr (refl, first.least c there));
        inside = token_inside s n x (reach before) (omega arith);
        next = token_next s n x lex;
      }

  control_first : (s : Shape) (n : ℕ) (x : Next s (b ∷ more) n) → is_lexeme s ≡ true → Clear valid before → first_code token_faults (lexeme (piece_of_text before s x.text) before) ≡ None
      → (i : ℕ) → s ≡ StringShape → FirstControl x.text i → reach before + i < valid → IsFirstHere bytes valid before (b ∷ more) (reach before + i) FaultCode.Character
  control_first s n x lex clear none i string c early =
      let inside = c.within in
      record {
        fault = bad_control (piece_of_text before s x.text) i refl (is_next s n x) string c.there refl;
        early = inl early;
        least = token_least s n x lex clear (reach before + i) FaultCode.Character (inl early)
            (λ j e h. let far = c.least j h in not_before (reach before + i) (reach before + j) FaultCode.Character FaultCode.Character (omega arith) (omega arith))
            (λ c there. absurd (no_fault (lexeme (piece_of_text before s x.text) before) c none there));
        inside = token_inside s n x (reach before + i) (omega arith);
        next = token_next s n x lex;
      }

  end_first : (s : Shape) (n : ℕ) (x : Next s (b ∷ more) n) → is_lexeme s ≡ true → Clear valid before → first_code token_faults (lexeme (piece_of_text before s x.text) before) ≡ None
      → valid < reach before + length x.text → ((i : ℕ) → s ≡ StringShape → HasControl x.text i → valid ≤ reach before + i) → IsFirstHere bytes valid before (b ∷ more) valid FaultCode.Utf8
  end_first s n x lex clear none inside controls' =
      let end = inside_bytes s n x in
      record {
        fault = bad_byte refl (v.bad (omega arith)) within (token_inside s n x valid inside);
        early = inr (refl, refl);
        least = token_least s n x lex clear valid FaultCode.Utf8 (inr (refl, refl))
            (λ j e h. let far = controls' j e h in not_before valid (reach before + j) FaultCode.Utf8 FaultCode.Character far (omega arith))
            (λ c there. absurd (no_fault (lexeme (piece_of_text before s x.text) before) c none there));
        inside = token_inside s n x valid inside;
        next = token_next s n x lex;
      }

  cut_text : (s : Shape) (n : ℕ) (x : Next s (b ∷ more) n) → Cut bytes before (x.text ++ x.behind)
  cut_text s n x = subst (Cut bytes before) x.split cut

  token_spot : (s : Shape) (n : ℕ) (x : Next s (b ∷ more) n) → is_lexeme s ≡ true → (k : ℕ) → k ≤ length x.text → IsSpot bytes (reach before + k) (moved l.spot k)
  token_spot s n x lex k h = inner_spot bytes before x.text x.behind (cut_text s n x) l.spot m.spot k h (flat s x.text (lexeme_is_flat s lex) x.shape)

  token_matches : (s : Shape) (n : ℕ) (x : Next s (b ∷ more) n) → is_lexeme s ≡ true → (kind : TokenKind) → kind_of s x.text ≡ Some kind → Matches file bytes (piece_of_text before s x.text ∷ before) (after_lexeme file l (length x.text) kind)
  token_matches s n x lex kind e =
      lexeme_matches file bytes before l (reach before) x.text m s kind (length x.text) (moved l.spot (length x.text)) lex e (token_spot s n x lex (length x.text) (omega arith)) refl refl

  -- the end of a token
  end_by : (s : Shape) (n : ℕ) (x : Next s (b ∷ more) n) → is_lexeme s ≡ true → Clear valid before → (kind : TokenKind) → kind_of s x.text ≡ Some kind → first_code token_faults (lexeme (piece_of_text before s x.text) before) ≡ None
      → ((i : ℕ) → s ≡ StringShape → HasControl x.text i → valid ≤ reach before + i) → (t : Bool) → nat_lt valid (l.spot.at + length x.text) ≡ t
      → Follows file bytes valid l (or_stop (cond t (Some (moved l.spot (valid - l.spot.at), FaultCode.Utf8)) None) (Goes (after_lexeme file l (length x.text) kind)))
  end_by s n x lex clear kind e none controls' true f =
      let at = m.spot.at in
      let low = ltb-true valid (l.spot.at + length x.text) f in
      let here : reach before + (valid - l.spot.at) ≡ valid = omega arith in
      stops valid FaultCode.Utf8 (moved l.spot (valid - l.spot.at)) (subst (λ k. IsSpot bytes k (moved l.spot (valid - l.spot.at))) here (token_spot s n x lex (valid - l.spot.at) (omega arith)))
      (end_first s n x lex clear none (omega arith) controls')
  end_by s n x lex clear kind e none controls' false f =
      let at = m.spot.at in
      let high = ltb-false valid (l.spot.at + length x.text) f in
      let good : IsSound (piece_of_text before s x.text) before = record {
        laid_out = λ h. clear.laid (not-true (has_lexeme (line before)) (and_parts (is_lexeme s) (not (has_lexeme (line before))) h).1);
        no_control = λ g i h. let far = controls' i g h in let inside = control_within x.text i h in absurd (omega arith);
        no_fault = λ code has. no_fault (lexeme (piece_of_text before s x.text) before) code none has.there;
      } in
      reached_more file bytes valid l (after_lexeme file l (length x.text) kind) before (b ∷ more) (piece_of_text before s x.text) m cut sound (is_next s n x) good (token_matches s n x lex kind e) (omega arith)

  control_by : (s : Shape) (n : ℕ) (x : Next s (b ∷ more) n) → is_lexeme s ≡ true → Clear valid before → (kind : TokenKind) → kind_of s x.text ≡ Some kind → first_code token_faults (lexeme (piece_of_text before s x.text) before) ≡ None
      → (o : Option ℕ) → ControlsAre s x.text o → Follows file bytes valid l (or_stop (control_or_end l valid (length x.text) o) (Goes (after_lexeme file l (length x.text) kind)))
  control_by s n x lex clear kind e none None clean =
      end_by s n x lex clear kind e none (λ i g h. absurd (clean g i h)) (nat_lt valid (l.spot.at + length x.text)) refl
  control_by s n x lex clear kind e none (Some i) (string, c) = here (nat_lt (l.spot.at + i) valid) refl
    where
      here : (t : Bool) → nat_lt (l.spot.at + i) valid ≡ t
          → Follows file bytes valid l (or_stop (cond t (Some (moved l.spot i, FaultCode.Character)) (end_fault l valid (length x.text))) (Goes (after_lexeme file l (length x.text) kind)))
      here true f =
          let at = m.spot.at in
          let low = ltb-true (l.spot.at + i) valid f in
          let inside = c.within in
          stops (reach before + i) FaultCode.Character (moved l.spot i) (token_spot s n x lex i (omega arith)) (control_first s n x lex clear none i string c (omega arith))
      here false f =
          let at = m.spot.at in
          let high = ltb-false (l.spot.at + i) valid f in
          end_by s n x lex clear kind e none (λ j g h. let far = c.least j h in omega arith) (nat_lt valid (l.spot.at + length x.text)) refl

  -- what the layout knows of a token is what the pieces say
  same_lexeme : (s : Shape) (n : ℕ) (x : Next s (b ∷ more) n) → is_lexeme s ≡ true → (kind : TokenKind) → kind_of s x.text ≡ Some kind
      → lexeme_at l s x.text (brackets_behind (Some kind) l.brackets) ≡ lexeme (piece_of_text before s x.text) before
  same_lexeme s n x lex kind e =
      let after = token_matches s n x lex kind e in
      let outer : l.brackets + length l.widths ≡ depth before = ap (λ k. k + length l.widths) m.brackets ∙ ap (λ ws. brackets before + length ws) m.widths in
      let inner : brackets_behind (Some kind) l.brackets + length (widths_behind l) ≡ depth (piece_of_text before s x.text ∷ before) =
      ap (λ k. k + length (widths_behind l)) after.brackets ∙ ap (λ ws. brackets (piece_of_text before s x.text ∷ before) + length ws) after.widths in
      ap (λ (k : ℕ). lexeme_with k (brackets_behind (Some kind) l.brackets + length (widths_behind l))) outer ∙ ap (λ (k : ℕ). lexeme_with (depth before) k) inner
    where
      lexeme_with : ℕ → ℕ → Lexeme
      lexeme_with i j = record { shape = s; text = x.text; depth_before = i; depth_behind = j }

  start_by : (s : Shape) (n : ℕ) (x : Next s (b ∷ more) n) → is_lexeme s ≡ true → Clear valid before → (kind : TokenKind) → kind_of s x.text ≡ Some kind
      → (o : Option FaultCode) → first_code token_faults (lexeme (piece_of_text before s x.text) before) ≡ o
      → Follows file bytes valid l (or_stop (here_or l o (control_or_end l valid (length x.text) (controls s x.text))) (Goes (after_lexeme file l (length x.text) kind)))
  start_by s n x lex clear kind e None none = control_by s n x lex clear kind e none (controls s x.text) (controls_are s x.text lex)
  start_by s n x lex clear kind e (Some code) there = stops (reach before) code l.spot m.spot (start_first s n x lex clear code there)

  lexeme_by : (s : Shape) (n : ℕ) (x : Next s (b ∷ more) n) → is_lexeme s ≡ true → Clear valid before → (k : Option TokenKind) → kind_of s x.text ≡ k → Follows file bytes valid l (lexeme_of file valid l s x.text k)
  lexeme_by s n x lex clear None e = stops (reach before) FaultCode.Number l.spot m.spot (start_first s n x lex clear FaultCode.Number (rw e refl))
  lexeme_by s n x lex clear (Some kind) e =
      start_by s n x lex clear kind e (first_code token_faults (lexeme_at l s x.text (brackets_behind (Some kind) l.brackets))) (ap (first_code token_faults) (sym (same_lexeme s n x lex kind e)))

  pub lexeme_step : (n : ℕ) → piece_len (first_shape b) (b ∷ more) ≡ Some n → is_lexeme (first_shape b) ≡ true → Clear valid before
      → Follows file bytes valid l (lexeme_of file valid l (first_shape b) (take n (b ∷ more)) (kind_of (first_shape b) (take n (b ∷ more))))
  lexeme_step n found lex clear =
      let x = next_found b more n found in
      let text' : take n (b ∷ more) ≡ x.text = ap (take n) x.split ∙ take_at x.text x.behind n x.size in
      subst (λ t. Follows file bytes valid l (lexeme_of file valid l (first_shape b) t (kind_of (first_shape b) t))) (sym text') (lexeme_by (first_shape b) n x lex clear (kind_of (first_shape b) x.text) refl)

  -- a whole step

  step_by : (t : Bool) (o : Option ℕ) → is_lexeme (first_shape b) ≡ t → piece_len (first_shape b) (b ∷ more) ≡ o → Follows file bytes valid l (piece_of file valid l (first_shape b) (b ∷ more) t o)
  step_by false (Some n) e f = separator_step n f e
  step_by false None e f = white_step (content_of file valid l (first_shape b) (b ∷ more) None) (stuck_content (b ∷ more) (stuck b more f)) (λ clear. stuck_step (stuck b more f) clear)
  step_by true None e f = white_step (content_of file valid l (first_shape b) (b ∷ more) None) (stuck_content (b ∷ more) (stuck b more f)) (λ clear. stuck_step (stuck b more f) clear)
  step_by true (Some n) e f = white_step (content_of file valid l (first_shape b) (b ∷ more) (Some n)) (content b more e) (λ clear. lexeme_step n f e clear)

  pub step_law : Follows file bytes valid l (step_of file valid l (b ∷ more))
  step_law = step_by (is_lexeme (first_shape b)) (piece_len (first_shape b) (b ∷ more)) refl refl

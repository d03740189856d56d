-- The ways to have a fault, walked here alone: each stands at the first byte that begins no character, at an early tab, or
-- within the next piece, which is none or isn't sound. A further way needs its clause in `class_of`, and one in `least_of`.
-- A further row of `token_faults` needs none.
use Rattle.std.proofs.Common.{◌≡◌, ℕ, ◌+◌, ◌<◌, ◌≤◌, true, false, Option, Some, None, List, [], length, refl, ap, sym, ◌∙◌, subst, arith}
use Rattle.std.specs.Prelude.{◌≢◌, IsSome, is_some}
use Rattle.std.specs.Str.{IsValidUpTo}
use Rattle.std.proofs.lemmas.Bool.{false≢true}
use Rattle.std.proofs.lemmas.List.{length-append}
use Rattle.osc_base.specs.declared.fault.FaultCode.{FaultCode}
use Rattle.dsl_lexer.specs.Shapes.{is_lexeme}
use Rattle.dsl_lexer.specs.Pieces.{Piece, reach}
use Rattle.dsl_lexer.specs.Layout.{line, first_tab, begins_line, has_lexeme}
use Rattle.dsl_lexer.specs.SourceTokens.{HasControl, IsLaidOut, lexeme, HasTokenFault, IsSound, BeginsContent, IsNext, FaultBehind, bad_byte, early_tab, bad_width, no_piece, bad_control, no_string, bad_token}
use Rattle.dsl_lexer.proofs.Ascii.{control_within}
use Rattle.dsl_lexer.proofs.Cutting.{is_next_same, some_text}
use Rattle.dsl_lexer.proofs.TokenFaults.{after_indent}

pub data FaultClass (bytes : List ℕ) (before : List Piece) (rest : List ℕ) (n : ℕ) (code : FaultCode) : Type 0 where
  at_byte : code ≡ FaultCode.Utf8 → IsValidUpTo bytes n → reach before ≤ n
      → ((p : Piece) → IsNext before rest p → n < reach before + length p.text) → FaultClass bytes before rest n code
  at_tab : code ≡ FaultCode.Tab → BeginsContent before rest → first_tab (line before) ≡ Some n → FaultClass bytes before rest n code
  in_piece : (code ≡ FaultCode.Tab → ⊥) → rest ≢ [] → reach before ≤ n
      → ((p : Piece) → IsNext before rest p → n < reach before + length p.text)
      → ((p : Piece) → IsNext before rest p → IsSound p before → ⊥) → FaultClass bytes before rest n code

begins_first : (p : Piece) (before : List Piece) → is_lexeme p.shape ≡ true → has_lexeme (line before) ≡ false → begins_line p before ≡ true
begins_first p before lex first = rw (lex, first) refl

pub some_not_none : {A : Type 0} (o : Option A) → IsSome o → o ≡ None → ⊥
some_not_none o h e = false≢true (sym (ap is_some e) ∙ h)

pub first_content : (before : List Piece) (rest : List ℕ) (p : Piece) → IsNext before rest p → BeginsContent before rest → IsSound p before → IsLaidOut before
first_content before rest p next c sound = sound.laid_out (begins_first p before (c.content.lexeme p.shape p.text next.behind next.stands.shape next.split) c.first)

-- nothing stands after the whole
pub nothing_next : (before : List Piece) (p : Piece) → IsNext before [] p → ⊥
nothing_next before p n = let some = some_text p.shape p.text n.stands.shape in let e = ap length n.split in absurd (omega (arith, e, length-append p.text n.behind))

module _ (bytes : List ℕ) (before : List Piece) (rest : List ℕ) (n : ℕ) (code : FaultCode) where
  more_behind : (p : Piece) → IsNext before rest p → rest ≢ []
  more_behind p next e = nothing_next before p (subst (λ (r : List ℕ). IsNext before r p) e next)

  -- a fault directly after the pieces
  at_next : (code ≡ FaultCode.Tab → ⊥) → rest ≢ [] → n ≡ reach before → ((p : Piece) → IsNext before rest p → IsSound p before → ⊥) → FaultClass bytes before rest n code
  at_next apart more at unsound = in_piece apart more (omega arith) (λ p next. let some = some_text p.shape p.text next.stands.shape in omega arith) unsound

  pub class_of : FaultBehind bytes before rest n code → FaultClass bytes before rest n code
  class_of (bad_byte c bad reached ends) = at_byte c bad reached ends
  class_of (early_tab c begun there) = at_tab c begun there
  class_of (bad_width c at begun off) =
      at_next (λ t. cc) begun.content.more at (λ p next sound. let laid = first_content before rest p next begun sound in false≢true (sym off ∙ laid.fitting))
  class_of (no_piece c at stuck quote) = at_next (λ t. cc) stuck.more at (λ p next sound. stuck.none p.shape p.text next.behind next.stands.shape next.split)
  class_of (bad_control q i c next string there at) =
      in_piece (λ t. cc) (more_behind q next) (omega arith)
      (λ p next'.
      let low = control_within q.text i there in
      let same : length q.text ≡ length p.text = ap (λ (r : Piece). length r.text) (is_next_same before rest q p next next') in
      omega arith)
      (λ p next' sound.
      let same : q ≡ p = is_next_same before rest q p next next' in
      sound.no_control (ap (λ x. x.shape) (sym same) ∙ string) i (subst (λ (x : Piece). HasControl x.text i) same there))
  class_of (no_string c at stuck quote) = at_next (λ t. cc) stuck.more at (λ p next sound. stuck.none p.shape p.text next.behind next.stands.shape next.split)
  class_of (bad_token q at next has) =
      at_next (λ t. not_tab (subst (λ k. HasTokenFault q before k) t has)) (more_behind q next) at
      (λ p next' sound.
      let same : q ≡ p = is_next_same before rest q p next next' in
      sound.no_fault code (subst (λ (x : Piece). HasTokenFault x before code) same has))
    where
      not_tab : HasTokenFault q before FaultCode.Tab → ⊥
      not_tab tab = let far = after_indent (lexeme q before) FaultCode.Tab tab.there in absurd (omega arith)

-- Which fault is the first.
use Rattle.std.proofs.Common.{◌≡◌, ℕ, ◌+◌, ◌<◌, ◌≤◌, Bool, true, false, cond, ◌&&◌, ◌⊎◌, inl, inr, Option, Some, None, List, [], ◌∷◌, ◌++◌, length, refl, ap, sym, ◌∙◌, subst, arith}
use Rattle.std.specs.Prelude.{◌==◌, is_some}
use Rattle.std.specs.List.{list_all}
use Rattle.std.specs.Str.{IsValidUpTo}
use Rattle.std.proofs.lemmas.Bool.{and_from, and_parts, or_parts, or_right, eqb-true, eq-eqb, cases_order, false≢true, true≢false}
use Rattle.std.proofs.lemmas.List.{append_assoc, length-append}
use Rattle.std.proofs.lemmas.List.Folds.{list_all-append}
use Rattle.osc_base.specs.declared.fault.FaultCode.{FaultCode}
use Rattle.osc_base.specs.FaultCodes.{number_of}
use Rattle.osc_base.specs.FaultRows.{IsNoLater}
use Rattle.dsl_lexer.specs.Progress.{Valid}
use Rattle.dsl_lexer.specs.declared.shape.Shape.{Shape}
use Rattle.dsl_lexer.specs.Bytes.{is_line_feed}
use Rattle.dsl_lexer.specs.Shapes.{Space, Tab, Comment, LineEnd, Joint, MarkShape, NameShape, NumberShape, StringShape, is_lexeme, IsShape}
use Rattle.dsl_lexer.specs.Kinds.{kind_of}
use Rattle.dsl_lexer.specs.Scan.{first_shape}
use Rattle.dsl_lexer.specs.Pieces.{Piece, reach, IsLongest, Cut, IsContent}
use Rattle.dsl_lexer.specs.Layout.{brackets, is_line_end, ends_line, is_tab, line, or_else, first_tab, has_lexeme}
use Rattle.dsl_lexer.specs.SourceTokens.{IsSound, AreSound, BeginsContent, IsNext, FaultBehind, FaultAt}
use Rattle.dsl_lexer.proofs.Spots.{no_feed}
use Rattle.dsl_lexer.proofs.Fitting.{begins}
use Rattle.dsl_lexer.proofs.Matching.{lexeme_is}
use Rattle.dsl_lexer.proofs.FaultClasses.{some_not_none, first_content, FaultClass, at_byte, at_tab, in_piece, class_of}
use Rattle.dsl_lexer.proofs.Cutting.{same_cut, extends, sound_there, reach_there}

-- after sound pieces there is no fault but a byte that begins no character

pub record IsBad (bytes : List ℕ) (reached n : ℕ) : Type 0 where
  pub bad : IsValidUpTo bytes n
  pub before : n < reached

pub clean : (bytes : List ℕ) (before : List Piece) (rest : List ℕ) (p : Piece) (n : ℕ) (code : FaultCode) → IsNext before rest p → IsSound p before → FaultBehind bytes before rest n code → IsBad bytes (reach before + length p.text) n
clean bytes before rest p n code next sound x = by_class (class_of bytes before rest n code x)
  where
    by_class : FaultClass bytes before rest n code → IsBad bytes (reach before + length p.text) n
    by_class (at_byte c bad reached ends) = record { bad = bad; before = ends p next }
    by_class (at_tab c begun there) =
        let laid = first_content before rest p next begun sound in
        absurd (some_not_none (first_tab (line before)) (ap is_some there) laid.no_tab)
    by_class (in_piece c more reached inside unsound) = absurd (unsound p next sound)

-- lines after a piece

abbrev AllFrom : ℕ → List Piece → Type 0
AllFrom k [] = Unit {0}
AllFrom k (p ∷ before) = (k ≤ p.at) × AllFrom k before

pub some_is : (m n : ℕ) → Some m ≡ Some n → m ≡ n
some_is m n e = cc

tab_go : (k n at : ℕ) (o : Option ℕ) (t : Bool) → k ≤ at → ((m : ℕ) → o ≡ Some m → k ≤ m) → or_else o (cond t (Some at) None) ≡ Some n → k ≤ n
tab_go k n at (Some m) t h earlier e = let x = earlier m refl in let y = some_is m n e in omega arith
tab_go k n at None true h earlier e = let y = some_is at n e in omega arith
tab_go k n at None false h earlier e = absurd (cc)

tab_from : (k : ℕ) (pieces : List Piece) (n : ℕ) → AllFrom k pieces → first_tab pieces ≡ Some n → k ≤ n
tab_from k [] n h e = absurd (cc)
tab_from k (p ∷ before) n h e = tab_go k n p.at (first_tab before) (is_tab p.shape) h.0 (λ m f. tab_from k before m h.1 f) e

-- the line has a token, or only pieces from the offset on
abbrev Claim : ℕ → List Piece → Type 0
Claim k pieces = (has_lexeme (line pieces) ≡ true) ⊎ AllFrom k (line pieces)

claim_step : (k : ℕ) (q : Piece) (pieces : List Piece) → k ≤ q.at → Claim k pieces → Claim k (q ∷ pieces)
claim_step k q pieces h c = go (ends_line q pieces) refl c
  where
    go : (t : Bool) → ends_line q pieces ≡ t → Claim k pieces → Claim k (q ∷ pieces)
    go true e c = inr (rw e tt)
    go false e (inl lex) = inl (rw e (or_right (is_lexeme q.shape) (has_lexeme (line pieces)) lex))
    go false e (inr all) = inr (rw e (h, all))

-- after a token

claim_lexeme : (bytes : List ℕ) (more : List Piece) (p : Piece) (before : List Piece) (rest : List ℕ) → Cut bytes (more ++ p ∷ before) rest → is_lexeme p.shape ≡ true → is_line_end p.shape ≡ false
    → Claim (reach before + length p.text) (more ++ p ∷ before)
claim_lexeme bytes [] p before rest cut lex flat = inl (rw (flat, lex) refl)
claim_lexeme bytes (q ∷ more) p before rest cut lex flat =
    let far = reach_there more before p in let at = cut.0.at in
    claim_step (reach before + length p.text) q (more ++ p ∷ before) (omega arith) (claim_lexeme bytes more p before (q.text ++ rest) cut.1 lex flat)

-- after a comment

lexeme_line_end : (s : Shape) → is_lexeme s ≡ false → (text : List ℕ) → kind_of s text ≡ None
lexeme_line_end Space h text = refl
lexeme_line_end Tab h text = refl
lexeme_line_end Comment h text = refl
lexeme_line_end LineEnd h text = refl
lexeme_line_end Joint h text = refl
lexeme_line_end MarkShape h text = absurd (true≢false h)
lexeme_line_end NameShape h text = absurd (true≢false h)
lexeme_line_end NumberShape h text = absurd (true≢false h)
lexeme_line_end StringShape h text = absurd (true≢false h)

line_end_none : (s : Shape) → is_line_end s ≡ true → (text : List ℕ) → kind_of s text ≡ None
line_end_none LineEnd h text = refl
line_end_none Space h text = absurd (false≢true h)
line_end_none Tab h text = absurd (false≢true h)
line_end_none Comment h text = absurd (false≢true h)
line_end_none Joint h text = absurd (false≢true h)
line_end_none MarkShape h text = absurd (false≢true h)
line_end_none NameShape h text = absurd (false≢true h)
line_end_none NumberShape h text = absurd (false≢true h)
line_end_none StringShape h text = absurd (false≢true h)

-- no bracket is open in a line without a token
pub no_brackets : (pieces : List Piece) → has_lexeme (line pieces) ≡ false → brackets pieces ≡ 0
no_brackets [] h = refl
no_brackets (p ∷ before) h = brackets_go p before (ends_line p before) refl h (λ e. no_brackets before e)
  where
    brackets_go : (p : Piece) (before : List Piece) (t : Bool) → ends_line p before ≡ t → has_lexeme (cond t [] (p ∷ line before)) ≡ false → (has_lexeme (line before) ≡ false → brackets before ≡ 0) → brackets (p ∷ before) ≡ 0
    brackets_go p before true e h earlier =
        let parts = and_parts (is_line_end p.shape) (brackets before == 0) e in
        rw (line_end_none p.shape parts.0 p.text) (eqb-true (brackets before) 0 parts.1)
    brackets_go p before false e h earlier =
        let parts = or_parts (is_lexeme p.shape) (has_lexeme (line before)) h in
        rw (lexeme_line_end p.shape parts.0 p.text) (earlier parts.1)

-- what follows a comment is a line feed or nothing
after_comment : (text : List ℕ) (b : ℕ) (more : List ℕ) → IsShape Comment text → IsLongest text (b ∷ more) → b ≡ 10
after_comment text b more (inner, e, all) longest = comment_go (is_line_feed b) refl
  where
    comment_go : (t : Bool) → is_line_feed b ≡ t → b ≡ 10
    comment_go true f = eqb-true b 10 f
    comment_go false f =
        let longer : list_all no_feed (inner ++ b ∷ []) ≡ true = list_all-append no_feed inner (b ∷ []) ∙ and_from (list_all no_feed inner) (no_feed b && true) all (and_from (no_feed b) true (rw f refl) refl) in
        let size = longest Comment (text ++ b ∷ []) more (inner ++ b ∷ [], ap (λ t. t ++ b ∷ []) e, longer) (sym (append_assoc text (b ∷ []) more)) in
        absurd (omega (arith, length-append text (b ∷ [])))

comment_content : (text rest : List ℕ) → IsShape Comment text → IsLongest text rest → IsContent rest → ⊥
comment_content text [] shape longest c = c.more refl
comment_content text (b ∷ more) shape longest c =
    let ten = after_comment text b more shape longest in
    false≢true (c.lexeme LineEnd (10 ∷ []) more (inl refl) (ap (λ x. x ∷ more) ten))

cons_head : (b c : ℕ) (xs ys : List ℕ) → b ∷ xs ≡ c ∷ ys → b ≡ c
cons_head b c xs ys e = cc

-- the piece after a comment is a line end
comment_line_end : (text rest : List ℕ) (q : Piece) → IsShape Comment text → IsShape q.shape q.text → IsLongest text (q.text ++ rest) → q.shape ≡ LineEnd
comment_line_end text rest q shape next longest =
    let x = begins q.shape q.text next in
    let whole : q.text ++ rest ≡ x.head ∷ (x.tail ++ rest) = ap (λ t. t ++ rest) x.split in
    let longest' : IsLongest text (x.head ∷ (x.tail ++ rest)) = subst (IsLongest text) whole longest in
    let ten = after_comment text x.head (x.tail ++ rest) shape longest' in
    sym x.first ∙ ap first_shape ten

claim_comment_go : (k : ℕ) (q p : Piece) (before : List Piece) (t u : Bool) → q.shape ≡ LineEnd → p.shape ≡ Comment → (brackets before == 0) ≡ t → has_lexeme (line before) ≡ u → Claim k (q ∷ p ∷ before)
claim_comment_go k q p before true u e f z h = inr (rw (e, f, z) tt)
claim_comment_go k q p before false true e f z h = inl (rw (e, f, z, h) refl)
claim_comment_go k q p before false false e f z h = absurd (false≢true (sym z ∙ eq-eqb (brackets before) 0 (no_brackets before h)))

claim_comment : (bytes : List ℕ) (q : Piece) (more : List Piece) (p : Piece) (before : List Piece) (rest : List ℕ) → Cut bytes (q ∷ more ++ p ∷ before) rest → p.shape ≡ Comment
    → Claim (reach before + length p.text) (q ∷ more ++ p ∷ before)
claim_comment bytes q [] p before rest cut c =
    let comment : IsShape Comment p.text = subst (λ s. IsShape s p.text) c cut.1.0.shape in
    let end = comment_line_end p.text rest q comment cut.0.shape cut.1.0.longest in
    claim_comment_go (reach before + length p.text) q p before (brackets before == 0) (has_lexeme (line before)) end c refl refl
claim_comment bytes q (r ∷ more) p before rest cut c =
    let far = reach_there (r ∷ more) before p in let at = cut.0.at in
    claim_step (reach before + length p.text) q (r ∷ more ++ p ∷ before) (omega arith) (claim_comment bytes r more p before (q.text ++ rest) cut.1 c)

-- a tab that is a fault further on stands after the piece
tab_claim : (k n : ℕ) (pieces : List Piece) → Claim k pieces → has_lexeme (line pieces) ≡ false → first_tab (line pieces) ≡ Some n → k ≤ n
tab_claim k n pieces (inl lex) first e = absurd (false≢true (sym first ∙ lex))
tab_claim k n pieces (inr all) first e = tab_from k (line pieces) n all e

lexeme_flat : (s : Shape) → is_lexeme s ≡ true → is_line_end s ≡ false
lexeme_flat s h = (lexeme_is s h).0

pub later_tab : (bytes : List ℕ) (more : List Piece) (p : Piece) (before : List Piece) (rest : List ℕ) (n : ℕ) → Cut bytes (more ++ p ∷ before) rest → ((is_lexeme p.shape ≡ true) ⊎ (p.shape ≡ Comment))
    → BeginsContent (more ++ p ∷ before) rest → first_tab (line (more ++ p ∷ before)) ≡ Some n → reach before + length p.text ≤ n
later_tab bytes more p before rest n cut (inl lex) c e = tab_claim (reach before + length p.text) n (more ++ p ∷ before) (claim_lexeme bytes more p before rest cut lex (lexeme_flat p.shape lex)) c.first e
later_tab bytes [] p before rest n cut (inr comment) c e =
    absurd (comment_content p.text rest (subst (λ s. IsShape s p.text) comment cut.0.shape) cut.0.longest c.content)
later_tab bytes (q ∷ more) p before rest n cut (inr comment) c e = tab_claim (reach before + length p.text) n (q ∷ more ++ p ∷ before) (claim_comment bytes q more p before rest cut comment) c.first e

-- the first fault

-- a fault that is the first of those at its pieces
pub record IsFirstHere (bytes : List ℕ) (valid : ℕ) (before : List Piece) (rest : List ℕ) (n : ℕ) (code : FaultCode) : Type 0 where
  pub fault : FaultBehind bytes before rest n code
  pub early : (n < valid) ⊎ ((n ≡ valid) × (code ≡ FaultCode.Utf8))
  pub least : (m : ℕ) (c : FaultCode) → FaultBehind bytes before rest m c → IsNoLater n code m c
  pub inside : (p : Piece) → IsNext before rest p → n < reach before + length p.text
  pub next : (p : Piece) → IsNext before rest p → (is_lexeme p.shape ≡ true) ⊎ (p.shape ≡ Comment)

pub bad_later : (n : ℕ) (code : FaultCode) (valid m : ℕ) (c : FaultCode) → (n < valid) ⊎ ((n ≡ valid) × (code ≡ FaultCode.Utf8)) → m ≡ valid → c ≡ FaultCode.Utf8 → IsNoLater n code m c
bad_later n code valid m c (inl h) e f = inl (omega arith)
bad_later n code valid m c (inr (h, k)) e f = inr (omega arith, let same : number_of code ≡ number_of c = ap number_of (k ∙ sym f) in omega arith)

module _ (bytes : List ℕ) (valid : ℕ) (before : List Piece) (rest : List ℕ) (n : ℕ) (code : FaultCode) (v : Valid bytes valid) (first : IsFirstHere bytes valid before rest n code) where
  later : (more : List Piece) (p : Piece) (end : List ℕ) (m : ℕ) (c : FaultCode) → IsNext before rest p → Cut bytes (more ++ p ∷ before) end → FaultBehind bytes (more ++ p ∷ before) end m c → IsNoLater n code m c
  later more p end m c next cut x = by_class (class_of bytes (more ++ p ∷ before) end m c x)
    where
      by_class : FaultClass bytes (more ++ p ∷ before) end m c → IsNoLater n code m c
      by_class (at_byte k bad reached ends) = bad_later n code valid m c first.early (v.only m bad) k
      by_class (at_tab k begun there) =
          let inside = first.inside p next in
          let far = later_tab bytes more p before end m cut (first.next p next) begun there in
          inl (omega arith)
      by_class (in_piece k some reached inside' unsound) = let inside = first.inside p next in let far = reach_there more before p in inl (omega arith)

  pub first_of_all : Cut bytes before rest → AreSound before → reach before ≤ valid → (m : ℕ) (c : FaultCode) (count : ℕ) → FaultAt bytes m c count → IsNoLater n code m c
  first_of_all cut sound within m c count x =
      elim (cases_order (length x.before) (length before)) [
        | inl e ↦
            let same = same_cut bytes x.before before x.rest rest e x.cut cut in
            let there : FaultBehind bytes before x.rest m c = subst (λ ps. FaultBehind bytes ps x.rest m c) same.0 x.fault in
            first.least m c (subst (λ r. FaultBehind bytes before r m c) same.1 there)
        | inr (inl shorter) ↦
            let e = extends bytes x.before x.rest before rest shorter x.cut cut in
            let bad = clean bytes x.before x.rest e.next m c e.is_next (sound_there e.more x.before e.next (subst AreSound e.split sound)) x.fault in
            let at = v.only m bad.bad in
            let far = reach_there e.more x.before e.next in
            let whole : reach before ≡ reach (e.more ++ e.next ∷ x.before) = ap reach e.split in
            let inside = bad.before in
            absurd (omega arith)
        | inr (inr longer) ↦
            let e = extends bytes before rest x.before x.rest longer cut x.cut in
            later e.more e.next x.rest m c e.is_next (subst (λ ps. Cut bytes ps x.rest) e.split x.cut) (subst (λ ps. FaultBehind bytes ps x.rest m c) e.split x.fault)
      ]

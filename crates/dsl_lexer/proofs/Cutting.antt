-- The pieces before a rest are unique.
use Rattle.std.proofs.Common.{◌≡◌, ℕ, suc, ◌+◌, ◌<◌, ◌≤◌, inl, inr, List, [], ◌∷◌, ◌++◌, length, take, drop, refl, ap, sym, ◌∙◌, arith}
use Rattle.std.proofs.lemmas.List.{append_assoc, length-append, take_at, drop_at}
use Rattle.std.proofs.lemmas.Bool.{cases_eq}
use Rattle.dsl_lexer.specs.declared.shape.Shape.{Shape}
use Rattle.dsl_lexer.specs.Shapes.{IsShape}
use Rattle.dsl_lexer.specs.Scan.{first_shape}
use Rattle.dsl_lexer.specs.Pieces.{Piece, reach, Stands, Cut}
use Rattle.dsl_lexer.specs.SourceTokens.{AreSound, IsSound, IsNext}
use Rattle.dsl_lexer.proofs.Fitting.{begins}
use Rattle.dsl_lexer.proofs.Fronts.{same_front}

abbrev piece_at : ℕ → Shape → List ℕ → Piece
piece_at at shape text = record { at = at; shape = shape; text = text }

pub piece_same : (p q : Piece) → p.at ≡ q.at → p.shape ≡ q.shape → p.text ≡ q.text → p ≡ q
piece_same p q a s t = ap (λ x. piece_at x p.shape p.text) a ∙ ap (λ x. piece_at q.at x p.text) s ∙ ap (λ x. piece_at q.at q.shape x) t

-- a text has one shape
pub shape_same : (s u : Shape) (text other : List ℕ) → IsShape s text → IsShape u other → text ≡ other → s ≡ u
shape_same s u text other a b e =
    let x = begins s text a in
    let y = begins u other b in
    let heads : x.head ∷ x.tail ≡ y.head ∷ y.tail = sym x.split ∙ e ∙ y.split in
    let head : x.head ≡ y.head = cc in
    sym x.first ∙ ap first_shape head ∙ y.first

pub some_text : (s : Shape) (text : List ℕ) → IsShape s text → 1 ≤ length text
some_text s text h = let x = begins s text h in let e : length text ≡ suc (length x.tail) = ap length x.split in omega arith

-- one piece stands next
pub next_same : (before earlier : List Piece) (p q : Piece) (rest behind : List ℕ) → reach before ≡ reach earlier → Stands before p rest → Stands earlier q behind → p.text ++ rest ≡ q.text ++ behind
    → (p ≡ q) × (rest ≡ behind)
next_same before earlier p q rest behind r a b e =
    let over : length q.text ≤ length p.text = a.longest q.shape q.text behind b.shape e in
    let under : length p.text ≤ length q.text = b.longest p.shape p.text rest a.shape (sym e) in
    let same = same_front p.text rest q.text behind e (omega arith) in
    (piece_same p q (a.at ∙ r ∙ sym b.at) (shape_same p.shape q.shape p.text q.text a.shape b.shape same.0) same.0, same.1)

pub is_next_same : (before : List Piece) (rest : List ℕ) (p q : Piece) → IsNext before rest p → IsNext before rest q → p ≡ q
is_next_same before rest p q a b = (next_same before before p q a.behind b.behind refl a.stands b.stands (sym a.split ∙ b.split)).0

-- two cuts into equally many pieces have equal pieces and equal rests
pub same_cut : (bytes : List ℕ) (xs ys : List Piece) (rest behind : List ℕ) → length xs ≡ length ys → Cut bytes xs rest → Cut bytes ys behind → (xs ≡ ys) × (rest ≡ behind)
same_cut bytes [] [] rest behind n a b = (refl, sym a ∙ b)
same_cut bytes [] (y ∷ ys) rest behind n a b = absurd (omega arith)
same_cut bytes (x ∷ xs) [] rest behind n a b = absurd (omega arith)
same_cut bytes (x ∷ xs) (y ∷ ys) rest behind n a b =
    let earlier = same_cut bytes xs ys (x.text ++ rest) (y.text ++ behind) (omega arith) a.1 b.1 in
    let last = next_same xs ys x y rest behind (ap reach earlier.0) a.0 b.0 earlier.1 in
    (ap (λ p. p ∷ xs) last.0 ∙ ap (λ ps. y ∷ ps) earlier.0, last.1)

-- more pieces go on from fewer
pub record Extends (fewer : List Piece) (rest : List ℕ) (all : List Piece) (end : List ℕ) : Type 0 where
  pub next : Piece
  pub more : List Piece
  pub split : all ≡ more ++ next ∷ fewer
  pub is_next : IsNext fewer rest next
  pub later : Cut (next.text ++ is_next.behind) [] (next.text ++ is_next.behind)

step_on : (bytes : List ℕ) (fewer : List Piece) (rest : List ℕ) (q : Piece) (qs : List Piece) (end : List ℕ) → Cut bytes fewer rest → Stands qs q end → Cut bytes qs (q.text ++ end) → length fewer ≡ length qs → Extends fewer rest (q ∷ qs) end
step_on bytes fewer rest q qs end a s b n =
    let same = same_cut bytes fewer qs rest (q.text ++ end) n a b in
    record {
      next = q;
      more = [];
      split = ap (λ ps. q ∷ ps) (sym same.0);
      is_next = record { behind = end; split = same.1; stands = record { at = s.at ∙ ap reach (sym same.0); shape = s.shape; longest = s.longest } };
      later = refl;
    }

pub extends : (bytes : List ℕ) (fewer : List Piece) (rest : List ℕ) (all : List Piece) (end : List ℕ) → length fewer < length all → Cut bytes fewer rest → Cut bytes all end → Extends fewer rest all end
extends bytes fewer rest [] end n a b = absurd (omega arith)
extends bytes fewer rest (q ∷ qs) end n a b =
    elim (cases_eq (length fewer) (length qs)) [
      | inl e ↦ step_on bytes fewer rest q qs end a b.0 b.1 e
      | inr ne ↦
          let x = extends bytes fewer rest qs (q.text ++ end) (omega arith) a b.1 in
          record { next = x.next; more = q ∷ x.more; split = ap (λ ps. q ∷ ps) x.split; is_next = x.is_next; later = refl }
    ]

pub sound_there : (more before : List Piece) (p : Piece) → AreSound (more ++ p ∷ before) → IsSound p before
sound_there [] before p h = h.0
sound_there (q ∷ more) before p h = sound_there more before p h.1

pub reach_there : (more before : List Piece) (p : Piece) → reach before + length p.text ≤ reach (more ++ p ∷ before)
reach_there [] before p = omega arith
reach_there (q ∷ more) before p = let h = reach_there more before p in omega arith

-- the pieces before
pub record Spelled (bytes : List ℕ) (before : List Piece) (rest : List ℕ) : Type 0 where
  pub front : List ℕ
  pub split : bytes ≡ front ++ rest
  pub size : length front ≡ reach before

pub spelled : (bytes : List ℕ) (before : List Piece) (rest : List ℕ) → Cut bytes before rest → Spelled bytes before rest
spelled bytes [] rest h = record { front = []; split = h; size = refl }
spelled bytes (p ∷ before) rest h =
    let x = spelled bytes before (p.text ++ rest) h.1 in
    record { front = x.front ++ p.text; split = x.split ∙ sym (append_assoc x.front p.text rest); size = length-append x.front p.text ∙ ap (λ n. n + length p.text) x.size }

pub cut_rest : (bytes : List ℕ) (before : List Piece) (rest : List ℕ) → Cut bytes before rest → drop (reach before) bytes ≡ rest
cut_rest bytes before rest h = let x = spelled bytes before rest h in ap (drop (reach before)) x.split ∙ drop_at x.front rest (reach before) x.size

pub cut_front : (bytes : List ℕ) (before : List Piece) (rest : List ℕ) (h : Cut bytes before rest) → take (reach before) bytes ≡ (spelled bytes before rest h).front
cut_front bytes before rest h = let x = spelled bytes before rest h in ap (take (reach before)) x.split ∙ take_at x.front rest (reach before) x.size

pub cut_length : (bytes : List ℕ) (before : List Piece) (rest : List ℕ) → Cut bytes before rest → length bytes ≡ reach before + length rest
cut_length bytes before rest h = let x = spelled bytes before rest h in ap length x.split ∙ length-append x.front rest ∙ ap (λ n. n + length rest) x.size

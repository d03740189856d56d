-- What is put of a line and of a sum, on results.
use Rattle.std.proofs.Common.{◌≡◌, refl, sym, ap, ◌∙◌, subst, ℕ, zero, suc, ◌-◌, ◌≤◌, List, [], ◌∷◌, ◌++◌, length, take, drop, get_or, Option, Result, Ok, Err, OnErr, OnOk, arith}
use Rattle.std.specs.Prelude.{codes}
use Rattle.outside_io.specs.Bytes.{AppendsPart}
use Rattle.outside_io.specs.declared.loops.SinkStop.{SinkStop}
use Rattle.linear_sums.specs.declared.pick.Pick.{Pick}
use Rattle.record_text.specs.declared.page.Piece.{Piece}
use Rattle.record_text.specs.declared.page.Piece.TheVariants as P
use Rattle.record_text.specs.Lines.{IsFewDigits, spelled_picks}
use Rattle.record_text.specs.Pieces.{piece_bytes}
use Rattle.record_text.specs.Written.{Puts}
use Rattle.record_text.proofs.Writing.{part_first, ArePut, pick_put, sum_put, sum_fails_end}

-- what a list has first doesn't depend on what it would have if it had none
pub first_there : {A : Type 0} (xs : List A) (d : A) → 1 ≤ length xs → get_or xs 0 d ≡ get_or xs 0 (get_or xs 0 d)
first_there [] d h = absurd (let never : ⊥ = omega (arith, h) in never)
first_there (x ∷ xs) d h = refl

pub put_next : (picks rest : List Pick) (none : Pick) (c d e : Option (List ℕ)) (p q r : List ℕ) (piece : Piece) → ArePut picks rest c d p q → 1 ≤ length rest
    → piece ≡ P.Pick (get_or rest 0 none).times (get_or rest 0 none).rule → IsFewDigits (get_or rest 0 none).rule → Puts (piece_bytes piece) d q e r
    → ArePut picks (take (length rest - 1) (drop 1 rest)) c e p r
put_next picks rest none c d e p q r piece a some_ is few t =
    pick_put picks rest (get_or rest 0 none) c d p q a some_ (first_there rest none some_) piece e r (ap piece_bytes is) few t

pub part_more : {A : Type 0} (r : Result A SinkStop) (more : List ℕ) (c e : Option (List ℕ)) (p : List ℕ) → OnErr r (AppendsPart c e p) → OnErr r (AppendsPart c e (p ++ more))
part_more (Ok a) more c e p part = tt
part_more (Err f) more c e p part = part_first more c e p part

pub sum_puts : {A : Type 0} (k : Result A SinkStop) (picks : List Pick) (b c d e : Option (List ℕ)) (o p q r : List ℕ) → Puts (codes "sum") b o c p → Puts (spelled_picks picks) c p d q
    → OnOk k (Puts (10 ∷ []) d q e r) → OnOk k (Puts ((codes "sum" ++ spelled_picks picks) ++ 10 ∷ []) b o e r)
sum_puts (Ok a) picks b c d e o p q r t u v = sum_put picks b c d e o p q r t u v
sum_puts (Err f) picks b c d e o p q r t u v = tt

pub sum_part : {A : Type 0} (k : Result A SinkStop) (picks : List Pick) (b c d e : Option (List ℕ)) (o p q : List ℕ) → Puts (codes "sum") b o c p → Puts (spelled_picks picks) c p d q
    → OnErr k (AppendsPart d e q) → OnErr k (AppendsPart b e (o ++ ((codes "sum" ++ spelled_picks picks) ++ 10 ∷ [])))
sum_part (Ok a) picks b c d e o p q t u part = tt
sum_part (Err f) picks b c d e o p q t u part = sum_fails_end picks b c d e o p q t u part

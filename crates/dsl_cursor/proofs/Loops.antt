-- The invariant of a loop that reads the items of a row.
use Rattle.std.proofs.Common.{◌≡◌, ◌≢◌, ℕ, List, [], ◌∷◌, ◌++◌, sym, ◌∙◌, ap, subst, append_assoc, Result, Ok, Err, IfErr}
use Rattle.std.proofs.lemmas.Bool.{false≢true}
use Rattle.std.proofs.lemmas.List.{append-nil}
use Rattle.dsl_cursor.specs.Words.{IsErr, IsErrAnd, Stop, Memory, Token, Part, Forest, read, Gives, Grows, IsRow}

-- What is read of the rest of the row is read of the whole of it, with the items so far before it.
pub record Along {X : Type 0} (p : Part) (rest : List X → Forest) (begun so_far : List X) (old now : List Token) : Type 0 where
  pub added : List X
  pub split : so_far ≡ begun ++ added
  pub reads : (others : List X) (end : List Token) → read p now ≡ Ok (rest others, end) → read p old ≡ Ok (rest (added ++ others), end)
  pub fails : (e : Stop ℕ) → read p now ≡ Err e → read p old ≡ Err e

pub start : {X : Type 0} (p : Part) (rest : List X → Forest) (begun : List X) (old : List Token) → Along p rest begun begun old old
start p rest begun old = record { added = []; split = sym (append-nil begun); reads = λ others end h. h; fails = λ e h. h }

pub step : {X : Type 0} (p : Part) (rest : List X → Forest) (begun so_far grown : List X) (old now new : List Token) (item : X) → Along p rest begun so_far old now → Grows p rest now item new → grown ≡ so_far ++ item ∷ [] → Along p rest begun grown old new
step {X = X} p rest begun so_far grown old now new item along (less, reads, fails) grows = record {
  added = along.added ++ item ∷ [];
  split = grows ∙ (ap (λ (v : List X). v ++ item ∷ []) along.split ∙ append_assoc begun along.added (item ∷ []));
  reads = λ others end h. subst (λ (v : List X). read p old ≡ Ok (rest v, end)) (sym (append_assoc along.added (item ∷ []) others)) (along.reads (item ∷ others) end (reads others end h));
  fails = λ e h. along.fails e (fails e h);
}

pub finish : {X : Type 0} (p : Part) (rest : List X → Forest) (begun so_far : List X) (old now new : List Token) → Along p rest begun so_far old now → read p now ≡ Ok (rest [], new) → IsRow p rest begun so_far old new
finish {X = X} p rest begun so_far old now new along h = record {
  others = along.added;
  split = along.split;
  reads = subst (λ (v : List X). read p old ≡ Ok (rest v, new)) (append-nil along.added) (along.reads [] new h);
}

-- a row that began with no item
pub whole : {X : Type 0} (p : Part) (rest : List X → Forest) (so_far : List X) (old now new : List Token) → Along p rest [] so_far old now → read p now ≡ Ok (rest [], new) → read p old ≡ Ok (rest so_far, new)
whole {X = X} p rest so_far old now new along h =
    let row : IsRow p rest [] so_far old new = finish p rest [] so_far old now new along h in
    subst (λ (v : List X). read p old ≡ Ok (rest v, new)) (sym row.split) row.reads

pub stop : {X : Type 0} (p : Part) (rest : List X → Forest) (begun so_far : List X) (old now : List Token) (e : Stop ℕ) → Along p rest begun so_far old now → (e ≢ Memory → read p now ≡ Err e) → e ≢ Memory → read p old ≡ Err e
stop p rest begun so_far old now e along h some = along.fails e (h some)

-- `?` hands on the stop of what was called
pub raise : {A : Type 0} (r : Result A (Stop ℕ)) (e : Stop ℕ) (P : Stop ℕ → Type 0) → IsErr r × IsErrAnd r (λ d. d ≡ e) → P e → IfErr r P
raise (Ok x) e P h p = tt
raise (Err d) e P h p = subst P (sym h.1) p

pub raise_gives : {A B : Type 0} (view : A → B) (outcome : Result (B × List Token) (Stop ℕ)) (r : Result A (Stop ℕ)) (e : Stop ℕ) (new : List Token) → IsErr r × IsErrAnd r (λ d. d ≡ e) → (e ≢ Memory → outcome ≡ Err e) → Gives view outcome r new
raise_gives view outcome (Ok x) e new h p = absurd (false≢true h.0)
raise_gives view outcome (Err d) e new h p = subst (λ (x : Stop ℕ). x ≢ Memory → outcome ≡ Err x) (sym h.1) p

-- Going through rows of faults.
use Rattle.std.proofs.Common.{◌≡◌, ◌∙◌, sym, ap, ℕ, ◌+◌, ◌<◌, ◌||◌, List, ◌∷◌, ◌++◌, Option, Result, Ok, Err, IfOk, append_assoc, drop, length, get_or, bytes_eq}
use Rattle.std.specs.List.{list_any}
use Rattle.std.proofs.lemmas.List.{drop_more}
use Rattle.type_heads.specs.osc_base.declared.fault.Fault.{Fault}
use Rattle.type_heads.specs.osc_base.FaultRows.{FaultRow, first_from}
use Rattle.fault_sets.specs.NameRows.{HasTexts}
use Rattle.type_heads.proofs.of_osc_base.FaultRows.{first_from_joined}

-- some rows are done, and others are left
pub done : (rs later : List FaultRow) (found found' goal : Option Fault) → found' ≡ first_from found rs → goal ≡ first_from found (rs ++ later) → goal ≡ first_from found' later
done rs later found found' goal more rest = rest ∙ first_from_joined found rs later ∙ ap (λ f. first_from f later) (sym more)

-- some rows, and others after them
pub two : (rs ss : List FaultRow) (first middle last : Option Fault) → middle ≡ first_from first rs → last ≡ first_from middle ss → last ≡ first_from first (rs ++ ss)
two rs ss first middle last one more = more ∙ ap (λ f. first_from f ss) one ∙ sym (first_from_joined first rs ss)

-- what is left of a list begins with the item of a loop
pub left_is : {X : Type 0} (xs : List X) (i : ℕ) (x : X) → i < length xs → x ≡ get_or xs i x → drop i xs ≡ x ∷ drop (i + 1) xs
left_is xs i x less is = drop_more xs i x less ∙ ap (λ y. y ∷ drop (i + 1) xs) (sym is)

-- some are put at the end, and the rest is left
pub more_put : (goal old new one rest : List ℕ) → new ≡ old ++ one → goal ≡ old ++ (one ++ rest) → goal ≡ new ++ rest
more_put goal old new one rest e h = h ∙ sym (append_assoc old one rest) ∙ ap (λ xs. xs ++ rest) (sym e)

pub one_text_more : (set set' earlier : List (List ℕ)) (text : List ℕ) → HasTexts set earlier →
    ((other : List ℕ) → list_any (bytes_eq other) set' ≡ (bytes_eq other text || list_any (bytes_eq other) set)) → HasTexts set' (text ∷ earlier)
one_text_more set set' earlier text has more other = more other ∙ ap (λ b. bytes_eq other text || b) (has other)

-- one fact of a result follows from another
pub if_ok : {X E : Type 0} (P Q : X → Type 0) → ((x : X) → P x → Q x) → (r : Result X E) → IfOk r P → IfOk r Q
if_ok P Q more (Ok x) h = more x h
if_ok P Q more (Err e) h = tt

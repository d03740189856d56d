-- The first label of a name, by the place of the name.
use Rattle.std.proofs.Common.{◌≡◌, ◌∙◌, refl, sym, ap, ℕ, ◌+◌, ◌≤◌, List, [], ◌∷◌, ◌++◌, Bool, true, false, cond, Option, Some, None, Bor, arith, length, length-append, append_assoc, bytes_eq, map, option_copied}
use Rattle.std.specs.Prelude.{slice_get, find, option_and_then, option_map}
use Rattle.std.specs.Slice.{IsItemAt}
use Rattle.std.proofs.lemmas.Slice.Eq.{bytes_eq-Decides}
use Rattle.std.proofs.lemmas.Option.{slice_get_past, slice_get-get_or}
use Rattle.type_model.specs.name_scope.Declaring.{first_place}
use Rattle.expr_nodes.specs.declared.labels.Label.{Label}
use Rattle.expr_nodes.specs.declared.ways.Turn.{Turn}
use Rattle.expr_nodes.specs.Scope as Seen
use Rattle.expr_nodes.specs.SeenNames.{seen_label}

-- a test that is turned round
same_test : (r s : Bool) → (r ≡ true → s ≡ true) → (s ≡ true → r ≡ true) → r ≡ s
same_test true true f g = refl
same_test true false f g = sym (f refl)
same_test false true f g = g refl
same_test false false f g = refl

text_turned : (a b : List ℕ) → bytes_eq a b ≡ bytes_eq b a
text_turned a b =
    same_test (bytes_eq a b) (bytes_eq b a)
    (λ e. (bytes_eq-Decides b a).1 (sym ((bytes_eq-Decides a b).0 e)))
    (λ e. (bytes_eq-Decides a b).1 (sym ((bytes_eq-Decides b a).0 e)))

at_end : (before : List Label) (x : Label) (xs : List Label) → slice_get (before ++ x ∷ xs) (length before) ≡ Some x
at_end [] x xs = refl
at_end (b ∷ bs) x xs = at_end bs x xs

find_from : (name : List ℕ) (before xs : List Label)
    → find (λ (l : Label). bytes_eq l.name name) xs ≡ option_and_then (slice_get (before ++ xs)) (first_place (bytes_eq name) (length before) (map (λ (l : Label). l.name) xs))
find_from name before [] = refl
find_from name before (x ∷ xs) =
    ap (λ b. cond b (Some x) (find (λ (l : Label). bytes_eq l.name name) xs)) (text_turned x.name name) ∙ by (bytes_eq name x.name) (find_from name (before ++ x ∷ []) xs)
  where
    longer : length (before ++ x ∷ []) ≡ length before + 1
    longer = length-append before (x ∷ [])

    by : (b : Bool)
        → find (λ (l : Label). bytes_eq l.name name) xs ≡ option_and_then (slice_get ((before ++ x ∷ []) ++ xs)) (first_place (bytes_eq name) (length (before ++ x ∷ [])) (map (λ (l : Label). l.name) xs))
        → cond b (Some x) (find (λ (l : Label). bytes_eq l.name name) xs)
        ≡ option_and_then (slice_get (before ++ x ∷ xs)) (cond b (Some (length before)) (first_place (bytes_eq name) (length before + 1) (map (λ (l : Label). l.name) xs)))
    by true h = sym (at_end before x xs)
    by false h = h ∙ (λ k. option_and_then (slice_get (append_assoc before (x ∷ []) xs k)) (first_place (bytes_eq name) (longer k) (map (λ (l : Label). l.name) xs)))

-- the first label of a name stands at the first place of the name
pub found_at : (name : List ℕ) (labels : List Label) (names : List (List ℕ)) (place : Option ℕ) → names ≡ map (λ (l : Label). l.name) labels → place ≡ first_place (bytes_eq name) 0 names
    → option_and_then (slice_get labels) place ≡ find (λ (l : Label). bytes_eq l.name name) labels
found_at name labels names place are is =
    ap (option_and_then (slice_get labels)) (is ∙ ap (first_place (bytes_eq name) 0) are) ∙ sym (find_from name [] labels)

-- what stands at a place
pub label_at : (labels : List Label) (i : ℕ) (r : Option (Bor Label)) → IsItemAt labels i r → option_copied r ≡ slice_get labels i
label_at labels i None h = sym (slice_get_past labels i h.3)
label_at labels i (Some x) h = let n : i ≤ i = omega arith in ap Some (h.4 n x.now) ∙ sym (slice_get-get_or labels i x.now h.3.0)

-- the first label of a name, as it is seen from a way
pub found_seen : (way : List Turn) (name : List ℕ) (labels : List Label)
    → option_map (seen_label way) (find (λ (l : Label). bytes_eq l.name name) labels) ≡ find (λ (l : Seen.Label). bytes_eq l.name name) (map (seen_label way) labels)
found_seen way name [] = refl
found_seen way name (x ∷ xs) = by (bytes_eq x.name name) (found_seen way name xs)
  where
    by : (b : Bool) → option_map (seen_label way) (find (λ (l : Label). bytes_eq l.name name) xs) ≡ find (λ (l : Seen.Label). bytes_eq l.name name) (map (seen_label way) xs)
        → option_map (seen_label way) (cond b (Some x) (find (λ (l : Label). bytes_eq l.name name) xs))
        ≡ cond b (Some (seen_label way x)) (find (λ (l : Seen.Label). bytes_eq l.name name) (map (seen_label way) xs))
    by true h = refl
    by false h = h

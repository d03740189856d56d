-- Base units in brackets: what is mentioned before, and what is left.
use Rattle.std.proofs.Common.{◌≡◌, ◌∙◌, refl, sym, ap, ℕ, ◌<◌, ◌+◌, Bool, true, false, ◌||◌, ◌&&◌, List, [], ◌∷◌, ◌++◌, map, take, drop, get_or, length, bytes_eq, reverse}
use Rattle.std.specs.Prelude.{not}
use Rattle.std.specs.List.{list_any}
use Rattle.std.proofs.lemmas.List.{take_more, drop_more, map-append, reverse-append}
use Rattle.std.proofs.lemmas.List.Folds.{list_any-append}
use Rattle.name_scope.specs.dsl_tree.declared.units.BasePart.{BasePart}
use Rattle.type_heads.specs.Units.{are_bases, is_base_unit}

-- the names of some parts, the last one first
abbrev pub names_before : List BasePart → List (List ℕ)
names_before parts = reverse (map (λ (p : BasePart). p.name.text) parts)

names_more : (parts : List BasePart) (p : BasePart) → names_before (parts ++ p ∷ []) ≡ p.name.text ∷ names_before parts
names_more parts p = ap reverse (map-append (λ (p : BasePart). p.name.text) parts (p ∷ [])) ∙ reverse-append (map (λ (p : BasePart). p.name.text) parts) (p.name.text ∷ [])

or_last : (a b : Bool) → (a || (b || false)) ≡ (b || a)
or_last true true = refl
or_last true false = refl
or_last false true = refl
or_last false false = refl

and_assoc : (a b c : Bool) → (a && (b && c)) ≡ ((a && b) && c)
and_assoc true b c = refl
and_assoc false b c = refl

any_before : (name : List ℕ) (parts : List BasePart) → list_any (bytes_eq name) (names_before parts) ≡ list_any (λ (p : BasePart). bytes_eq name p.name.text) parts
any_before name [] = refl
any_before name (p ∷ ps) =
    let names = map (λ (q : BasePart). q.name.text) ps in
    ap (list_any (bytes_eq name)) (reverse-append (p.name.text ∷ []) names)
    ∙ list_any-append (bytes_eq name) (reverse names) (p.name.text ∷ [])
    ∙ ap (λ a. a || (bytes_eq name p.name.text || false)) (any_before name ps)
    ∙ or_last (list_any (λ (q : BasePart). bytes_eq name q.name.text) ps) (bytes_eq name p.name.text)

pub bases_next : (parts : List BasePart) (i : ℕ) (p : BasePart) (b : Bool) → i < length parts → p ≡ get_or parts i p →
    b ≡ (is_base_unit p.name.text && not (list_any (λ (q : BasePart). bytes_eq p.name.text q.name.text) (take i parts))) →
    are_bases (names_before (take i parts)) (drop i parts) ≡ (b && are_bases (names_before (take (i + 1) parts)) (drop (i + 1) parts))
bases_next parts i p b within is fresh =
    let earlier = names_before (take i parts) in
    let later = drop (i + 1) parts in
    let name = p.name.text in
    let more : names_before (take (i + 1) parts) ≡ name ∷ earlier
    = ap names_before (take_more parts i p within ∙ ap (λ q. take i parts ++ q ∷ []) (sym is)) ∙ names_more (take i parts) p in
    ap (are_bases earlier) (drop_more parts i p within ∙ ap (λ q. q ∷ later) (sym is))
    ∙ ap (λ a. is_base_unit name && (not a && are_bases (name ∷ earlier) later)) (any_before name (take i parts))
    ∙ ap (λ e. is_base_unit name && (not (list_any (λ (q : BasePart). bytes_eq name q.name.text) (take i parts)) && are_bases e later)) (sym more)
    ∙ and_assoc (is_base_unit name) (not (list_any (λ (q : BasePart). bytes_eq name q.name.text) (take i parts))) (are_bases (names_before (take (i + 1) parts)) later)
    ∙ ap (λ a. a && are_bases (names_before (take (i + 1) parts)) later) (sym fresh)

-- a fault ends the walk, and without one it goes on
pub bases_end : (a b rest : Bool) → a ≡ (b && rest) → b ≡ false → false ≡ a
bases_end a b rest is none = sym (is ∙ ap (λ c. c && rest) none)

pub bases_on : (a b rest : Bool) → a ≡ (b && rest) → b ≡ true → a ≡ rest
bases_on a b rest is some = is ∙ ap (λ c. c && rest) some

pub bases_fresh : (parts : List BasePart) (i k : ℕ) (p : BasePart) (name : List ℕ) (b : Bool) → name ≡ p.name.text → k ≡ i →
    b ≡ (is_base_unit name && not (list_any (λ (q : BasePart). bytes_eq name q.name.text) (take k parts))) →
    b ≡ (is_base_unit p.name.text && not (list_any (λ (q : BasePart). bytes_eq p.name.text q.name.text) (take i parts)))
bases_fresh parts i k p name b same count is =
    is ∙ ap (λ n. is_base_unit n && not (list_any (λ (q : BasePart). bytes_eq n q.name.text) (take k parts))) same
    ∙ ap (λ j. is_base_unit p.name.text && not (list_any (λ (q : BasePart). bytes_eq p.name.text q.name.text) (take j parts))) count

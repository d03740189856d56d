-- The texts of a program are in order, each once.
use Rattle.std.proofs.Common.{◌≡◌, ℕ, refl, sym, ap, ◌∙◌, subst, ◌⊎◌, inl, inr, List, [], ◌∷◌, true, false, ◌&&◌, not, cond, length, arith}
use Rattle.std.specs.Prelude.{⊤, bytes_eq, nat_lt, flat_map}
use Rattle.std.specs.List.{list_any, fold}
use Rattle.std.specs.Ordering.{is_lt, is_eq, nat_cmp, ordering_reverse}
use Rattle.std.specs.declared.cmp.Ordering.{Ordering}
use Rattle.std.specs.Cmp.Lexicographic.{slice_cmp}
use Rattle.std.proofs.lemmas.Cmp.{nat_list_cmp_total}
use Rattle.std.proofs.lemmas.Map.Text.{is_eq-slice_cmp}
use Rattle.expansion_laws.specs.dsl_tree.FileTree.{FileTree}
use Rattle.expansion_laws.specs.type_heads.Texts.{texts_in, declaration_exprs, with_text, texts_of}
use Rattle.expansion_laws.specs.composition.Invariants.{are_texts}
use Rattle.field_flatten.proofs.Tests.{In, both}

abbrev order : List ℕ → List ℕ → Ordering
order a b = slice_cmp nat_cmp a b

-- each text comes before those after it
abbrev Ordered : List (List ℕ) → Type 0
Ordered [] = ⊤
Ordered (t ∷ ts) = ((u : List ℕ) → In u ts → order t u ≡ Ordering.Less) × Ordered ts

-- of what a list with a text more consists
placed_in : (ts : List (List ℕ)) (text u : List ℕ) → In u (with_text ts text) → (u ≡ text) ⊎ In u ts
placed_in [] text u (inl e) = inl e
placed_in [] text u (inr i) = absurd i
placed_in (t ∷ ts) text u i = by (order text t) i (placed_in ts text u)
  where
    by : (o : Ordering) → In u (cond (is_lt o) (text ∷ t ∷ ts) (cond (is_eq o) (t ∷ ts) (t ∷ with_text ts text))) → (In u (with_text ts text) → (u ≡ text) ⊎ In u ts) → (u ≡ text) ⊎ In u (t ∷ ts)
    by Ordering.Less (inl e) f = inl e
    by Ordering.Less (inr j) f = inr j
    by Ordering.Equal j f = inr j
    by Ordering.Greater (inl e) f = inr (inl e)
    by Ordering.Greater (inr j) f = elim (f j) as (λ _. (u ≡ text) ⊎ In u (t ∷ ts)) [ inl e ↦ inl e | inr k ↦ inr (inr k) ]

reversed : (a b : List ℕ) → order a b ≡ Ordering.Greater → order b a ≡ Ordering.Less
reversed a b h = nat_list_cmp_total.antisymm b a ∙ ap ordering_reverse h

with_ordered : (ts : List (List ℕ)) (text : List ℕ) → Ordered ts → Ordered (with_text ts text)
with_ordered [] text h = (λ u i. absurd i, tt)
with_ordered (t ∷ ts) text h = by (order text t) refl (with_ordered ts text h.1)
  where
    by : (o : Ordering) → order text t ≡ o → Ordered (with_text ts text) → Ordered (cond (is_lt o) (text ∷ t ∷ ts) (cond (is_eq o) (t ∷ ts) (t ∷ with_text ts text)))
    by Ordering.Less e rest = (first, h)
      where
        first : (u : List ℕ) → In u (t ∷ ts) → order text u ≡ Ordering.Less
        first u (inl same) = subst (λ z. order text z ≡ Ordering.Less) (sym same) e
        first u (inr i) = nat_list_cmp_total.trans text t u e (h.0 u i)
    by Ordering.Equal e rest = h
    by Ordering.Greater e rest = (first, rest)
      where
        first : (u : List ℕ) → In u (with_text ts text) → order t u ≡ Ordering.Less
        first u i = elim (placed_in ts text u i) as (λ _. order t u ≡ Ordering.Less) [
          | inl same ↦ subst (λ z. order t z ≡ Ordering.Less) (sym same) (reversed text t e)
          | inr j ↦ h.0 u j
        ]

filled : (t : List ℕ) (ts : List (List ℕ)) → nat_lt 0 (length (t ∷ ts)) ≡ true
filled t ts = grind arith

-- a list with a text more isn't empty
with_some : (ts : List (List ℕ)) (text : List ℕ) → nat_lt 0 (length (with_text ts text)) ≡ true
with_some [] text = refl
with_some (t ∷ ts) text = by (order text t)
  where
    by : (o : Ordering) → nat_lt 0 (length (cond (is_lt o) (text ∷ t ∷ ts) (cond (is_eq o) (t ∷ ts) (t ∷ with_text ts text)))) ≡ true
    by Ordering.Less = filled text (t ∷ ts)
    by Ordering.Equal = filled t ts
    by Ordering.Greater = filled t (with_text ts text)

record AreOrdered (ts : List (List ℕ)) : Type 0 where
  ordered : Ordered ts
  some : nat_lt 0 (length ts) ≡ true

all_ordered : (texts ts : List (List ℕ)) → AreOrdered ts → AreOrdered (fold with_text ts texts)
all_ordered [] ts a = a
all_ordered (text ∷ texts) ts a = all_ordered texts (with_text ts text) (record { ordered = with_ordered ts text a.ordered; some = with_some ts text })

different : (t : List ℕ) (us : List (List ℕ)) → ((u : List ℕ) → In u us → order t u ≡ Ordering.Less) → list_any (bytes_eq t) us ≡ false
different t [] f = refl
different t (u ∷ us) f =
    let first : bytes_eq t u ≡ false = sym (is_eq-slice_cmp t u) ∙ ap is_eq (f u (inl refl)) in
    rw first (different t us (λ v i. f v (inr i)))

ordered_texts : (ts : List (List ℕ)) → Ordered ts → are_texts ts ≡ true
ordered_texts [] h = refl
ordered_texts (t ∷ ts) h = both (not (list_any (bytes_eq t) ts)) (are_texts ts) (rw (different t ts h.0) refl) (ordered_texts ts h.1)

-- the texts of a program are distinct, and there is one
pub program_texts : (files : List FileTree) → (are_texts (texts_of files) && nat_lt 0 (length (texts_of files))) ≡ true
program_texts files =
    let all = all_ordered (flat_map (λ (f : FileTree). flat_map (λ d. flat_map texts_in (declaration_exprs d)) f.decls) files) ([] ∷ []) (record { ordered = (λ u i. absurd i, tt); some = refl }) in
    both (are_texts (texts_of files)) (nat_lt 0 (length (texts_of files))) (ordered_texts (texts_of files) all.ordered) all.some

-- The extensions of each type, with one declaration more.
use Rattle.std.proofs.Common.{◌≡◌, ◌≢◌, ◌∙◌, refl, sym, ap, ℕ, ◌<◌, ◌+◌, ◌⊎◌, inl, inr, Bool, true, false, cond, List, [], ◌∷◌, ◌++◌, Option, Some, None, eqb, length, take, get_or, set, filter, replicate}
use Rattle.std.proofs.lemmas.List.{length-set, take_more, append-nil, get_or-set_same, get_or-set_other, get_or-replicate}
use Rattle.std.proofs.lemmas.List.Elements.{filter-append}
use Rattle.std.proofs.lemmas.Bool.Decides.{eqb_tells}
use Rattle.std.specs.Option.{option_map_or}
use Rattle.type_heads.specs.Table.{TypeHead}
use Rattle.type_heads.specs.Placing.{seen_placed}
use Rattle.type_heads.specs.Extending.{extends, type_extended}
use Rattle.type_heads.specs.Grouped.{AreGrouped, put_at}
use Rattle.type_heads.specs.declared.placed.PlacedDecl.{PlacedDecl}

pub grouped_none : (heads : List TypeHead) (count : ℕ) (placed : List PlacedDecl) → AreGrouped heads count (take 0 placed) (replicate count [])
grouped_none heads count placed t less = get_or-replicate count t [] [] less

module _ (heads : List TypeHead) (count i : ℕ) (placed : List PlacedDecl) (p : PlacedDecl) (added : List (List PlacedDecl))
    (within : i < length placed) (is : p ≡ get_or placed i p) (grouped : AreGrouped heads count (take i placed) added) where
  abbrev test : ℕ → PlacedDecl → Bool
  test t q = extends heads t (seen_placed q)

  more : (t : ℕ) → filter (test t) (take (i + 1) placed) ≡ filter (test t) (take i placed) ++ filter (test t) (p ∷ [])
  more t = ap (filter (test t)) (take_more placed i p within) ∙ filter-append (test t) (take i placed) (get_or placed i p ∷ [])
      ∙ ap (λ q. filter (test t) (take i placed) ++ filter (test t) (q ∷ [])) (sym is)

  grouped_same : type_extended heads (seen_placed p).declaration ≡ None → AreGrouped heads count (take (i + 1) placed) added
  grouped_same none t less =
      grouped t less ∙ sym (append-nil (filter (test t) (take i placed)))
      ∙ ap (λ b. filter (test t) (take i placed) ++ cond b (p ∷ []) []) (sym (ap (λ o. option_map_or (eqb t) o false) none)) ∙ sym (more t)

  grouped_more : (u : ℕ) → type_extended heads (seen_placed p).declaration ≡ Some u → length added ≡ count →
      AreGrouped heads count (take (i + 1) placed) (set added u (get_or added u [] ++ p ∷ []))
  grouped_more u some size t less = by (eqb_tells t u) ∙ sym (more t)
    where
      passes : (b : Bool) → eqb t u ≡ b → filter (test t) (take i placed) ++ cond b (p ∷ []) [] ≡ filter (test t) (take i placed) ++ filter (test t) (p ∷ [])
      passes b e = ap (λ b. filter (test t) (take i placed) ++ cond b (p ∷ []) []) (sym e ∙ sym (ap (λ o. option_map_or (eqb t) o false) some))

      by : ((eqb t u ≡ true) × (t ≡ u)) ⊎ ((eqb t u ≡ false) × (t ≢ u)) →
          get_or (set added u (get_or added u [] ++ p ∷ [])) t [] ≡ filter (test t) (take i placed) ++ filter (test t) (p ∷ [])
      by (inl (e, same)) =
          let inside : u < length added = rw (← same, size) less in
          ap (λ k. get_or (set added u (get_or added u [] ++ p ∷ [])) k []) same
          ∙ get_or-set_same added u (get_or added u [] ++ p ∷ []) [] inside
          ∙ ap (λ k. get_or added k [] ++ p ∷ []) (sym same)
          ∙ ap (λ xs. xs ++ p ∷ []) (grouped t less) ∙ passes true e
      by (inr (e, other)) =
          get_or-set_other added u t (get_or added u [] ++ p ∷ []) [] other ∙ grouped t less
          ∙ sym (append-nil (filter (test t) (take i placed))) ∙ passes false e

  pub grouped_put : length added ≡ count → AreGrouped heads count (take (i + 1) placed) (put_at (type_extended heads (seen_placed p).declaration) p added)
  grouped_put size = by (type_extended heads (seen_placed p).declaration) refl
    where
      by : (o : Option ℕ) → type_extended heads (seen_placed p).declaration ≡ o → AreGrouped heads count (take (i + 1) placed) (put_at o p added)
      by None e = grouped_same e
      by (Some u) e = grouped_more u e size

pub put_keeps : (o : Option ℕ) (p : PlacedDecl) (rows : List (List PlacedDecl)) → length (put_at o p rows) ≡ length rows
put_keeps None p rows = refl
put_keeps (Some t) p rows = length-set rows t (get_or rows t [] ++ p ∷ [])

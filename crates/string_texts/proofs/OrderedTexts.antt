-- A text put into a set is put into the list of its texts.
use Rattle.std.proofs.Common.{◌≡◌, refl, ap, ℕ, cond, List, [], ◌∷◌, map}
use Rattle.std.specs.Ordering.{is_lt, is_eq, match_ordering, nat_cmp}
use Rattle.std.specs.declared.cmp.Ordering.{Ordering}
use Rattle.std.specs.declared.cmp.Ordering.TheVariants.{Less, Equal, Greater}
use Rattle.std.specs.Cmp.Lexicographic.{slice_cmp}
use Rattle.std.specs.BTreeSet.{insert_key}
use denote.Ref.{Bor}
use Rattle.type_heads.specs.Texts.{with_text}

abbrev order : Bor (List ℕ) → Bor (List ℕ) → Ordering
order a b = slice_cmp nat_cmp a.now b.now

pub put_is : (keys : List (Bor (List ℕ))) (key : Bor (List ℕ)) →
    map (λ (t : Bor (List ℕ)). t.now) (insert_key order keys key) ≡ with_text (map (λ (t : Bor (List ℕ)). t.now) keys) key.now
put_is [] key = refl
put_is (x ∷ xs) key = by (order key x) (put_is xs key)
  where
    by : (o : Ordering) → map (λ (t : Bor (List ℕ)). t.now) (insert_key order xs key) ≡ with_text (map (λ (t : Bor (List ℕ)). t.now) xs) key.now →
        map (λ (t : Bor (List ℕ)). t.now) (match_ordering o (key ∷ x ∷ xs) (x ∷ xs) (x ∷ insert_key order xs key))
        ≡ cond (is_lt o) (key.now ∷ x.now ∷ map (λ (t : Bor (List ℕ)). t.now) xs)
        (cond (is_eq o) (x.now ∷ map (λ (t : Bor (List ℕ)). t.now) xs) (x.now ∷ with_text (map (λ (t : Bor (List ℕ)). t.now) xs) key.now))
    by Less rest = refl
    by Equal rest = refl
    by Greater rest = ap (λ ts. x.now ∷ ts) rest

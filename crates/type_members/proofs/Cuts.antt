-- Items that pass a test and stand together are told by those around them.
use Rattle.std.proofs.Common.{◌≡◌, ◌∙◌, refl, sym, ap, true≢false, Bool, true, false, not, List, [], ◌∷◌, ◌++◌, ℕ, suc, ◌-◌, ◌<◌, arith, length, map, slice_index_or}
use Rattle.std.specs.List.{list_all, list_any}
use Rattle.std.specs.Prelude.{flat_map}
use Rattle.type_members.specs.Cutting.{begins, ends}
use Rattle.type_members.proofs.ListTests.{both, joined, neither, not_true}

module _ {X : Type 0} (p : X → Bool) where
  abbrev fails : X → Bool
  fails x = not (p x)

  head_of : (x y : X) (xs ys : List X) → x ∷ xs ≡ y ∷ ys → x ≡ y
  head_of x y xs ys e = cc

  tail_of : (x y : X) (xs ys : List X) → x ∷ xs ≡ y ∷ ys → xs ≡ ys
  tail_of x y xs ys e = cc

  never : (b : Bool) → b ≡ true → not b ≡ true → ⊥
  never true e f = true≢false (sym f)
  never false e f = true≢false (sym e)

  -- a list that begins with one that passes isn't the end of one of which none passes
  none_begins : (xs ys zs : List X) → xs ++ ys ≡ zs → list_all fails zs ≡ true → begins p ys ≡ true → ⊥
  none_begins [] [] zs e f b = true≢false (sym b)
  none_begins [] (y ∷ ys) [] e f b = absurd (cc e)
  none_begins [] (y ∷ ys) (z ∷ zs) e f b =
      let parts : (not (p z) ≡ true) × (list_all fails zs ≡ true) = both (not (p z)) (list_all fails zs) f in
      never (p z) (ap p (sym (head_of y z ys zs e)) ∙ b) parts.0
  none_begins (x ∷ xs) ys [] e f b = absurd (cc e)
  none_begins (x ∷ xs) ys (z ∷ zs) e f b =
      let parts : (not (p z) ≡ true) × (list_all fails zs ≡ true) = both (not (p z)) (list_all fails zs) f in
      none_begins xs ys zs (tail_of x z (xs ++ ys) zs e) parts.1 b

  -- what comes before one that passes is of those that pass, if all that pass come first
  all_before : (xs ys ins outs : List X) → xs ++ ys ≡ ins ++ outs → list_all p ins ≡ true → list_all fails outs ≡ true → begins p ys ≡ true → list_all p xs ≡ true
  all_before [] ys ins outs e f g b = refl
  all_before (x ∷ xs) ys [] outs e f g b = absurd (none_begins (x ∷ xs) ys outs e g b)
  all_before (x ∷ xs) ys (i ∷ ins) outs e f g b =
      let parts : (p i ≡ true) × (list_all p ins ≡ true) = both (p i) (list_all p ins) f in
      joined (p x) (list_all p xs) (ap p (head_of x i (xs ++ ys) (ins ++ outs) e) ∙ parts.0)
      (all_before xs ys ins outs (tail_of x i (xs ++ ys) (ins ++ outs) e) parts.1 g b)

  all_end : (x : X) (xs : List X) → list_all p (x ∷ xs) ≡ true → ends p (x ∷ xs) ≡ true
  all_end x [] f = (both (p x) true f).0
  all_end x (y ∷ ys) f = all_end y ys (both (p x) (list_all p (y ∷ ys)) f).1

  ends_less : (x : X) (xs : List X) → ends p (x ∷ xs) ≡ false → ends p xs ≡ false
  ends_less x [] e = refl
  ends_less x (y ∷ ys) e = e

  -- the first are those before all that pass, if none of them is the last to pass and one that passes comes next
  pub same_first : (xs ys first ins outs : List X) → xs ++ ys ≡ first ++ (ins ++ outs) → list_all fails first ≡ true → list_all p ins ≡ true → list_all fails outs ≡ true →
      ends p xs ≡ false → begins p ys ≡ true → (xs ≡ first) × (ys ≡ ins ++ outs)
  same_first [] ys [] ins outs e f g h last b = (refl, e)
  same_first [] [] (z ∷ zs) ins outs e f g h last b = absurd (true≢false (sym b))
  same_first [] (y ∷ ys) (z ∷ zs) ins outs e f g h last b =
      absurd (never (p z) (ap p (sym (head_of y z ys (zs ++ (ins ++ outs)) e)) ∙ b) (both (not (p z)) (list_all fails zs) f).0)
  same_first (x ∷ xs) ys [] ins outs e f g h last b =
      absurd (true≢false (sym (all_end x xs (all_before (x ∷ xs) ys ins outs e g h b)) ∙ last))
  same_first (x ∷ xs) ys (z ∷ zs) ins outs e f g h last b =
      let rest : (xs ≡ zs) × (ys ≡ ins ++ outs) =
      same_first xs ys zs ins outs (tail_of x z (xs ++ ys) (zs ++ (ins ++ outs)) e) (both (not (p z)) (list_all fails zs) f).1 g h (ends_less x xs last) b in
      (ap (λ y. y ∷ xs) (head_of x z (xs ++ ys) (zs ++ (ins ++ outs)) e) ∙ ap (λ ys. z ∷ ys) rest.0, rest.1)

  -- those that pass are told by the last of them
  pub same_inner : (xs ys ins outs : List X) → xs ++ ys ≡ ins ++ outs → list_all p ins ≡ true → list_all fails outs ≡ true →
      ends p xs ≡ true → begins p ys ≡ false → (xs ≡ ins) × (ys ≡ outs)
  same_inner [] ys ins outs e f g last b = absurd (true≢false (sym last))
  same_inner (x ∷ []) ys [] [] e f g last b = absurd (cc e)
  same_inner (x ∷ []) ys [] (o ∷ outs) e f g last b =
      absurd (never (p o) (ap p (sym (head_of x o ys outs e)) ∙ last) (both (not (p o)) (list_all fails outs) g).0)
  same_inner (x ∷ []) [] (i ∷ []) outs e f g last b = (ap (λ y. y ∷ []) (head_of x i [] outs e), tail_of x i [] outs e)
  same_inner (x ∷ []) [] (i ∷ j ∷ ins) outs e f g last b = absurd (cc (tail_of x i [] (j ∷ (ins ++ outs)) e))
  same_inner (x ∷ []) (y ∷ ys) (i ∷ []) outs e f g last b = (ap (λ y. y ∷ []) (head_of x i (y ∷ ys) outs e), tail_of x i (y ∷ ys) outs e)
  same_inner (x ∷ []) (y ∷ ys) (i ∷ j ∷ ins) outs e f g last b =
      let parts : (p i ≡ true) × (list_all p (j ∷ ins) ≡ true) = both (p i) (list_all p (j ∷ ins)) f in
      let next : (p j ≡ true) × (list_all p ins ≡ true) = both (p j) (list_all p ins) parts.1 in
      absurd (true≢false (sym next.0 ∙ ap p (sym (head_of y j ys (ins ++ outs) (tail_of x i (y ∷ ys) (j ∷ (ins ++ outs)) e))) ∙ b))
  same_inner (x ∷ w ∷ xs) ys [] [] e f g last b = absurd (cc e)
  same_inner (x ∷ w ∷ xs) ys [] (o ∷ outs) e f g last b =
      absurd (true≢false (sym last ∙ none_ends (x ∷ w ∷ xs) ys (o ∷ outs) e g))
    where
      none_ends : (xs ys zs : List X) → xs ++ ys ≡ zs → list_all fails zs ≡ true → ends p xs ≡ false
      none_ends [] ys zs e f = refl
      none_ends (x ∷ xs) ys [] e f = absurd (cc e)
      none_ends (x ∷ []) ys (z ∷ zs) e f = ap p (head_of x z ys zs e) ∙ not_true (p z) (both (not (p z)) (list_all fails zs) f).0
      none_ends (x ∷ w ∷ xs) ys (z ∷ zs) e f = none_ends (w ∷ xs) ys zs (tail_of x z (w ∷ (xs ++ ys)) zs e) (both (not (p z)) (list_all fails zs) f).1
  same_inner (x ∷ w ∷ xs) ys (i ∷ ins) outs e f g last b =
      let rest : (w ∷ xs ≡ ins) × (ys ≡ outs) =
      same_inner (w ∷ xs) ys ins outs (tail_of x i (w ∷ (xs ++ ys)) (ins ++ outs) e) (both (p i) (list_all p ins) f).1 g last b in
      (ap (λ y. y ∷ w ∷ xs) (head_of x i (w ∷ (xs ++ ys)) (ins ++ outs) e) ∙ ap (λ ys. i ∷ ys) rest.0, rest.1)

  -- Lists of lists

  pub begins_join : (xs ys : List X) → begins p xs ≡ false → begins p ys ≡ false → begins p (xs ++ ys) ≡ false
  begins_join [] ys e f = f
  begins_join (x ∷ xs) ys e f = e

  pub ends_join : (xs ys : List X) → ends p xs ≡ false → ends p ys ≡ false → ends p (xs ++ ys) ≡ false
  ends_join [] ys e f = f
  ends_join (x ∷ []) [] e f = e
  ends_join (x ∷ []) (y ∷ ys) e f = f
  ends_join (x ∷ w ∷ xs) ys e f = ends_join (w ∷ xs) ys e f

  pub none_begin : {Y : Type 0} (f : Y → List X) (ys : List Y) → list_any (λ y. begins p (f y)) ys ≡ false → begins p (flat_map f ys) ≡ false
  none_begin f [] e = refl
  none_begin f (y ∷ ys) e =
      let parts : (begins p (f y) ≡ false) × (list_any (λ y. begins p (f y)) ys ≡ false) = neither (begins p (f y)) (list_any (λ y. begins p (f y)) ys) e in
      begins_join (f y) (flat_map f ys) parts.0 (none_begin f ys parts.1)

  pub none_end : {Y : Type 0} (f : Y → List X) (ys : List Y) → list_any (λ y. ends p (f y)) ys ≡ false → ends p (flat_map f ys) ≡ false
  none_end f [] e = refl
  none_end f (y ∷ ys) e =
      let parts : (ends p (f y) ≡ false) × (list_any (λ y. ends p (f y)) ys ≡ false) = neither (ends p (f y)) (list_any (λ y. ends p (f y)) ys) e in
      ends_join (f y) (flat_map f ys) parts.0 (none_end f ys parts.1)

  -- the last item, by its number
  pub ends_at : (xs : List X) (d : X) → 0 < length xs → ends p xs ≡ p (slice_index_or xs (length xs - 1) d)
  ends_at [] d some = absurd (omega (arith, some))
  ends_at (x ∷ []) d some = refl
  ends_at (x ∷ y ∷ ys) d some = let one : 0 < length (y ∷ ys) = omega arith in ends_at (y ∷ ys) d one ∙ ap (λ n. p (slice_index_or (x ∷ y ∷ ys) n d)) (last (length ys))
    where
      last : (n : ℕ) → suc (suc n - 1) ≡ suc (suc n) - 1
      last n = omega arith

ends_map : {X Y : Type 0} (p : X → Bool) (f : Y → X) (ys : List Y) → ends p (map f ys) ≡ ends (λ y. p (f y)) ys
ends_map p f [] = refl
ends_map p f (y ∷ []) = refl
ends_map p f (y ∷ z ∷ ys) = ends_map p f (z ∷ ys)

-- the last item of a list that is worked out of another twice, by its number
pub ends_mapped : {X Y Z : Type 0} (p : X → Bool) (f : Y → X) (g : Z → Y) (zs : List Z) (d : Z) → 0 < length zs → p (f (g (slice_index_or zs (length zs - 1) d))) ≡ ends p (map f (map g zs))
ends_mapped p f g zs d some = sym (ends_at (λ z. p (f (g z))) zs d some) ∙ sym (ends_map (λ y. p (f y)) g zs) ∙ sym (ends_map p f (map g zs))

-- Which of the members of a type come down through one of its conditional subtypes.
use Rattle.std.proofs.Common.{◌≡◌, ◌≢◌, ◌∙◌, refl, sym, ap, ℕ, zero, suc, ◌+◌, ◌<◌, ◌⊎◌, inl, inr, ◌&&◌, ◌||◌, Bool, true, false, not, cond, List, [], ◌∷◌, ◌++◌, Option, Some, None, arith, map, length, filter, nat_eq}
use Rattle.std.specs.Prelude.{flat_map, option_to_list}
use Rattle.std.specs.Option.{option_map_or}
use Rattle.std.specs.List.{list_all}
use Rattle.std.proofs.lemmas.List.{append-nil}
use Rattle.std.proofs.lemmas.List.Elements.{filter-append}
use Rattle.std.proofs.lemmas.List.Folds.{list_all-map}
use Rattle.std.proofs.lemmas.Bool.Decides.{eqb_tells, nat_tests}
use Rattle.type_heads.specs.Table.{TypeHead, base, numbers_from}
use Rattle.type_heads.specs.Types.{Written, TypeBody}
use Rattle.type_heads.specs.Members.{has, Line, line_of, through, is_conditional, down_within, lines_within}
use Rattle.type_members.specs.Ancestry.{HasEnd}
use Rattle.type_members.proofs.Ancestry.{apart, end_more}
use Rattle.type_members.proofs.Downward.{all_down, all_lines, all_through, base_is}
use Rattle.type_members.proofs.Inheriting.{same_number}
use Rattle.type_members.proofs.ListTests.{all_always, all_same, all_weaker, both, none_any, none_kept}

-- a member comes through type c
abbrev pub comes : ℕ → Line → Bool
comes c l = has c l.through

unequal : (a b : ℕ) → a < b → nat_eq a b ≡ false
unequal a b less = grind (arith, nat_tests)

-- Members of the base's bases: what comes through the subtype comes through the base too

abbrev follows : ℕ → ℕ → Line → Bool
follows c b l = not (has c l.through) || has b l.through

differ : (heads : List TypeHead) (b c t x : ℕ) → nat_eq t b ≡ false → base heads c ≡ Some b → base heads x ≡ Some t → nat_eq c x ≡ false
differ heads b c t x other on at = by (eqb_tells c x) (eqb_tells t b)
  where
    by : ((nat_eq c x ≡ true) × (c ≡ x)) ⊎ ((nat_eq c x ≡ false) × (c ≢ x)) → ((nat_eq t b ≡ true) × (t ≡ b)) ⊎ ((nat_eq t b ≡ false) × (t ≢ b)) → nat_eq c x ≡ false
    by (inr (is, apart)) same = is
    by (inl (is, same)) (inl (equal, both)) = let never : false ≡ true = sym other ∙ equal in cc
    by (inl (is, same)) (inr (equal, apart)) = let one : Some t ≡ Some b = sym at ∙ ap (base heads) (sym same) ∙ on in absurd (apart cc)

always_or : (a : Bool) → (a || true) ≡ true
always_or true = refl
always_or false = refl

module _ (heads : List TypeHead) (bodies : List TypeBody) (b c : ℕ) (on : base heads c ≡ Some b) where
  follow_down : (steps t : ℕ) → nat_eq t b ≡ false → list_all (follows c b) (down_within steps heads bodies t) ≡ true
  follow_down zero t other = refl
  follow_down (suc steps) t other =
      all_down heads bodies (follows c b) steps t (λ w. refl) (λ x is at. by x (nat_eq b x) refl at (λ h. follow_down steps x h))
    where
      by : (x : ℕ) (e : Bool) → nat_eq b x ≡ e → base heads x ≡ Some t → (nat_eq x b ≡ false → list_all (follows c b) (down_within steps heads bodies x) ≡ true) →
          list_all (λ l. follows c b (through x l)) (down_within steps heads bodies x) ≡ true
      by x true is at rest =
          all_always (λ l. follows c b (through x l))
          (λ l. ap (λ e. not (has c (x ∷ l.through)) || (e || has b l.through)) is ∙ always_or (not (has c (x ∷ l.through)))) (down_within steps heads bodies x)
      by x false is at rest =
          all_same (λ l. follows c b (through x l)) (follows c b)
          (λ l. ap (λ e. not (e || has c l.through) || (nat_eq b x || has b l.through)) (differ heads b c t x other on at)
          ∙ ap (λ e. not (has c l.through) || (e || has b l.through)) is) (down_within steps heads bodies x)
          ∙ rest (same_number b x is)

  left_out : (ls : List Line) → list_all (follows c b) ls ≡ true → filter (comes c) (filter (λ l. not (has b l.through)) ls) ≡ []
  left_out [] f = refl
  left_out (l ∷ ls) f =
      let parts : (follows c b l ≡ true) × (list_all (follows c b) ls ≡ true) = both (follows c b l) (list_all (follows c b) ls) f in
      by (has b l.through) (has c l.through) refl refl parts.0 (left_out ls parts.1)
    where
      rest : List Line
      rest = filter (λ l. not (has b l.through)) ls

      by : (e f : Bool) → has b l.through ≡ e → has c l.through ≡ f → (not (has c l.through) || has b l.through) ≡ true → filter (comes c) rest ≡ [] →
          filter (comes c) (cond (not e) (l ∷ rest) rest) ≡ []
      by true f is at here on = on
      by false true is at here on =
          let never : false ≡ true = sym (ap (λ e. not e || has b l.through) at ∙ is) ∙ here in cc
      by false false is at here on = ap (λ e. cond e (l ∷ filter (comes c) rest) (filter (comes c) rest)) at ∙ on

  -- nothing of what the base inherits comes through the subtype
  pub none_far : (n d : ℕ) (o : Option ℕ) → HasEnd heads o d → HasEnd heads (Some b) (suc d) →
      filter (comes c) (flat_map (λ a. filter (λ l. not (has b l.through)) (lines_within n heads bodies a)) (option_to_list o)) ≡ []
  none_far n d None end deep = refl
  none_far n d (Some a) end deep =
      ap (filter (comes c)) (append-nil (filter (λ l. not (has b l.through)) (lines_within n heads bodies a)))
      ∙ left_out (lines_within n heads bodies a)
      (all_lines heads bodies (follows c b) n a d end
      (λ x e le h. follow_down (length heads) x (same_number b x (apart heads b x (suc d) e deep h (omega (arith, le))))))

-- What comes down from the base

pub none_written : (c t : ℕ) (ws : List Written) → filter (comes c) (map (line_of t) ws) ≡ []
none_written c t [] = refl
none_written c t (w ∷ ws) = none_written c t ws

-- a list of items for each number, of which only those of one number pass
module _ (p : Line → Bool) (f : ℕ → List Line) (q : ℕ → Bool) (c : ℕ) (others : (x : ℕ) → q x ≡ true → nat_eq c x ≡ false → filter p (f x) ≡ []) where
  pub none_after : (X : Type 0) (k : ℕ) (xs : List X) → c < k → filter p (flat_map f (filter q (numbers_from k xs))) ≡ []
  none_after X k [] less = refl
  none_after X k (x ∷ xs) less = by (q k) refl (none_after X (k + 1) xs (omega (arith, less)))
    where
      rest : List ℕ
      rest = filter q (numbers_from (k + 1) xs)

      by : (b : Bool) → q k ≡ b → filter p (flat_map f rest) ≡ [] → filter p (flat_map f (cond b (k ∷ rest) rest)) ≡ []
      by true is on = filter-append p (f k) (flat_map f rest) ∙ ap (λ ls. ls ++ filter p (flat_map f rest)) (others k is (unequal c k (omega (arith, less)))) ∙ on
      by false is on = on

module _ (heads : List TypeHead) (bodies : List TypeBody) (b c d : ℕ) (on : base heads c ≡ Some b) (end : HasEnd heads (Some b) d) where
  -- what comes down through another subtype of the base doesn't come through this one
  pub none_other : (steps x : ℕ) → (is_conditional bodies x && option_map_or (nat_eq b) (base heads x) false) ≡ true → nat_eq c x ≡ false →
      filter (comes c) (map (through x) (down_within steps heads bodies x)) ≡ []
  none_other steps x is other =
      let parts : (is_conditional bodies x ≡ true) × (option_map_or (nat_eq b) (base heads x) false ≡ true) =
      both (is_conditional bodies x) (option_map_or (nat_eq b) (base heads x) false) is in
      let deep : HasEnd heads (Some x) (d + 1) = end_more heads b x d (base_is b (base heads x) parts.1) end in
      let far : list_all (λ l. list_all (λ y. not (nat_eq c y)) l.through) (down_within steps heads bodies x) ≡ true =
      all_through heads bodies (λ y. not (nat_eq c y)) steps x (d + 1) deep
      (λ y e less h. ap not (same_number y c (apart heads y c e (d + 1) h (end_more heads b c d on end) less))) in
      none_kept (comes c) (map (through x) (down_within steps heads bodies x))
      (list_all-map (λ l. not (comes c l)) (through x) (down_within steps heads bodies x)
      ∙ all_weaker (λ l. list_all (λ y. not (nat_eq c y)) l.through) (λ l. not (comes c (through x l)))
      (λ l h. ap (λ e. not (e || has c l.through)) other ∙ sym (none_any (nat_eq c) l.through) ∙ h) (down_within steps heads bodies x) far)

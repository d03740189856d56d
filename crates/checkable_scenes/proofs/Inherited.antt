-- Types above and below a type, and the members that come of them.
use Rattle.std.proofs.Common.{◌≡◌, ℕ, zero, suc, ◌+◌, ◌≤◌, ◌<◌, refl, sym, ap, ◌∙◌, subst, ◌⊎◌, inl, inr, List, [], ◌∷◌, ◌++◌, true, false, ◌&&◌, not, Option, Some, None, map, length, arith, true≢false}
use Rattle.std.specs.Prelude.{⊤, filter, flat_map, option_to_list, nat_eq}
use Rattle.std.specs.Option.{option_map_or}
use Rattle.expr_eval.specs.type_heads.Table.{TypeHead, base, bases, line_within, all_types}
use Rattle.expr_eval.specs.type_heads.Types.{Written, TypeBody, Member}
use Rattle.expr_eval.specs.type_heads.Members.{has, body, is_conditional, subtypes, Line, line_of, through, down_within, down, lines_within, member_of, members_of}
use Rattle.run_values.proofs.of_field_flatten.Tests.{both, two_ways, number_self, left_of, right_of, number_is, In, in_left, in_right, in_either, in_map, map_in, in_flat_map, flat_map_in, in_filter, filter_in}
use Rattle.scene_laws.proofs.FaultRows.{not_so}
use Rattle.scene_laws.proofs.Picked.{of_option}
use Rattle.scene_laws.proofs.FieldNames.{Pairs, number_in}
use Rattle.scene_laws.proofs.WrittenMembers.{IsWrittenIn}
use Rattle.scene_laws.proofs.Acyclic.{Differ, has_in, in_has, few_below}
use Rattle.scene_laws.proofs.HeldTypes.{AreBased, types_below}

pub option_in : {A : Type 0} (o : Option A) (x : A) → o ≡ Some x → In x (option_to_list o)
option_in None x e = cc
option_in (Some y) x e = let same : y ≡ x = cc in inl (sym same)

module _ (heads : List TypeHead) (based : AreBased heads) (unlooped : (t : ℕ) → has t (bases heads t) ≡ false) where
  -- ---- lines

  line_next : (n : ℕ) (o : Option ℕ) (t b : ℕ) → In t (line_within n heads o) → base heads t ≡ Some b → In b (line_within (suc n) heads o)
  line_next zero o t b i e = absurd i
  line_next (suc n) None t b i e = absurd i
  line_next (suc n) (Some u) t b (inl same) e =
      let is : base heads u ≡ Some b = subst (λ z. base heads z ≡ Some b) same e in
      inr (subst (λ o. In b (line_within (suc n) heads o)) (sym is) (inl refl))
  line_next (suc n) (Some u) t b (inr i) e = inr (line_next n (base heads u) t b i e)

  less_more : (n m : ℕ) → suc n ≤ suc m → n ≤ m
  less_more n m h = omega (arith, h)

  line_more : (n m : ℕ) (o : Option ℕ) (t : ℕ) → n ≤ m → In t (line_within n heads o) → In t (line_within m heads o)
  line_more zero m o t l i = absurd i
  line_more (suc n) zero o t l i = absurd (none n l)
    where
      none : (k : ℕ) → suc k ≤ 0 → ⊥
      none k h = absurd (omega (arith, h))
  line_more (suc n) (suc m) None t l i = absurd i
  line_more (suc n) (suc m) (Some u) t l (inl same) = inl same
  line_more (suc n) (suc m) (Some u) t l (inr i) = inr (line_more n m (base heads u) t (less_more n m l) i)

  no_line : (n t : ℕ) → In t (line_within n heads None) → ⊥
  no_line zero t i = i
  no_line (suc n) t i = i

  looped : (t : ℕ) → In t (bases heads t) → ⊥
  looped t i = true≢false (sym (in_has t (bases heads t) i) ∙ unlooped t)

  -- the types below one on its way up are distinct, and as many steps are left as other types
  record Climb (n t : ℕ) : Type 0 where
    around : List ℕ
    below : t < length heads
    others : (x : ℕ) → In x around → x < length heads
    distinct : Pairs Differ (t ∷ around)
    room : length around + n ≡ length heads
    edges : (x : ℕ) → In x around → (k : ℕ) × (k ≤ length around) × In t (line_within k heads (base heads x))

  no_climb : (t : ℕ) → Climb zero t → ⊥
  no_climb t c = full (length c.around) (length heads) c.room (few_below (length heads) (t ∷ c.around) c.distinct (λ x i. all x i))
    where
      full : (k n : ℕ) → k + 0 ≡ n → suc k ≤ n → ⊥
      full k n e l = omega (arith, e, l)

      all : (x : ℕ) → In x (t ∷ c.around) → x < length heads
      all x (inl e) = subst (λ k. k < length heads) (sym e) c.below
      all x (inr i) = c.others x i

  climb_next : (n t b : ℕ) → Climb (suc n) t → base heads t ≡ Some b → Climb n b
  climb_next n t b c e = record {
    around = t ∷ c.around;
    below = based t b e;
    others = λ x i. others x i;
    distinct = (λ x i. new x i, c.distinct);
    room = moved (length c.around) n (length heads) c.room;
    edges = λ x i. edges x i;
  }
    where
      moved : (k m c : ℕ) → k + suc m ≡ c → suc k + m ≡ c
      moved k m c e = omega (arith, e)

      others : (x : ℕ) → In x (t ∷ c.around) → x < length heads
      others x (inl same) = subst (λ k. k < length heads) (sym same) c.below
      others x (inr i) = c.others x i

      next : In b (line_within 1 heads (base heads t))
      next = subst (λ o. In b (line_within 1 heads o)) (sym e) (inl refl)

      more : (k m : ℕ) → k ≤ m → suc k ≤ suc m
      more k m h = omega (arith, h)

      one_more : (k : ℕ) → 1 ≤ suc k
      one_more k = omega arith

      edges : (x : ℕ) → In x (t ∷ c.around) → (k : ℕ) × (k ≤ length (t ∷ c.around)) × In b (line_within k heads (base heads x))
      edges x (inl same) = (1, one_more (length c.around), subst (λ z. In b (line_within 1 heads (base heads z))) (sym same) next)
      edges x (inr i) = let g = c.edges x i in (suc g.0, more g.0 (length c.around) g.1, line_next g.0 (base heads x) t b g.2 e)

      fits : (k a m c : ℕ) → k ≤ suc a → a + suc m ≡ c → k ≤ c
      fits k a m c p q = omega (arith, p, q)

      new : (x : ℕ) → In x (t ∷ c.around) → b ≡ x → ⊥
      new x i same =
          let g = edges x i in
          looped x (line_more g.0 (length heads) (base heads x) x (fits g.0 (length c.around) n (length heads) g.1 c.room) (subst (λ z. In z (line_within g.0 heads (base heads x))) same g.2))

  -- a line that ends within some steps
  abbrev Ends : Option ℕ → ℕ → Type 0
  Ends None n = ⊤
  Ends (Some t) zero = ⊥
  Ends (Some t) (suc n) = Ends (base heads t) n

  climb_ends : (n t : ℕ) → Climb n t → Ends (Some t) n
  climb_ends zero t c = no_climb t c
  climb_ends (suc n) t c = by (base heads t) refl (λ b d. climb_ends n b d)
    where
      by : (o : Option ℕ) → base heads t ≡ o → ((b : ℕ) → Climb n b → Ends (Some b) n) → Ends o n
      by None e f = tt
      by (Some b) e f = f b (climb_next n t b c e)

  ends_more : (n : ℕ) (o : Option ℕ) → Ends o n → Ends o (suc n)
  ends_more n None e = tt
  ends_more zero (Some t) e = absurd e
  ends_more (suc n) (Some t) e = ends_more n (base heads t) e

  line_same : (n m : ℕ) (o : Option ℕ) → Ends o n → Ends o m → line_within n heads o ≡ line_within m heads o
  line_same zero zero None e f = refl
  line_same zero (suc m) None e f = refl
  line_same (suc n) zero None e f = refl
  line_same (suc n) (suc m) None e f = refl
  line_same zero m (Some t) e f = absurd e
  line_same (suc n) zero (Some t) e f = absurd f
  line_same (suc n) (suc m) (Some t) e f = ap (λ l. t ∷ l) (line_same n m (base heads t) e f)

  first_climb : (t : ℕ) → t < length heads → Climb (length heads) t
  first_climb t below = record {
    around = [];
    below = below;
    others = λ x i. absurd i;
    distinct = (λ x i. absurd i, tt);
    room = zero_more (length heads);
    edges = λ x i. absurd i;
  }
    where
      zero_more : (n : ℕ) → 0 + n ≡ n
      zero_more n = omega arith

  -- the types above one are its base and those above that
  pub bases_step : (t b : ℕ) → base heads t ≡ Some b → bases heads t ≡ b ∷ bases heads b
  bases_step t b e = ap (λ o. line_within (length heads) heads o) e ∙ step (length heads) (climb_ends (length heads) b (first_climb b (based t b e)))
    where
      step : (n : ℕ) → Ends (Some b) n → line_within n heads (Some b) ≡ b ∷ line_within n heads (base heads b)
      step zero f = absurd f
      step (suc n) f = ap (λ l. b ∷ l) (line_same n (suc n) (base heads b) f (ends_more n (base heads b) f))

  -- the first is the second or a type above it
  abbrev pub Up : ℕ → ℕ → Type 0
  Up a t = In a (t ∷ bases heads t)

  pub up_step : (a t b : ℕ) → base heads t ≡ Some b → Up a b → Up a t
  up_step a t b e i = inr (subst (In a) (sym (bases_step t b e)) i)

  up_trans_in : (n t b a : ℕ) → In b (line_within n heads (Some t)) → Up a b → Up a t
  up_trans_in zero t b a i j = absurd i
  up_trans_in (suc n) t b a (inl same) j = subst (λ z. Up a z) same j
  up_trans_in (suc n) t b a (inr i) j = by (base heads t) refl i (λ u k. up_trans_in n u b a k j)
    where
      by : (o : Option ℕ) → base heads t ≡ o → In b (line_within n heads o) → ((u : ℕ) → In b (line_within n heads (Some u)) → Up a u) → Up a t
      by None e k f = absurd (no_line n b k)
      by (Some u) e k f = up_step a t u e (f u k)

  pub up_trans : (t b a : ℕ) → Up b t → Up a b → Up a t
  up_trans t b a i j = up_trans_in (suc (length heads)) t b a i j

  line_below : (n : ℕ) (o : Option ℕ) → ((b : ℕ) → o ≡ Some b → b < length heads) → (x : ℕ) → In x (line_within n heads o) → x < length heads
  line_below zero o f x i = absurd i
  line_below (suc n) None f x i = absurd i
  line_below (suc n) (Some t) f x (inl e) = subst (λ k. k < length heads) (sym e) (f t refl)
  line_below (suc n) (Some t) f x (inr i) = line_below n (base heads t) (based t) x i

  pub up_below : (a t : ℕ) → t < length heads → Up a t → a < length heads
  up_below a t below (inl e) = subst (λ k. k < length heads) (sym e) below
  up_below a t below (inr i) = line_below (length heads) (base heads t) (based t) a i

  -- the types on the way up, and the one to which it leads
  abbrev Ups : ℕ → List ℕ → ℕ → Type 0
  Ups t [] a = a ≡ t
  Ups t (x ∷ xs) a = (x ≡ t) × (b : ℕ) × (base heads t ≡ Some b) × Ups b xs a

  in_ups : (n t a : ℕ) → In a (line_within n heads (Some t)) → (xs : List ℕ) × Ups t xs a
  in_ups zero t a i = absurd i
  in_ups (suc n) t a (inl e) = ([], e)
  in_ups (suc n) t a (inr i) = by (base heads t) refl i (λ u k. in_ups n u a k)
    where
      by : (o : Option ℕ) → base heads t ≡ o → In a (line_within n heads o) → ((u : ℕ) → In a (line_within n heads (Some u)) → (xs : List ℕ) × Ups u xs a) → (xs : List ℕ) × Ups t xs a
      by None e k f = absurd (no_line n a k)
      by (Some u) e k f = let g = f u k in (t ∷ g.0, (refl, u, e, g.1))

  ups_all : (xs : List ℕ) (t a : ℕ) → Ups t xs a → (y : ℕ) → In y (xs ++ a ∷ []) → Up y t
  ups_all [] t a u y (inl e) = inl (e ∙ u)
  ups_all [] t a u y (inr i) = absurd i
  ups_all (x ∷ xs) t a u y (inl e) = inl (e ∙ u.0)
  ups_all (x ∷ xs) t a u y (inr i) = up_step y t u.1 u.2 (ups_all xs u.1 a u.3 y i)

  ups_distinct : (xs : List ℕ) (t a : ℕ) → Ups t xs a → Pairs Differ (xs ++ a ∷ [])
  ups_distinct [] t a u = (λ y i. absurd i, tt)
  ups_distinct (x ∷ xs) t a u = (λ y i same. looped t (subst (λ l. In t l) (sym (bases_step t u.1 u.2)) (subst (λ z. Up z u.1) (sym same ∙ u.0) (ups_all xs u.1 a u.3 y i))), ups_distinct xs u.1 a u.3)

  ups_few : (xs : List ℕ) (t a : ℕ) → t < length heads → Ups t xs a → length xs < length heads
  ups_few xs t a below u = fewer (length xs) (length (xs ++ a ∷ [])) (length heads) (one_more xs) (few_below (length heads) (xs ++ a ∷ []) (ups_distinct xs t a u) (λ y i. up_below y t below (ups_all xs t a u y i)))
    where
      one_more : (ys : List ℕ) → length (ys ++ a ∷ []) ≡ suc (length ys)
      one_more [] = refl
      one_more (y ∷ ys) = ap suc (one_more ys)

      fewer : (k m n : ℕ) → m ≡ suc k → m ≤ n → k < n
      fewer k m n e l = omega (arith, e, l)

  -- ---- conditional subtypes, from a type down

  module _ (bodies : List TypeBody) where
    -- each a conditional subtype of the one before, down to a holder
    abbrev pub Chain : ℕ → List ℕ → ℕ → Type 0
    Chain t [] h = h ≡ t
    Chain t (c ∷ cs) h = (base heads c ≡ Some t) × (is_conditional bodies c ≡ true) × (c < length heads) × Chain c cs h

    pub chain_append : (xs ys : List ℕ) (a b h : ℕ) → Chain a xs b → Chain b ys h → Chain a (xs ++ ys) h
    chain_append [] ys a b h p q = subst (λ z. Chain z ys h) p q
    chain_append (x ∷ xs) ys a b h p q = (p.0, p.1, p.2, chain_append xs ys x b h p.3 q)

    pub chain_up : (cs : List ℕ) (a h : ℕ) → Chain a cs h → Up a h
    chain_up [] a h p = inl (sym p)
    chain_up (c ∷ cs) a h p = up_trans h c a (chain_up cs c h p.3) (up_step a c a p.0 (inl refl))

    pub chain_in : (cs : List ℕ) (a h s : ℕ) → Chain a cs h → In s cs → Up s h × (is_conditional bodies s ≡ true) × (s < length heads)
    chain_in [] a h s p i = absurd i
    chain_in (c ∷ cs) a h s p (inl e) = (subst (λ z. Up z h) (sym e) (chain_up cs c h p.3), subst (λ z. is_conditional bodies z ≡ true) (sym e) p.1, subst (λ z. z < length heads) (sym e) p.2)
    chain_in (c ∷ cs) a h s p (inr i) = chain_in cs c h s p.3 i

    -- the part of a chain above one of it
    pub chain_before : (cs : List ℕ) (a h s : ℕ) → Chain a cs h → In s cs → (pre : List ℕ) × (b : ℕ) × (base heads s ≡ Some b) × Chain a pre b
    chain_before [] a h s p i = absurd i
    chain_before (c ∷ cs) a h s p (inl e) = ([], a, subst (λ z. base heads z ≡ Some a) (sym e) p.0, refl)
    chain_before (c ∷ cs) a h s p (inr i) = let g = chain_before cs c h s p.3 i in (c ∷ g.0, g.1, g.2, (p.0, p.1, p.2, g.3))

    -- the part of a chain below one of it
    chain_from : (cs : List ℕ) (a h s : ℕ) → Chain a cs h → In s cs → (rest : List ℕ) × Chain s rest h × ((y : ℕ) → In y rest → In y cs)
    chain_from [] a h s p i = absurd i
    chain_from (c ∷ cs) a h s p (inl e) = (cs, subst (λ z. Chain z cs h) (sym e) p.3, λ y j. inr j)
    chain_from (c ∷ cs) a h s p (inr i) = let g = chain_from cs c h s p.3 i in (g.0, g.1, λ y j. inr (g.2 y j))

    -- what is above the holder is of the chain, or above its first type
    pub chain_above : (cs : List ℕ) (a h x : ℕ) → Chain a cs h → Up x h → In x cs ⊎ Up x a
    chain_above [] a h x p i = inr (subst (λ z. Up x z) p i)
    chain_above (c ∷ cs) a h x p i = elim (chain_above cs c h x p.3 i) as (λ _. In x (c ∷ cs) ⊎ Up x a) [
      | inl j ↦ inl (inr j)
      | inr j ↦ by j
    ]
      where
        by : Up x c → In x (c ∷ cs) ⊎ Up x a
        by (inl e) = inl (inl e)
        by (inr j) = inr (subst (In x) (bases_step c a p.0) j)

    chain_distinct : (cs : List ℕ) (a h : ℕ) → Chain a cs h → Pairs Differ (a ∷ cs)
    chain_distinct cs a h p = (λ y i same. looped y (above cs a h p y i same), rest cs a h p)
      where
        above : (cs : List ℕ) (a h : ℕ) → Chain a cs h → (y : ℕ) → In y cs → a ≡ y → In y (bases heads y)
        above cs a h p y i same =
            let g = chain_before cs a h y p i in
            let up = chain_up g.0 a g.1 g.3 in
            subst (In y) (sym (bases_step y g.1 g.2)) (subst (λ z. Up z g.1) same up)

        rest : (cs : List ℕ) (a h : ℕ) → Chain a cs h → Pairs Differ cs
        rest [] a h p = tt
        rest (c ∷ cs) a h p = (λ y i same. looped y (above cs c h p.3 y i same), rest cs c h p.3)

    chain_few : (cs : List ℕ) (a h : ℕ) → a < length heads → Chain a cs h → length cs < length heads
    chain_few cs a h below p = few_below (length heads) (a ∷ cs) (chain_distinct cs a h p) (λ x i. all x i)
      where
        all : (x : ℕ) → In x (a ∷ cs) → x < length heads
        all x (inl e) = subst (λ k. k < length heads) (sym e) below
        all x (inr i) = (chain_in cs a h x p i).2

    -- ---- lines

    subtype_is : (t c : ℕ) → In c (subtypes heads bodies t) → (base heads c ≡ Some t) × (is_conditional bodies c ≡ true) × (c < length heads)
    subtype_is t c i =
        let f = in_filter (λ c. is_conditional bodies c && option_map_or (nat_eq t) (base heads c) false) (all_types heads) c i in
        (by (base heads c) (right_of (is_conditional bodies c) _ f.1), left_of (is_conditional bodies c) _ f.1, types_below heads c f.0)
      where
        by : (o : Option ℕ) → option_map_or (nat_eq t) o false ≡ true → o ≡ Some t
        by None e = absurd (true≢false (sym e))
        by (Some b) e = ap Some (sym (number_is t b e))

    subtype_in : (t c : ℕ) → base heads c ≡ Some t → is_conditional bodies c ≡ true → c < length heads → In c (subtypes heads bodies t)
    subtype_in t c e d below =
        filter_in (λ c. is_conditional bodies c && option_map_or (nat_eq t) (base heads c) false) (all_types heads) c (number_in heads c below)
        (both (is_conditional bodies c) (option_map_or (nat_eq t) (base heads c) false) d (subst (λ o. option_map_or (nat_eq t) o false ≡ true) (sym e) (number_self t)))

    down_chain : (n t : ℕ) (l : Line) → In l (down_within n heads bodies t) → Chain t l.through l.holder
    down_chain zero t l i = absurd i
    down_chain (suc n) t l i =
        elim (in_either l (map (line_of t) (body bodies t).own ++ flat_map (λ c. map (through c) (down_within n heads bodies c)) (subtypes heads bodies t)) (map (line_of t) (body bodies t).more) i) as (λ _. Chain t l.through l.holder) [
          | inl j ↦ elim (in_either l (map (line_of t) (body bodies t).own) (flat_map (λ c. map (through c) (down_within n heads bodies c)) (subtypes heads bodies t)) j) as (λ _. Chain t l.through l.holder) [
            | inl k ↦ let g = map_in (line_of t) (body bodies t).own l k in subst (λ (z : Line). Chain t z.through z.holder) (sym g.2) refl
            | inr k ↦
                let g = flat_map_in (λ c. map (through c) (down_within n heads bodies c)) (subtypes heads bodies t) l k in
                let m = map_in (through g.0) (down_within n heads bodies g.0) l g.2 in
                let s = subtype_is t g.0 g.1 in
                subst (λ (z : Line). Chain t z.through z.holder) (sym m.2) (s.0, s.1, s.2, down_chain n g.0 m.0 m.1)
          ]
          | inr j ↦ let g = map_in (line_of t) (body bodies t).more l j in subst (λ (z : Line). Chain t z.through z.holder) (sym g.2) refl
        ]

    abbrev a_line : Written → ℕ → List ℕ → Line
    a_line w h cs = record { written = w; holder = h; through = cs }

    chain_down : (n t : ℕ) (cs : List ℕ) (h : ℕ) (w : Written) → IsWrittenIn heads bodies h w → Chain t cs h → length cs < n → In (a_line w h cs) (down_within n heads bodies t)
    chain_down zero t cs h w i p few = absurd (none (length cs) few)
      where
        none : (k : ℕ) → k < 0 → ⊥
        none k e = absurd (omega (arith, e))
    chain_down (suc n) t [] h w i p few = by i
      where
        abbrev_first : List Line
        abbrev_first = map (line_of t) (body bodies t).own

        middle : List Line
        middle = flat_map (λ c. map (through c) (down_within n heads bodies c)) (subtypes heads bodies t)

        moved : In (a_line w t []) (down_within (suc n) heads bodies t) → In (a_line w h []) (down_within (suc n) heads bodies t)
        moved j = subst (λ z. In (a_line w z []) (down_within (suc n) heads bodies t)) (sym p) j

        by : IsWrittenIn heads bodies h w → In (a_line w h []) (down_within (suc n) heads bodies t)
        by (inl j) = moved (in_left (a_line w t []) (map (line_of t) (body bodies t).own ++ flat_map (λ c. map (through c) (down_within n heads bodies c)) (subtypes heads bodies t)) (map (line_of t) (body bodies t).more)
            (in_left (a_line w t []) (map (line_of t) (body bodies t).own) (flat_map (λ c. map (through c) (down_within n heads bodies c)) (subtypes heads bodies t)) (in_map (line_of t) (body bodies t).own w (subst (λ z. In w (body bodies z).own) p j))))
        by (inr j) = moved (in_right (a_line w t []) (map (line_of t) (body bodies t).own ++ flat_map (λ c. map (through c) (down_within n heads bodies c)) (subtypes heads bodies t)) (map (line_of t) (body bodies t).more)
            (in_map (line_of t) (body bodies t).more w (subst (λ z. In w (body bodies z).more) p j)))
    chain_down (suc n) t (c ∷ cs) h w i p few =
        in_left (a_line w h (c ∷ cs)) (map (line_of t) (body bodies t).own ++ flat_map (λ c. map (through c) (down_within n heads bodies c)) (subtypes heads bodies t)) (map (line_of t) (body bodies t).more)
        (in_right (a_line w h (c ∷ cs)) (map (line_of t) (body bodies t).own) (flat_map (λ c. map (through c) (down_within n heads bodies c)) (subtypes heads bodies t))
        (in_flat_map (λ c. map (through c) (down_within n heads bodies c)) (subtypes heads bodies t) c (a_line w h (c ∷ cs)) (subtype_in t c p.0 p.1 p.2)
        (in_map (through c) (down_within n heads bodies c) (a_line w h cs) (chain_down n c cs h w i p.3 (less (length cs) n few)))))
      where
        less : (k m : ℕ) → suc k < suc m → k < m
        less k m e = omega (arith, e)

    -- a line of a type comes down from the type or from one above it
    lines_up : (n t : ℕ) (l : Line) → In l (lines_within n heads bodies t) → (a : ℕ) × Up a t × Chain a l.through l.holder
    lines_up zero t l i = absurd i
    lines_up (suc n) t l i =
        elim (in_either l (flat_map (λ b. filter (λ l. not (has t l.through)) (lines_within n heads bodies b)) (option_to_list (base heads t))) (down heads bodies t) i) as (λ _. (a : ℕ) × Up a t × Chain a l.through l.holder) [
          | inl j ↦
              let g = flat_map_in (λ b. filter (λ l. not (has t l.through)) (lines_within n heads bodies b)) (option_to_list (base heads t)) l j in
              let r = lines_up n g.0 l (in_filter (λ (l : Line). not (has t l.through)) (lines_within n heads bodies g.0) l g.2).0 in
              (r.0, up_step r.0 t g.0 (of_option (base heads t) g.0 g.1) r.1, r.2)
          | inr j ↦ (t, inl refl, down_chain (length heads) t l j)
        ]

    abbrev NoneIn : List ℕ → List ℕ → Type 0
    NoneIn xs cs = (x : ℕ) → In x xs → has x cs ≡ false

    ups_lines : (n t : ℕ) (xs : List ℕ) (a : ℕ) (cs : List ℕ) (h : ℕ) (w : Written) → Ups t xs a → length xs < n → t < length heads → Chain a cs h → IsWrittenIn heads bodies h w → NoneIn xs cs → In (a_line w h cs) (lines_within n heads bodies t)
    ups_lines zero t xs a cs h w u few below p i none = absurd (never (length xs) few)
      where
        never : (k : ℕ) → k < 0 → ⊥
        never k e = absurd (omega (arith, e))
    ups_lines (suc n) t [] a cs h w u few below p i none =
        in_right (a_line w h cs) (flat_map (λ b. filter (λ l. not (has t l.through)) (lines_within n heads bodies b)) (option_to_list (base heads t))) (down heads bodies t)
        (chain_down (length heads) t cs h w i (subst (λ z. Chain z cs h) u p) (chain_few cs t h below (subst (λ z. Chain z cs h) u p)))
    ups_lines (suc n) t (x ∷ xs) a cs h w u few below p i none =
        in_left (a_line w h cs) (flat_map (λ b. filter (λ l. not (has t l.through)) (lines_within n heads bodies b)) (option_to_list (base heads t))) (down heads bodies t)
        (in_flat_map (λ b. filter (λ l. not (has t l.through)) (lines_within n heads bodies b)) (option_to_list (base heads t)) u.1 (a_line w h cs) (option_in (base heads t) u.1 u.2)
        (filter_in (λ (l : Line). not (has t l.through)) (lines_within n heads bodies u.1) (a_line w h cs) (ups_lines n u.1 xs a cs h w u.3 (less (length xs) n few) (based t u.1 u.2) p i (λ y j. none y (inr j)))
        (not_so (has t cs) (subst (λ z. has z cs ≡ false) u.0 (none x (inl refl))))))
      where
        less : (k m : ℕ) → suc k < suc m → k < m
        less k m e = omega (arith, e)

    -- a chain that begins at the lowest type on the way up from which it leads to its holder
    record Lowest (t : ℕ) (cs : List ℕ) (h : ℕ) : Type 0 where
      ups : List ℕ
      top : ℕ
      rest : List ℕ
      leads : Ups t ups top
      chain : Chain top rest h
      none : NoneIn ups rest
      fewer : (y : ℕ) → In y rest → In y cs

    lowest : (xs : List ℕ) (t a : ℕ) (cs : List ℕ) (h : ℕ) → Ups t xs a → Chain a cs h → Lowest t cs h
    lowest [] t a cs h u p = record { ups = []; top = a; rest = cs; leads = u; chain = p; none = λ x i. absurd i; fewer = λ y i. i }
    lowest (x ∷ xs) t a cs h u p = two_ways (has t cs) (λ e. here e) (λ e. further e (lowest xs u.1 a cs h u.3 p))
      where
        here : has t cs ≡ true → Lowest t cs h
        here e = let g = chain_from cs a h t p (has_in t cs e) in record { ups = []; top = t; rest = g.0; leads = refl; chain = g.1; none = λ x i. absurd i; fewer = g.2 }

        further : has t cs ≡ false → Lowest u.1 cs h → Lowest t cs h
        further e l = record { ups = t ∷ l.ups; top = l.top; rest = l.rest; leads = (refl, u.1, u.2, l.leads); chain = l.chain; none = λ y i. by y i; fewer = l.fewer }
          where
            by : (y : ℕ) → In y (t ∷ l.ups) → has y l.rest ≡ false
            by y (inl same) = two_ways (has y l.rest) (λ f. absurd (true≢false (sym (in_has t cs (subst (λ z. In z cs) same (l.fewer y (has_in y l.rest f)))) ∙ e))) (λ f. f)
            by y (inr i) = l.none y i

    -- what is written in a holder at the end of a chain is a member of each type below the chain's first
    pub chain_member : (t a : ℕ) (cs : List ℕ) (h : ℕ) (w : Written) → t < length heads → Up a t → Chain a cs h → IsWrittenIn heads bodies h w
        → (m : Member) × In m (members_of heads bodies t) × (m.written ≡ w) × (m.holder ≡ h)
    chain_member t a cs h w below up p i =
        let u = in_ups (suc (length heads)) t a up in
        let l = lowest u.0 t a cs h u.1 p in
        let line = a_line w h l.rest in (
          member_of (t ∷ bases heads t) line,
          in_map (member_of (t ∷ bases heads t)) (lines_within (length heads) heads bodies t) line
              (ups_lines (length heads) t l.ups l.top l.rest h w l.leads (ups_few l.ups t l.top below l.leads) below l.chain i l.none),
          refl,
          refl,
        )

    -- where a member comes from, and what it is under
    pub record Comes (t : ℕ) (m : Member) : Type 0 where
      pub top : ℕ
      pub chain : List ℕ
      pub up : Up top t
      pub down : Chain top chain m.holder
      pub under : m.under ≡ filter (λ c. not (has c (t ∷ bases heads t))) chain

    pub member_comes : (t : ℕ) (m : Member) → In m (members_of heads bodies t) → Comes t m
    member_comes t m i =
        let g = map_in (member_of (t ∷ bases heads t)) (lines_within (length heads) heads bodies t) m i in
        let r = lines_up (length heads) t g.0 g.1 in
        subst (Comes t) (sym g.2) (record { top = r.0; chain = g.0.through; up = r.1; down = r.2; under = refl })

-- Conditions, one by one.
use Rattle.std.proofs.Common.{◌≡◌, ◌∙◌, refl, sym, ap, ℕ, zero, suc, ◌+◌, ◌-◌, ◌<◌, ◌≤◌, ◌||◌, Bool, true, false, cond, List, [], ◌∷◌, ◌++◌, Option, Some, None, map, filter_map, flat_map, option_to_list, length, drop, get_or, arith, append-nil, append_assoc}
use Rattle.std.specs.List.{cons_option, list_any}
use Rattle.std.proofs.lemmas.List.{drop_all, drop_more}
use Rattle.program_calls.specs.type_heads.Conditions.{Condition, condition}
use Rattle.program_calls.specs.type_heads.Types.{Types}
use Rattle.program_calls.specs.cond_inherit.Conditions.{conditions_within, once_after, same_condition}
use Rattle.program_calls.specs.cond_inherit.SubtypeConditions.{seen_condition}
use Rattle.program_calls.specs.cond_inherit.declared.condition.Condition.{Condition as OwnCondition}
use Rattle.program_texts.specs.SeenConditions.{conditions_after, with_earlier}

module _ {X Y Z : Type 0} (g : X → Option Y) (f : Y → List Z) where
  abbrev each_some : X → List Z
  each_some x = flat_map f (option_to_list (g x))

  -- what is made of what some things have
  flat_some : (xs : List X) → flat_map each_some xs ≡ flat_map f (filter_map g xs)
  flat_some [] = refl
  flat_some (x ∷ xs) = by (g x) (flat_some xs)
    where
      by : (o : Option Y) → flat_map each_some xs ≡ flat_map f (filter_map g xs) → flat_map f (option_to_list o) ++ flat_map each_some xs ≡ flat_map f (cons_option o (filter_map g xs))
      by None h = h
      by (Some y) h = ap (λ ys. ys ++ flat_map each_some xs) (append-nil (f y)) ∙ ap (λ ys. f y ++ ys) h

-- all conditions, one conditional subtype after another
pub within_are : (steps : ℕ) (ts : Types) (t : ℕ) (under : List ℕ) → 0 < steps → flat_map (conditions_after (steps - 1) ts t) under ≡ conditions_within steps ts t under
within_are zero ts t under h = absurd (omega (arith, h))
within_are (suc steps) ts t under h =
    let one : suc steps - 1 ≡ steps = omega arith in
    ap (λ n. flat_map (conditions_after n ts t) under) one ∙ flat_some (condition ts) (with_earlier steps ts t) under

-- nothing is left
pub within_end : (steps : ℕ) (ts : Types) (t : ℕ) (under : List ℕ) (i : ℕ) (new old : List Condition) → 0 < steps → length under ≤ i
    → new ++ flat_map (conditions_after (steps - 1) ts t) (drop i under) ≡ old ++ flat_map (conditions_after (steps - 1) ts t) under
    → new ≡ old ++ conditions_within steps ts t under
within_end steps ts t under i new old some end h =
    sym (append-nil new) ∙ ap (λ us. new ++ flat_map (conditions_after (steps - 1) ts t) us) (sym (drop_all i under end)) ∙ h
    ∙ ap (λ cs. old ++ cs) (within_are steps ts t under some)

-- no steps are left
pub within_none : (steps : ℕ) (ts : Types) (t : ℕ) (under : List ℕ) → steps ≡ 0 → [] ≡ conditions_within steps ts t under
within_none steps ts t under h = ap (λ n. conditions_within n ts t under) (sym h)

-- one that has no condition
pub after_none : (steps : ℕ) (ts : Types) (t subtype : ℕ) (xs : List Condition) → None ≡ condition ts subtype → xs ≡ xs ++ conditions_after steps ts t subtype
after_none steps ts t subtype xs h = sym (append-nil xs) ∙ ap (λ o. xs ++ flat_map (with_earlier steps ts t) (option_to_list o)) h

-- ---- each condition once

-- some conditions, the last one first, and then others
abbrev pub back : List Condition → List Condition → List Condition
back [] others = others
back (c ∷ cs) others = back cs (c ∷ others)

back_more : (cs : List Condition) (c : Condition) (others : List Condition) → back (cs ++ c ∷ []) others ≡ c ∷ back cs others
back_more [] c others = refl
back_more (d ∷ cs) c others = back_more cs c (d ∷ others)

or_turned : (a b d : Bool) → (b || (a || d)) ≡ ((a || b) || d)
or_turned true true d = refl
or_turned true false d = refl
or_turned false true d = refl
or_turned false false d = refl

any_back : (p : Condition → Bool) (cs others : List Condition) → list_any p (back cs others) ≡ (list_any p cs || list_any p others)
any_back p [] others = refl
any_back p (c ∷ cs) others = any_back p cs (c ∷ others) ∙ or_turned (p c) (list_any p cs) (list_any p others)

or_none : (b : Bool) → (b || false) ≡ b
or_none true = refl
or_none false = refl

-- a condition that is kept unless it is asked for before
abbrev pub once_more : List Condition → Condition → List Condition
once_more kept c = cond (list_any (same_condition c) kept) [] (c ∷ [])

-- one condition further
pub once_step : (kept : List Condition) (c : Condition) (cs new all : List Condition) → new ≡ kept ++ once_more kept c
    → kept ++ once_after (back kept []) (c ∷ cs) ≡ all → new ++ once_after (back new []) cs ≡ all
once_step kept c cs new all is before =
    ap (λ ks. ks ++ once_after (back ks []) cs) is ∙ by (list_any (same_condition c) kept) refl
    ∙ ap (λ b. kept ++ cond b (once_after (back kept []) cs) (c ∷ once_after (c ∷ back kept []) cs)) (sym (any_back (same_condition c) kept [] ∙ or_none (list_any (same_condition c) kept)))
    ∙ before
  where
    by : (b : Bool) → list_any (same_condition c) kept ≡ b → (kept ++ cond b [] (c ∷ [])) ++ once_after (back (kept ++ cond b [] (c ∷ [])) []) cs ≡ kept ++ cond b (once_after (back kept []) cs) (c ∷ once_after (c ∷ back kept []) cs)
    by true h = ap (λ ks. ks ++ once_after (back ks []) cs) (append-nil kept)
    by false h = ap (λ ks. (kept ++ c ∷ []) ++ once_after ks cs) (back_more kept c []) ∙ append_assoc kept (c ∷ []) (once_after (c ∷ back kept []) cs)

-- all of them
pub once_all : (kept : List Condition) (all : List Condition) → kept ++ once_after (back kept []) [] ≡ all → kept ≡ all
once_all kept all h = sym (append-nil kept) ∙ h

-- a condition further
pub once_for : (all kept new : List OwnCondition) (i : ℕ) (c : OwnCondition) → i < length all → c ≡ get_or all i c
    → map seen_condition new ≡ map seen_condition kept ++ once_more (map seen_condition kept) (seen_condition c)
    → map seen_condition kept ++ once_after (back (map seen_condition kept) []) (map seen_condition (drop i all)) ≡ once_after [] (map seen_condition all)
    → map seen_condition new ++ once_after (back (map seen_condition new) []) (map seen_condition (drop (i + 1) all)) ≡ once_after [] (map seen_condition all)
once_for all kept new i c lt at is before =
    once_step (map seen_condition kept) (seen_condition c) (map seen_condition (drop (i + 1) all)) (map seen_condition new) (once_after [] (map seen_condition all)) is
    (ap (λ xs. map seen_condition kept ++ once_after (back (map seen_condition kept) []) (map seen_condition xs)) (sym (drop_more all i c lt ∙ ap (λ x. x ∷ drop (i + 1) all) (sym at))) ∙ before)

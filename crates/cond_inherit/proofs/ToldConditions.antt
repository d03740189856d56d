-- What is told of the conditions on a type are the conditions of its conditional subtypes.
use Rattle.std.proofs.Common.{◌≡◌, ◌∙◌, refl, ap, ℕ, zero, suc, ◌+◌, ◌<◌, ◌&&◌, Bool, true, false, cond, List, [], ◌∷◌, Option, Some, None, map, length, nat_eq, arith, true≢false}
use Rattle.std.specs.Prelude.{ℤ, filter, filter_map, is_some, option_and_then, option_map, slice_index_or}
use Rattle.std.specs.Option.{option_map_or}
use Rattle.std.specs.List.{cons_option}
use Rattle.type_model.specs.dsl_tree.declared.compounds.HeirCondition.{HeirCondition}
use Rattle.type_model.specs.type_heads.Form.{Form}
use Rattle.type_model.specs.type_heads.Table.{base, numbers_from}
use Rattle.type_model.specs.type_heads.Types.{Types}
use Rattle.type_model.specs.type_heads.Members.{heir_condition, is_conditional, subtypes}
use Rattle.type_model.specs.type_heads.Conditions.{Condition, condition, condition_on, condition_value, field_form}
use Rattle.type_model.specs.type_heads.Told.{told}
use Rattle.cond_inherit.specs.SubtypeConditions.{condition_at, condition_under, conditions_on}

abbrev with_subtype : ℕ → Condition → Condition
with_subtype t c = record { field = c.field; value = c.value; subtype = t }

-- the condition of a type is that of itself as a subtype
own_subtype : (ts : Types) (t : ℕ) → option_map (with_subtype t) (condition ts t) ≡ condition ts t
own_subtype ts t = by_base (base ts.table.heads t)
  where
    by_value : (c : HeirCondition) (o : Option ℤ) → option_map (with_subtype t) (option_map (λ (n : ℤ). record { field = c.field.text; value = n; subtype = t }) o) ≡ option_map (λ (n : ℤ). record { field = c.field.text; value = n; subtype = t }) o
    by_value c None = refl
    by_value c (Some n) = refl

    by_form : (c : HeirCondition) (o : Option Form) →
        option_map (with_subtype t) (option_and_then (λ (f : Form). option_map (λ (n : ℤ). record { field = c.field.text; value = n; subtype = t }) (condition_value f c.value)) o)
        ≡ option_and_then (λ (f : Form). option_map (λ (n : ℤ). record { field = c.field.text; value = n; subtype = t }) (condition_value f c.value)) o
    by_form c None = refl
    by_form c (Some f) = by_value c (condition_value f c.value)

    by_heir : (b : ℕ) (o : Option HeirCondition) → option_map (with_subtype t) (option_and_then (condition_on ts t b) o) ≡ option_and_then (condition_on ts t b) o
    by_heir b None = refl
    by_heir b (Some c) = by_form c (field_form ts b c.field.text)

    by_base : (o : Option ℕ) → option_map (with_subtype t) (option_and_then (λ b. option_and_then (condition_on ts t b) (heir_condition ts.bodies t)) o)
        ≡ option_and_then (λ b. option_and_then (condition_on ts t b) (heir_condition ts.bodies t)) o
    by_base None = refl
    by_base (Some b) = by_heir b (heir_condition ts.bodies t)

-- a type that is no conditional subtype has no condition
none_without : (ts : Types) (t : ℕ) → is_conditional ts.bodies t ≡ false → condition ts t ≡ None
none_without ts t h = by_heir (heir_condition ts.bodies t) h (base ts.table.heads t)
  where
    by_heir : (o : Option HeirCondition) → is_some o ≡ false → (p : Option ℕ) → option_and_then (λ b. option_and_then (condition_on ts t b) o) p ≡ None
    by_heir None h None = refl
    by_heir None h (Some b) = refl
    by_heir (Some c) h p = absurd (true≢false h)

-- what is told of type n + k
told_at : {X : Type 0} (f : ℕ → Option Condition) (xs : List X) (n k m : ℕ) → k < length xs → m ≡ n + k → slice_index_or (map f (numbers_from n xs)) k None ≡ f m
told_at f [] n k m less is = absurd (omega arith)
told_at f (x ∷ xs) n zero m less is = let e : n ≡ m = omega arith in ap f e
told_at f (x ∷ xs) n (suc k) m less is =
    let l : k < length xs = omega arith in
    let e : m ≡ (n + 1) + k = omega arith in
    told_at f xs (n + 1) k m l e

-- one type
one_type : (ts : Types) (b t : ℕ) (rest : List ℕ) (conditions : List Condition) → condition_at (told ts) t ≡ condition ts t → conditions ≡ filter_map (condition ts) rest →
    cons_option (condition_under (told ts) b t) conditions
    ≡ filter_map (condition ts) (cond (is_conditional ts.bodies t && option_map_or (nat_eq b) (base ts.table.heads t) false) (t ∷ rest) rest)
one_type ts b t rest conditions at same = by (option_map_or (nat_eq b) (base ts.table.heads t) false) (is_conditional ts.bodies t) refl
  where
    by : (here is : Bool) → is_conditional ts.bodies t ≡ is →
        cons_option (cond here (condition_at (told ts) t) None) conditions ≡ filter_map (condition ts) (cond (is && here) (t ∷ rest) rest)
    by true true e = ap (λ o. cons_option o conditions) at ∙ ap (cons_option (condition ts t)) same
    by true false e = ap (λ o. cons_option o conditions) (at ∙ none_without ts t e) ∙ same
    by false true e = same
    by false false e = same

-- the types from a number on
types_from : {X : Type 0} (ts : Types) (b : ℕ) (xs : List X) (n : ℕ) → ((k t : ℕ) → k < length xs → t ≡ n + k → condition_at (told ts) t ≡ condition ts t) →
    filter_map (condition_under (told ts) b) (numbers_from n xs)
    ≡ filter_map (condition ts) (filter (λ c. is_conditional ts.bodies c && option_map_or (nat_eq b) (base ts.table.heads c) false) (numbers_from n xs))
types_from ts b [] n at = refl
types_from ts b (x ∷ xs) n at =
    let zero_less : 0 < length (x ∷ xs) = omega arith in
    let here : n ≡ n + 0 = omega arith in
    one_type ts b n (filter (λ c. is_conditional ts.bodies c && option_map_or (nat_eq b) (base ts.table.heads c) false) (numbers_from (n + 1) xs))
    (filter_map (condition_under (told ts) b) (numbers_from (n + 1) xs)) (at 0 n zero_less here)
    (types_from ts b xs (n + 1) (λ k t less is. let l : suc k < length (x ∷ xs) = omega arith in let e : t ≡ n + suc k = omega arith in at (suc k) t l e))

pub told_conditions : (ts : Types) (b : ℕ) → conditions_on (told ts) b ≡ filter_map (condition ts) (subtypes ts.table.heads ts.bodies b)
told_conditions ts b = types_from ts b ts.table.heads 0 at
  where
    at : (k t : ℕ) → k < length ts.table.heads → t ≡ 0 + k → condition_at (told ts) t ≡ condition ts t
    at k t less is =
        let l : t < length ts.table.heads = omega arith in
        let e : t ≡ 0 + t = omega arith in
        ap (option_map (with_subtype t)) (told_at (condition ts) ts.table.heads 0 t t l e) ∙ own_subtype ts t
